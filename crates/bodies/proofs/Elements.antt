-- Laws of elements: the code's literals and bits as units, and that each element is a value of its width.
use mathlib.Core.Path.{◌≡◌, refl, sym, ap, ◌∙◌}
use mathlib.Core.Bool.{Bool, true, false}
use mathlib.Core.List.{List}
use Prim.Native.Nat.{ℕ, ◌*◌}
use native.Mathlib.Omega.{arith}
use lib.Dec.{T, eqb}
use lib.IntN.{pos}
use lib.ListN.{get_or}
use lib.Ieee.{Format, binary32, binary64, fits, mul, neg, eq, of_int, of_bits}
use lib.Ieee.Fits.{add-fits, fits_widens}
use borrow.Author.Tests.{eq-eqb, ne_eqb}
use Rattle.float_laws.specs.Zero.{plus_zero}
use Rattle.little_endian.specs.Bytes.{f32_at, width}
use Rattle.little_endian.proofs.Floats.{float_at-fits}
use Rattle.vector_types.specs.Layout.{bit_at}
use Rattle.bodies.specs.Elements.{dense_element, unit, bit_element, alpha_of, shift_of, float8_element}

-- the literals 0.0 and 1.0
pub literal-zero : (f : Format) → of_bits f 0 ≡ plus_zero
unfolding of_bits
literal-zero binary32 = refl
literal-zero binary64 = refl

literal-one : of_bits binary32 0x3f80_0000 ≡ unit false
unfolding of_bits
literal-one = refl

-- the unit of a bit that is 1, and of one that is not
module _ (body : List ℕ) (i : ℕ) where
  pub unit-set : bit_at body i ≡ 1 → of_bits binary32 0x3f80_0000 ≡ bit_element body i
  unit-set e = literal-one ∙ ap unit (sym (ne_eqb (bit_at body i) 0 (omega arith)))

  pub unit-clear : (bit_at body i ≡ 1 → ⊥) → neg (of_bits binary32 0x3f80_0000) ≡ bit_element body i
  unfolding neg
  unit-clear e = ap neg literal-one ∙ ap unit (sym (eq-eqb (bit_at body i) 0 (omega (arith, e))))

-- a unit is not zero
pub unit-not-zero : (s : Bool) → eq (unit s) plus_zero ≡ false
unfolding eq
unit-not-zero true = refl
unit-not-zero false = refl

unit-fits : (f : Format) (s : Bool) → T (fits f (unit s))
unfolding fits
unit-fits binary32 true = tt
unit-fits binary32 false = tt
unit-fits binary64 true = tt
unit-fits binary64 false = tt

-- an f32 fits either width
pub single-fits : (f : Format) (s : List ℕ) (i : ℕ) → T (fits f (f32_at s i))
single-fits binary32 s i = float_at-fits binary32 s i
single-fits binary64 s i = fits_widens (f32_at s i) (float_at-fits binary32 s i)

pub dense-fits : (f : Format) (body : List ℕ) (i : ℕ) → T (fits f (dense_element f body i))
dense-fits f body i = float_at-fits f body (width f * i)

pub bit-fits : (f : Format) (body : List ℕ) (i : ℕ) → T (fits f (bit_element body i))
bit-fits f body i = unit-fits f (eqb (bit_at body i) 0)

pub float8-fits : (f : Format) (d : ℕ) (body : List ℕ) (i : ℕ) → T (fits f (float8_element f d body i))
float8-fits f d body i = add-fits f (mul f (alpha_of d body) (of_int f (pos (get_or body i 0)))) (shift_of d body)
