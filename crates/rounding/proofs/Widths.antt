-- The root's laws for a format's numbers as the code is given them, by replacing them with the format's own, and that every number on the way fits 64 bits.
use Rattle.std.proofs.Common.{◌≡◌, ℕ, ◌+◌, ◌-◌, ◌*◌, ◌/◌, ◌%◌, ◌^◌, ◌<◌, ◌≤◌, T, sym, refl, ap, ◌∙◌, subst, le_of_eq, lt_of_lt_of_le, mul_assoc, mul-lt-mul_of_pos_right, mul-div_cancel, arith, lit≤, pow_pos, pow_mono, pow-add, shl_exact}
use lib.Ieee.{Float, Format, binary32, binary64, prec, low, hid, ones, fits, of_bits, to_bits}
use lib.Ieee.Bits.{of_bits-to_bits}
use Rattle.rounding.specs.Inner.Pick.{digits_of}
use Rattle.rounding.specs.Root.{IsRoot}
use Rattle.rounding.specs.Inner.Digits.{first_pairs}
use Rattle.rounding.specs.Inner.Parts.{IsWholeRoot, IsNormalized, Widths, IsRootPattern}
use Rattle.rounding.proofs.Powers.{four-pow, pow-regroup}
use Rattle.rounding.proofs.RootLaw.{root_shift, shift-le-exponent, root-pattern-of, w-lt}

-- what holds of a format's own numbers holds of the numbers given
with-widths : {f : Format} {p h l : ℕ} (P : ℕ → ℕ → ℕ → Type 0) → Widths f p h l → P (prec f) (hid f) (low f) → P p h l
with-widths {f} {p} {h} {l} P W x = subst (λ (y : ℕ). P y h l) (sym W.digits) (subst (λ (y : ℕ). P (prec f) y l) (sym W.lead) (subst (λ (y : ℕ). P (prec f) (hid f) y) (sym W.least) x))

pub record FormatBounds (f : Format) (p h l : ℕ) : Type 0 where
  pub digits_ge : 2 ≤ p
  pub digits_le : p ≤ 53
  pub some : 0 < h
  pub lead : h ≤ 2 ^ 52
  pub twice : 2 * h ≡ 2 ^ p
  pub least : l ≤ 1074
  pub deep : h ≤ 2 ^ l
  pub fields : ones f ≤ 2047

pub format-bounds : {f : Format} {p h l : ℕ} → Widths f p h l → FormatBounds f p h l
format-bounds {f} W = with-widths (λ p h l. FormatBounds f p h l) W (of_format f)
  where
    of_format : (f : Format) → FormatBounds f (prec f) (hid f) (low f)
    of_format binary32 = record { digits_ge = lit≤ tt; digits_le = lit≤ tt; some = lit≤ tt; lead = lit≤ tt; twice = refl; least = lit≤ tt; deep = lit≤ tt; fields = lit≤ tt }
    of_format binary64 = record { digits_ge = lit≤ tt; digits_le = lit≤ tt; some = lit≤ tt; lead = lit≤ tt; twice = refl; least = lit≤ tt; deep = lit≤ tt; fields = lit≤ tt }

module _ {f : Format} {p h l : ℕ} (W : Widths f p h l) (b m e : ℕ) (some : 0 < b) (norm : IsNormalized (digits_of h b) (b / h - 1 + l) h m e) where
  pub shift_le : root_shift p e ≤ e
  shift_le = with-widths (λ p h l. IsNormalized (digits_of h b) (b / h - 1 + l) h m e → root_shift p e ≤ e) W (shift-le-exponent f b m e some) norm

  -- ---- the number of which the whole root is taken, at the top of 54 digits: p + 1 pairs
  abbrev pub shifted : ℕ
  shifted = m * 2 ^ (root_shift p e + 52 - p * 2)

  m-lt : m < 2 ^ p
  m-lt = lt_of_lt_of_le norm.less_than (le_of_eq (format-bounds W).twice)

  -- the shift drops nothing
  shift_is : shifted % 2 ^ 64 ≡ shifted
  shift_is = shl_exact p (root_shift p e + 52 - p * 2) 64 m-lt (omega (arith, (format-bounds W).digits_le))

  pub shift-lt : shifted % 2 ^ 64 < 2 ^ 54
  shift-lt =
      rw shift_is
      (lt_of_lt_of_le (mul-lt-mul_of_pos_right m-lt (pow_pos (root_shift p e + 52 - p * 2)))
      (rw (← pow-add 2 p (root_shift p e + 52 - p * 2)) (pow_mono {j = 54} (omega (arith, (format-bounds W).digits_le)))))

  pub shift-whole : first_pairs (shifted % 2 ^ 64) (p + 1) ≡ m * 2 ^ root_shift p e
  shift-whole = rw shift_is (ap (λ (x : ℕ). x / 2 ^ 54) grown ∙ mul-div_cancel (m * 2 ^ root_shift p e) (lit≤ tt))
    where
      grown : shifted * 4 ^ (p + 1) ≡ m * 2 ^ root_shift p e * 2 ^ 54
      grown =
          ap (λ (x : ℕ). shifted * x) (four-pow (p + 1)) ∙ sym (mul_assoc shifted (2 ^ (p + 1)) (2 ^ (p + 1)))
          ∙ pow-regroup m (root_shift p e + 52 - p * 2) (p + 1) (p + 1) (root_shift p e) 54 (omega (arith, (format-bounds W).digits_le))

  -- ---- the answer
  pub root-pattern-is : (w r : ℕ) → b < ones f * h → IsWholeRoot (m * 2 ^ root_shift p e) w r → IsRootPattern f b (((e - root_shift p e) / 2 + 1) * h + (w + 1) / 2)
  root-pattern-is w r fine root =
      with-widths (λ p h l. IsNormalized (digits_of h b) (b / h - 1 + l) h m e → b < ones f * h → IsWholeRoot (m * 2 ^ root_shift p e) w r → IsRootPattern f b (((e - root_shift p e) / 2 + 1) * h + (w + 1) / 2)) W
      (λ norm fine root. root-pattern-of f b m e some norm w r fine root) norm fine root

  pub whole-root-lt : (w r : ℕ) → IsWholeRoot (m * 2 ^ root_shift p e) w r → w < 4 * h
  whole-root-lt w r root =
      with-widths (λ p h l. h ≤ m → m < 2 * h → root_shift p e ≤ e → IsWholeRoot (m * 2 ^ root_shift p e) w r → w < 4 * h) W (w-lt f m e w r) norm.at_least norm.less_than shift_le root

-- a finite value's pattern fits 64 bits
pub pattern_lt : {f : Format} {b r : ℕ} → IsRootPattern f b r → r < 2 ^ 64
pattern_lt {f} R = lt_of_lt_of_le R.finite (most f)
  where
    most : (f : Format) → ones f * hid f ≤ 2 ^ 64
    most binary32 = lit≤ tt
    most binary64 = lit≤ tt

-- and its value is the root of the value whose pattern it was taken of
pub root-of-bits : {f : Format} {r : ℕ} (x : Float) → T (fits f x) → IsRootPattern f (to_bits f x) r → IsRoot f x (of_bits f r)
root-of-bits {f} {r} x t R = subst (λ (y : Float). IsRoot f y (of_bits f r)) (of_bits-to_bits f x t) R.is
