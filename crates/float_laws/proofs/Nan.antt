-- The two tests for a NaN, of a pattern and of a value, by the kit's laws of patterns; and what code answers by them: 0 / 0, and one pattern.
use mathlib.Core.Path.{◌≡◌, refl, sym, ap, subst, ◌∙◌}
use mathlib.Core.Bool.{true, false, not}
use Prim.Native.Nat.{ℕ, ◌+◌, ◌*◌, ◌/◌, ◌%◌, ◌<◌, ◌≤◌}
use borrow.Author.Tests.{lt-ltb, le-ltb}
use lib.Dec.{T, ltb}
use lib.Ieee.{Float, nan, inf, fin, Format, binary32, binary64, is_nan, nan_bits, ones, hid, top, ne, div, of_bits, to_bits}
use lib.Ieee.Bits.{nan_bits_is, nan_bits_above}
use lib.Ieee.Compare.{differs_from_itself, nan_differs}

is-nan : (x : Float) → is_nan x ≡ true → x ≡ nan
unfolding is_nan
is-nan nan e = refl
is-nan (inf s) e = cc
is-nan (fin s m k) e = cc

pub zero_by_zero : (f : Format) → div f (of_bits f 0) (of_bits f 0) ≡ nan
unfolding div of_bits
zero_by_zero binary32 = refl
zero_by_zero binary64 = refl

-- a pattern above an infinity's, the sign aside, is a NaN's
pub nan-tested : (f : Format) (b : ℕ) → is_nan (of_bits f b) ≡ ltb (ones f * hid f) (b % top f)
nan-tested f b = sym (nan_bits_is f b) ∙ nan_bits_above f b

pub nan_pattern : (f : Format) (b : ℕ) → ones f * hid f < b % top f → of_bits f b ≡ nan
nan_pattern f b h = is-nan (of_bits f b) (nan-tested f b ∙ lt-ltb _ _ h)

-- code answers 0 / 0
pub nan-decoded : (f : Format) (b : ℕ) → ones f * hid f < b % top f → div f (of_bits f 0) (of_bits f 0) ≡ of_bits f b
nan-decoded f b h = zero_by_zero f ∙ sym (nan_pattern f b h)

-- and no other pattern is
pub number-pattern : (f : Format) (b : ℕ) → b % top f ≤ ones f * hid f → T (not (nan_bits f b))
number-pattern f b h = rw (nan_bits_above f b, le-ltb _ _ h) tt

-- a value that differs from itself is NaN: code writes the pattern with the sign clear and the highest digit alone
pub nan-encoded : (f : Format) (x : Float) → ne x x ≡ true → ones f * hid f + hid f / 2 ≡ to_bits f x
unfolding to_bits
nan-encoded f x e = sym (ap (to_bits f) (differs_from_itself x (rw e tt)))

-- and no other value does
pub number-value : (x : Float) → ne x x ≡ false → T (not (is_nan x))
unfolding is_nan
number-value nan e = subst T (sym nan_differs ∙ e) tt
number-value (inf s) e = tt
number-value (fin s m k) e = tt
