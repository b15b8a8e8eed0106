-- Narrowing from pattern to pattern: the sign is carried over, and the pattern without it is narrowed (`IsNarrowedPattern`). Every NaN's pattern gives that of `nan`, and no other pattern does.
use Rattle.std.proofs.Common.{◌≡◌, ℕ, ◌+◌, ◌-◌, ◌*◌, ◌/◌, ◌%◌, ◌<◌, Bool, true, false, cond, not, T, sym, refl, ap, ◌∙◌, subst, le_of_suc-le-suc, add-sub_of_le, lt_of_not-le, zero-add, arith}
use native.Mathlib.Decide.{dec_lt}
use lib.Ieee.{Float, nan, inf, fin, binary32, binary64, hid, ones, top, up, down, of_bits, to_bits, fits, is_nan, nan_bits}
use lib.Ieee.Bits.{of_bits-to_bits, nan_bits_is}
use lib.Ieee.Compare.{nan_differs}
use lib.Ieee.Fits.{nan-fits, inf-fits, round-fits}
use Rattle.float_laws.proofs.Nan.{nan-encoded, nan_pattern}
use Rattle.rounding.specs.Narrow.{IsNarrowed, narrowed}
use Rattle.rounding.specs.Inner.Parts.{IsNarrowedPattern}
use Rattle.rounding.proofs.Patterns.{signed, to_bits-signed}
use Rattle.rounding.proofs.NarrowLaw.{narrowed-is, narrowed-unique}

-- ---- the f32 of a value is a value of the format, and NaN only for NaN
pub narrowed-fits : (x : Float) → T (fits binary32 (narrowed x))
unfolding narrowed
narrowed-fits nan = nan-fits binary32
narrowed-fits (inf s) = inf-fits binary32 s
narrowed-fits (fin s m e) = round-fits binary32 s (m * up e) (down e)

narrowed-number : (x : Float) → T (not (is_nan x)) → T (not (is_nan (narrowed x)))
unfolding is_nan
narrowed-number nan n = absurd n
narrowed-number (inf s) n = rw (sym (narrowed-unique (inf s) (inf s) refl)) tt
narrowed-number (fin s m e) n = go (narrowed (fin s m e)) (narrowed-is (fin s m e))
  where
    go : (y : Float) → IsNarrowed (fin s m e) y → T (not (is_nan y))
    go nan h = h.has_size
    go (inf t) h = tt
    go (fin t n d) h = tt

-- ---- so the pattern of a number's f32 is read back
module _ (x : Float) (r : ℕ) (is : r ≡ to_bits binary32 (narrowed x)) where
  of_bits-narrowed : of_bits binary32 r ≡ narrowed x
  of_bits-narrowed = ap (of_bits binary32) is ∙ of_bits-to_bits binary32 (narrowed x) (narrowed-fits x)

  pub narrowed-bits-number : T (not (is_nan x)) → T (not (nan_bits binary32 r))
  narrowed-bits-number n = rw (nan_bits_is binary32 r, of_bits-narrowed) (narrowed-number x n)

  pub narrowed-by-bits : IsNarrowed x (of_bits binary32 r)
  narrowed-by-bits = rw of_bits-narrowed (narrowed-is x)

-- ---- from pattern to pattern
pub narrow-nan-bits : (b : ℕ) → ones binary64 * hid binary64 < b % top binary64 → 0x7fc0_0000 ≡ to_bits binary32 (narrowed (of_bits binary64 b))
narrow-nan-bits b h = let e = nan_pattern binary64 b h in rw (e, sym (narrowed-unique nan nan refl)) (nan-encoded binary32 nan nan_differs)

pub narrow-number-bits : (b r : ℕ) → b < 2 * top binary64 → IsNarrowedPattern (b % top binary64) r → b / top binary64 * top binary32 + r ≡ to_bits binary32 (narrowed (of_bits binary64 b))
narrow-number-bits b r l N = go (dec_lt b (top binary64))
  where
    answer : (s : Bool) (q a : ℕ) → b / top binary64 ≡ q → b % top binary64 ≡ a → cond s (top binary64) 0 + a ≡ b → q * top binary32 ≡ cond s (top binary32) 0 → b / top binary64 * top binary32 + r ≡ to_bits binary32 (narrowed (of_bits binary64 b))
    answer s q a whole rest join sign =
        rw (whole, sign)
        (sym (to_bits-signed binary32 s r N.not_nan)
        ∙ ap (to_bits binary32) (narrowed-unique (of_bits binary64 b) (signed binary32 s r) (rw (← join) (subst (λ (x : ℕ). IsNarrowed (signed binary64 s x) (signed binary32 s r)) rest (N.is s)))))

    go : Dec (b < top binary64) → b / top binary64 * top binary32 + r ≡ to_bits binary32 (narrowed (of_bits binary64 b))
    go (yes h) = answer false 0 b (omega arith) (omega arith) (zero-add b) refl
    go (no n) = let h = le_of_suc-le-suc (lt_of_not-le n) in answer true 1 (b - top binary64) (omega arith) (omega arith) (add-sub_of_le h) refl
