-- The root of special values, which are not rounded: zeros, infinities, numbers below zero, NaN. By cases of the value, for both formats at once.
use Rattle.std.proofs.Common.{◌≡◌, ℕ, zero, suc, ◌*◌, ◌<◌, ◌≤◌, Bool, true, false, not, T, eqb, ◌⊎◌, ℤ, pos, sym, refl, ap, ◌∙◌, subst, inl, inr, true≢false, le_trans, le_of_eq, lt_of_le_of_lt, lt_irrefl, zero-lt-suc, eq-zero-or-pos, mul-pos, zero-mul, eqb→eq, ltb-true, lt-ltb}
use native.Mathlib.Nat.{mod-le}
use mathlib.Core.Bool.{false≢true}
use lib.Ieee.{Float, nan, inf, fin, Format, binary32, binary64, up, down, hid, ones, top, level, lt, eq, div, of_bits, to_bits, fits, is_nan, nan_bits}
use lib.Ieee.Bits.{of_bits-to_bits}
use lib.Ieee.Fits.{up_pos, and_l}
use Rattle.float_laws.proofs.Nan.{zero_by_zero, number-pattern}
use Rattle.rounding.specs.Root.{IsRoot}
use Rattle.rounding.proofs.Patterns.{to_bits_lt}

pub of_bits-zero : (f : Format) → of_bits f 0 ≡ fin false 0 (pos 0)
unfolding of_bits
of_bits-zero binary32 = refl
of_bits-zero binary64 = refl

-- ---- above zero: an infinity, or a finite number
abbrev Above : Float → Type 0
Above x = (x ≡ inf false) ⊎ ((m : ℕ) × (e : ℤ) × (x ≡ fin false (suc m) e))

above_zero : (x : Float) → lt (fin false 0 (pos 0)) x ≡ true → Above x
unfolding lt
above_zero nan h = absurd (false≢true h)
above_zero (inf true) h = absurd (false≢true h)
above_zero (inf false) h = inl refl
above_zero (fin true n d) h = absurd (false≢true h)
above_zero (fin false zero d) h = absurd (lt_irrefl 0 (rw (zero-mul (down d), zero-mul (up d)) at (ltb-true (0 * 1 * down d) (0 * up d * 1) h)))
above_zero (fin false (suc n) d) h = inr (n, d, refl)

module _ (f : Format) (x : Float) (h : lt (of_bits f 0) x ≡ true) where
  above : Above x
  above = above_zero x (rw (of_bits-zero f) at h)

  pub above-number : T (not (is_nan x))
  unfolding is_nan
  above-number = go above
    where
      go : Above x → T (not (is_nan x))
      go (inl e) = rw e tt
      go (inr w) = rw w.2 tt

  pub bits_pos : T (fits f x) → 0 < to_bits f x
  unfolding lt
  bits_pos t = go (eq-zero-or-pos (to_bits f x))
    where
      go : (to_bits f x ≡ 0) ⊎ (0 < to_bits f x) → 0 < to_bits f x
      go (inr p) = p
      go (inl z) = let e : x ≡ fin false 0 (pos 0) = sym (of_bits-to_bits f x t) ∙ ap (of_bits f) z ∙ of_bits-zero f in absurd (false≢true (rw (of_bits-zero f, e) at h))

  -- a pattern that is no finite number's is an infinity's
  pub infinite-root : T (fits f x) → ones f * hid f ≤ to_bits f x → IsRoot f x x
  infinite-root t b = go above
    where
      go : Above x → IsRoot f x x
      go (inl e) = rw e refl
      go (inr w) =
          absurd (lt_irrefl (ones f * hid f) (lt_of_le_of_lt b (rw w.2 (to_bits_lt f (suc w.0) w.1 (rw w.2 at t)))))

-- ---- a zero is its own root
pub zero-root : (f : Format) (x : Float) → eq x (of_bits f 0) ≡ true → IsRoot f x x
unfolding eq
zero-root f x h = go x (rw (of_bits-zero f) at h)
  where
    nonzero : (m : ℕ) (e : ℤ) → suc m * up e * 1 ≡ 0 * 1 * down e → ⊥
    nonzero m e h = lt_irrefl 0 (subst (λ (y : ℕ). 0 < y) (h ∙ zero-mul (down e)) (mul-pos (mul-pos (zero-lt-suc m) (up_pos e)) (zero-lt-suc 0)))

    go : (x : Float) → eq x (fin false 0 (pos 0)) ≡ true → IsRoot f x x
    go nan h = refl
    go (inf s) h = absurd (false≢true h)
    go (fin s zero e) h = refl
    go (fin s (suc m) e) h = absurd (nonzero m e (eqb→eq (suc m * up e * 1) (0 * 1 * down e) (and_l (eqb (suc m * up e * 1) (0 * 1 * down e)) _ (subst T (sym h) tt))))

-- ---- elsewhere it is NaN
pub nan-root : (f : Format) (x : Float) → lt (of_bits f 0) x ≡ false → eq x (of_bits f 0) ≡ false → IsRoot f x (div f (of_bits f 0) (of_bits f 0))
unfolding lt eq
nan-root f x h k = rw (zero_by_zero f) (go x (rw (of_bits-zero f) at h) (rw (of_bits-zero f) at k))
  where
    level-zero : (s : Bool) (a b : ℕ) → a ≡ 0 → b ≡ 0 → level s a false b ≡ true
    level-zero true a b p q = rw (p, q)
    level-zero false a b p q = rw (p, q)

    go : (x : Float) → lt (fin false 0 (pos 0)) x ≡ false → eq x (fin false 0 (pos 0)) ≡ false → IsRoot f x nan
    go nan h k = refl
    go (inf true) h k = refl
    go (inf false) h k = absurd (true≢false h)
    go (fin true (suc m) e) h k = refl
    go (fin false (suc m) e) h k =
        absurd (true≢false (sym (lt-ltb (0 * 1 * down e) (suc m * up e * 1) (lt_of_le_of_lt (le_of_eq (zero-mul (down e))) (mul-pos (mul-pos (zero-lt-suc m) (up_pos e)) (zero-lt-suc 0)))) ∙ h))
    go (fin s zero e) h k = absurd (true≢false (sym (level-zero s (0 * up e * 1) (0 * 1 * down e) (ap (λ (y : ℕ). y * 1) (zero-mul (up e))) (zero-mul (down e))) ∙ k))

-- ---- a pattern up to an infinity's is no NaN's
pub not-nan-bits : (f : Format) (b : ℕ) → b ≤ ones f * hid f → T (not (nan_bits f b))
not-nan-bits f b h = number-pattern f b (le_trans (mod-le b (top f)) h)
