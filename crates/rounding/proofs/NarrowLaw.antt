-- `narrowed` is the one value that `IsNarrowed` allows (by `round-nearest` and `nearest-unique`), and rounding a pattern's digits gives the pattern of the f32: by the law of the nearest pattern (`Round`).
use Rattle.std.proofs.Common.{◌≡◌, ℕ, suc, ◌+◌, ◌-◌, ◌*◌, ◌/◌, ◌%◌, ◌^◌, ◌<◌, ◌≤◌, Bool, true, false, cond, T, eqb, ◌⊎◌, sym, refl, ap, subst, inl, inr, le_trans, le_of_eq, le_refl, lt_of_lt_of_le, le_of_suc-le-suc, le_of_lt, div-lt_iff_lt-mul, eq-or-lt_of_le, mul-le-mul_left, mul-lt-mul_of_pos_right, lt_of_not-le, div-add-mod', le-div_iff_mul-le, zero-add, le-add_left, arith, eqb→eq, pow_pos, pow_mono, pow-add, ne_eqb}
use native.Mathlib.Nat.{pow-succ'}
use native.Mathlib.Decide.{dec_lt}
use lib.Ieee.{Float, nan, inf, fin, binary32, binary64, low, up, down, hid, ones, ne, div, of_bits}
use lib.Ieee.Compare.{differs_from_itself}
use lib.Ieee.Exact.{HasValue}
use lib.Ieee.Fits.{down_pos}
use lib.Ieee.Nearest.{closest}
use Rattle.rounding.specs.Nearest.{Nearest}
use Rattle.rounding.specs.Inner.Pick.{digits_of, count}
use Rattle.rounding.specs.Narrow.{IsNarrowed, narrowed, NarrowedExactly}
use Rattle.rounding.specs.Inner.Parts.{IsNarrowedPattern}
use Rattle.rounding.proofs.Closest.{closest-le, closest-zero, closest-add-even, closest-by-division}
use Rattle.rounding.proofs.Powers.{pow-regroup}
use Rattle.rounding.proofs.Patterns.{Full, digits_lt, signed, signed-infinity, signed-value, count-is}
use Rattle.rounding.proofs.Nearest.{nearest-unique, nearest-scale}
use Rattle.rounding.proofs.Round.{round-nearest, nearest_finite, nearest-overflow}
use Rattle.float_laws.proofs.Nan.{zero_by_zero}

-- ---- one value, and only one
pub narrowed-is : (x : Float) → IsNarrowed x (narrowed x)
unfolding narrowed
narrowed-is nan = refl
narrowed-is (inf s) = refl
narrowed-is (fin s m e) = round-nearest binary32 s (m * up e) (down e) (down_pos e)

pub narrowed-unique : (x y : Float) → IsNarrowed x y → y ≡ narrowed x
unfolding narrowed
narrowed-unique nan y h = h
narrowed-unique (inf s) y h = h
narrowed-unique (fin s m e) y h =
    nearest-unique binary32 s _ (λ M. M * down e) (λ a b l. mul-lt-mul_of_pos_right l (down_pos e)) h (round-nearest binary32 s (m * up e) (down e) (down_pos e))

pub narrowed-exactly : NarrowedExactly
narrowed-exactly x y = (narrowed-unique x y, λ e. subst (λ (z : Float). IsNarrowed x z) (sym e) (narrowed-is x))

pub nan-narrowed : (x : Float) → ne x x ≡ true → IsNarrowed x (div binary32 (of_bits binary32 0) (of_bits binary32 0))
nan-narrowed x h = rw (differs_from_itself x (subst T (sym h) tt)) (zero_by_zero binary32)

-- x is X of an f64's smallest values, so X * 2 ^ 149 / 2 ^ 1074 of an f32's
narrowed-by-value : (x : Float) (s : Bool) (X : ℕ) (y : Float) → HasValue x s X (2 ^ low binary64) → Nearest binary32 s (2 * (X * 2 ^ low binary32)) (λ M. M * 2 ^ low binary64) y → IsNarrowed x y
narrowed-by-value nan s X y v n = absurd v
narrowed-by-value (inf t) s X y v n = absurd v
narrowed-by-value (fin t m e) s X y v n =
    subst (λ (b : Bool). Nearest binary32 b (2 * (m * up e * 2 ^ low binary32)) (λ M. M * down e) y) (sym v.0)
    (nearest-scale (2 * (X * 2 ^ low binary32)) (2 * (m * up e * 2 ^ low binary32)) (down e) (2 ^ low binary64) (λ M. M * 2 ^ low binary64) (λ M. M * down e) (down_pos e) (pow_pos (low binary64))
    (number (m * up e) (2 ^ low binary32) (2 ^ low binary64) (down e) v.1) (λ M. point M (2 ^ low binary64) (down e)) binary32 s y n)
  where
    number : (a l q d : ℕ) → a * q ≡ X * d → 2 * (X * l) * d ≡ 2 * (a * l) * q
    number a l q d h = let g : a * q * l ≡ X * d * l = ap (λ (z : ℕ). z * l) h in omega arith

    point : (M q d : ℕ) → M * q * d ≡ M * d * q
    point M q d = omega arith

-- ---- from a pattern's digits m and exponent k: an f32 drops 29 digits of m, and more below its smallest normal value, at exponent 896
abbrev dropped : ℕ → ℕ
dropped k = 29 + (896 - k)

-- and the pattern of the f32 is this, if it is finite
abbrev pub narrow_pattern : ℕ → ℕ → ℕ
narrow_pattern m k = (k - 896) * 2 ^ 23 + closest m (2 ^ dropped k)

module _ (m k : ℕ) (full : (k ≡ 0) ⊎ (2 ^ 52 ≤ m)) (less : m < 2 ^ 53) where
  whole-lt : m / 2 ^ dropped k < 2 * hid binary32
  whole-lt = (div-lt_iff_lt-mul (pow_pos (dropped k))).1 (lt_of_lt_of_le less (le_trans (pow_mono {i = 53} {j = 24 + dropped k} (omega arith)) (le_of_eq (pow-add 2 24 (dropped k)))))

  whole-full : Full (hid binary32) (k - 896) (m / 2 ^ dropped k)
  whole-full = go full (dec_lt 896 k)
    where
      go : (k ≡ 0) ⊎ (2 ^ 52 ≤ m) → Dec (896 < k) → Full (hid binary32) (k - 896) (m / 2 ^ dropped k)
      go (inl z) t = inl (omega arith)
      go (inr a) (yes l) = inr (subst (λ (x : ℕ). hid binary32 ≤ m / 2 ^ x) (dropped-29 l) ((le-div_iff_mul-le (pow_pos 29)).1 a))
        where
          dropped-29 : 896 < k → 29 ≡ dropped k
          dropped-29 l = omega arith
      go (inr a) (no n) = inl (few (le_of_suc-le-suc (lt_of_not-le n)))
        where
          few : k ≤ 896 → k - 896 ≡ 0
          few h = omega arith

  abbrev X : ℕ
  X = m * 2 ^ k

  same-value : X * 2 ^ 149 * 2 ^ dropped k ≡ m * 2 ^ (k - 896) * 2 ^ 1074
  same-value = pow-regroup m k 149 (dropped k) (k - 896) 1074 (omega arith)

  value-finite : (s : Bool) → narrow_pattern m k < ones binary32 * hid binary32 → Nearest binary32 s (2 * (X * 2 ^ 149)) (λ M. M * 2 ^ 1074) (signed binary32 s (narrow_pattern m k))
  value-finite s l = nearest_finite binary32 s (X * 2 ^ 149) (2 ^ 1074) m (2 ^ dropped k) (k - 896) (pow_pos 1074) (pow_pos (dropped k)) same-value whole-lt whole-full l

  value-overflow : (s : Bool) → ones binary32 * hid binary32 ≤ narrow_pattern m k → Nearest binary32 s (2 * (X * 2 ^ 149)) (λ M. M * 2 ^ 1074) (inf s)
  value-overflow s h = nearest-overflow binary32 s (X * 2 ^ 149) (2 ^ 1074) m (2 ^ dropped k) (k - 896) (pow_pos 1074) (pow_pos (dropped k)) same-value whole-lt whole-full h

-- a pattern's number has all its digits, unless its exponent's field is 0
digits-full : (h b : ℕ) → (b / h - 1 ≡ 0) ⊎ (h ≤ digits_of h b)
digits-full h b = go (eqb (b / h) 0) (eqb→eq (b / h) 0)
  where
    none : (x : ℕ) → x ≡ 0 → x - 1 ≡ 0
    none x h = omega arith

    go : (t : Bool) → (T t → b / h ≡ 0) → (b / h - 1 ≡ 0) ⊎ (h ≤ b % h + cond t 0 h)
    go true z = inl (none (b / h) (z tt))
    go false z = inr (le-add_left h (b % h))

module _ (b : ℕ) (l : b < ones binary64 * hid binary64) where
  abbrev m : ℕ
  m = digits_of (hid binary64) b

  abbrev k : ℕ
  k = b / hid binary64 - 1

  narrowed-by-count : (s : Bool) (y : Float) → Nearest binary32 s (2 * (m * 2 ^ k * 2 ^ 149)) (λ M. M * 2 ^ 1074) y → IsNarrowed (signed binary64 s b) y
  narrowed-by-count s y n = narrowed-by-value (signed binary64 s b) s (count binary64 b) y (signed-value binary64 s b l) (rw (count-is binary64 b) n)

  narrow-finite : narrow_pattern m k < ones binary32 * hid binary32 → IsNarrowedPattern b (narrow_pattern m k)
  narrow-finite h = record { not_nan = le_of_lt h; is = λ s. narrowed-by-count s _ (value-finite m k (digits-full (hid binary64) b) (digits_lt (hid binary64) b (pow_pos 52)) s h) }

  narrow-overflow : ones binary32 * hid binary32 ≤ narrow_pattern m k → IsNarrowedPattern b (ones binary32 * hid binary32)
  narrow-overflow h =
      record {
        not_nan = le_refl (ones binary32 * hid binary32);
        is = λ s. subst (λ (y : Float). IsNarrowed (signed binary64 s b) y) (sym (signed-infinity binary32 s)) (narrowed-by-count s _ (value-overflow m k (digits-full (hid binary64) b) (digits_lt (hid binary64) b (pow_pos 52)) s h));
      }

-- an infinity's pattern
narrow-infinite : IsNarrowedPattern (ones binary64 * hid binary64) (ones binary32 * hid binary32)
narrow-infinite =
    record {
      not_nan = le_refl (ones binary32 * hid binary32);
      is = λ s. subst (λ (x : Float). IsNarrowed x (signed binary32 s (ones binary32 * hid binary32))) (sym (signed-infinity binary64 s)) (signed-infinity binary32 s);
    }

-- ---- below an f32's smallest normal value
pub narrow_pattern-tiny : (m k : ℕ) → m < 2 ^ 53 → k < 871 → 0 ≡ narrow_pattern m k
narrow_pattern-tiny m k l h =
    let z = closest-zero m (2 ^ dropped k) (lt_of_lt_of_le {m = 2 ^ 54} (omega arith) (pow_mono {i = 54} {j = dropped k} (omega arith))) in
    omega arith

pub narrow_pattern-small : (m k : ℕ) → k < 896 → closest m (2 * 2 ^ (924 - k)) ≡ narrow_pattern m k
narrow_pattern-small m k h =
    let few : k - 896 ≡ 0 = omega arith in
    let e : suc (924 - k) ≡ dropped k = omega arith in
    rw (← pow-succ' 2 (924 - k), e, few) (sym (zero-add (closest m (2 ^ dropped k))))

pub narrow-small : (b : ℕ) → b < 0x3810_0000_0000_0000 → IsNarrowedPattern b (narrow_pattern (digits_of (2 ^ 52) b) (b / 2 ^ 52 - 1))
narrow-small b l =
    let m = digits_of (2 ^ 52) b in
    let k = b / 2 ^ 52 - 1 in
    let x : b / 2 ^ 52 < 897 = (div-lt_iff_lt-mul (pow_pos 52)).1 l in
    let d : m < 2 ^ 24 * 2 ^ dropped k = lt_of_lt_of_le (digits_lt (2 ^ 52) b (pow_pos 52)) (mul-le-mul_left (2 ^ 24) (pow_mono {i = 29} {j = dropped k} (omega arith))) in
    let c : closest m (2 ^ dropped k) ≤ 2 ^ 24 = closest-le m (2 ^ dropped k) (2 ^ 24) (pow_pos (dropped k)) d in
    narrow-finite b (omega arith) (omega arith)

-- ---- from there on: the pattern less 896 fields, with 29 digits dropped, so that a carry goes on into the exponent
module _ (b : ℕ) (from : 0x3810_0000_0000_0000 ≤ b) where
  abbrev q : ℕ
  q = b - 0x3800_0000_0000_0000

  abbrev n : ℕ
  n = closest q (2 ^ 29)

  narrow_pattern-normal : narrow_pattern (digits_of (2 ^ 52) b) (b / 2 ^ 52 - 1) ≡ n
  narrow_pattern-normal = go (b / 2 ^ 52) (b % 2 ^ 52) (div-add-mod' b (2 ^ 52)) ((le-div_iff_mul-le (pow_pos 52)).1 from)
    where
      go : (x t : ℕ) → x * 2 ^ 52 + t ≡ b → 897 ≤ x → narrow_pattern (t + cond (eqb x 0) 0 (2 ^ 52)) (x - 1) ≡ n
      go x t e l =
          let some : x ≡ 0 → ⊥ = λ z. omega arith in
          let d : dropped (x - 1) ≡ 29 = omega arith in
          let j = (x - 1 - 896) * 2 ^ 22 in
          let apart : q ≡ 2 ^ 29 * (2 * j) + (t + 2 ^ 52) = omega arith in
          let twice : (x - 1 - 896) * 2 ^ 23 ≡ 2 * j = omega arith in
          rw (ne_eqb x 0 some, d, apart, twice) (sym (closest-add-even j (t + 2 ^ 52) (2 ^ 29) (pow_pos 29)))

  n-by-division : (q + (2 ^ 28 - 1) + q / 2 ^ 29 % 2) / 2 ^ 29 ≡ n
  n-by-division = closest-by-division q (2 ^ 28) (pow_pos 28)

  -- below the middle between the largest f32 and 2 ^ 128; the tie goes up, for the largest f32 is odd
  pub narrow-normal : b < 0x47ef_ffff_f000_0000 → IsNarrowedPattern b n
  narrow-normal h =
      let less : n < ones binary32 * hid binary32 = omega (arith, n-by-division) in
      subst (IsNarrowedPattern b) narrow_pattern-normal (narrow-finite b (omega arith) (rw narrow_pattern-normal less))

  pub narrow-large : 0x47ef_ffff_f000_0000 ≤ b → b ≤ ones binary64 * hid binary64 → IsNarrowedPattern b (ones binary32 * hid binary32)
  narrow-large h to = go (eq-or-lt_of_le to)
    where
      more : Dec (q / 2 ^ 29 < ones binary32 * hid binary32) → ones binary32 * hid binary32 ≤ n
      more (yes l) =
          let largest : q / 2 ^ 29 ≡ 0x7f7f_ffff = omega arith in
          let odd : q / 2 ^ 29 % 2 ≡ 1 = ap (λ (w : ℕ). w % 2) largest in
          omega (arith, n-by-division)
      more (no f) = omega (arith, n-by-division)

      go : (b ≡ ones binary64 * hid binary64) ⊎ (b < ones binary64 * hid binary64) → IsNarrowedPattern b (ones binary32 * hid binary32)
      go (inl e) = rw e narrow-infinite
      go (inr l) = narrow-overflow b l (rw narrow_pattern-normal (more (dec_lt (q / 2 ^ 29) (ones binary32 * hid binary32))))
