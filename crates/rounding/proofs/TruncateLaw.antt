-- Truncation to 0..255: a float below 1 gives 0, one from 256 on 255, and between them the digits before the point are the answer. By comparing `count` with that of 1 and of 256.
use Rattle.std.proofs.Common.{◌≡◌, ℕ, ◌+◌, ◌-◌, ◌*◌, ◌/◌, ◌%◌, ◌^◌, ◌<◌, ◌≤◌, min, Bool, true, false, not, ◌&&◌, ◌||◌, T, eqb, ltb, ℤ, pos, sym, refl, ap, ◌∙◌, subst, inr, true≢false, le_refl, le_of_suc-le-suc, mul-le-mul_right, mul_assoc, div-lt_iff_lt-mul, lt_of_mul-lt-mul_right, mul-lt-mul_of_pos_right, lt_of_not-le, le-div_iff_mul-le, zero-add, not-le_of_lt, le_of_mul-le-mul_right, arith, lit≤, pow_pos, pow-add, ltb-false, ltb-true, ne_eqb, eqb-true}
use mathlib.Core.Bool.{false≢true}
use lib.Ieee.{Float, nan, inf, fin, binary32, up, down, hid, ones, lt, le, of_bits, to_bits, fits, is_nan}
use lib.Ieee.Bits.{of_bits-to_bits}
use lib.Ieee.Exact.{HasValue}
use lib.Ieee.Fits.{down_pos}
use lib.Ieee.Nearest.{div_same}
use borrow.Author.Tests.{eqb-false}
use Rattle.rounding.specs.Inner.Pick.{count}
use Rattle.rounding.specs.Truncate.{truncated}
use Rattle.rounding.proofs.Patterns.{count-is, count_at, count-lt, lt-of-count-lt, signed-value, to_bits_lt}

abbrev one : Float
one = fin false 1 (pos 0)

abbrev limit : Float
limit = fin false 1 (pos 8)

one-is : of_bits binary32 0x3f80_0000 ≡ one
unfolding of_bits
one-is = refl

limit_is : of_bits binary32 0x4380_0000 ≡ limit
unfolding of_bits
limit_is = refl

-- ---- what a comparison of whole numbers with 1 says
one-le : (d u : ℕ) → (ltb (1 * 1 * d) (u * 1) || (eqb (1 * 1 * d) (u * 1) && true)) ≡ true → d ≤ u
one-le d u h = go (ltb (1 * 1 * d) (u * 1)) refl (eqb (1 * 1 * d) (u * 1)) refl h
  where
    go : (a : Bool) → ltb (1 * 1 * d) (u * 1) ≡ a → (b : Bool) → eqb (1 * 1 * d) (u * 1) ≡ b → (a || (b && true)) ≡ true → d ≤ u
    go true p b q h = let l = ltb-true (1 * 1 * d) (u * 1) p in omega arith
    go false p true q h = let e = eqb-true (1 * 1 * d) (u * 1) q in omega arith
    go false p false q h = absurd (false≢true h)

lt-one : (d u : ℕ) → (ltb (1 * 1 * d) (u * 1) || (eqb (1 * 1 * d) (u * 1) && true)) ≡ false → u < d
lt-one d u h = go (ltb (1 * 1 * d) (u * 1)) refl (eqb (1 * 1 * d) (u * 1)) refl h
  where
    go : (a : Bool) → ltb (1 * 1 * d) (u * 1) ≡ a → (b : Bool) → eqb (1 * 1 * d) (u * 1) ≡ b → (a || (b && true)) ≡ false → u < d
    go true p b q h = absurd (true≢false h)
    go false p true q h = absurd (true≢false h)
    go false p false q h = let l = ltb-false (1 * 1 * d) (u * 1) p in let n = eqb-false (1 * 1 * d) (u * 1) q in omega arith

minus-below-one : (d u : ℕ) → 0 < d → (eqb (1 * 1 * d) (u * 1) && eqb (1 * 1 * d) 0) ≡ true → ⊥
minus-below-one d u p h = go (eqb (1 * 1 * d) (u * 1)) (eqb (1 * 1 * d) 0) refl h
  where
    go : (a b : Bool) → eqb (1 * 1 * d) 0 ≡ b → (a && b) ≡ true → ⊥
    go true true q h = let e = eqb-true (1 * 1 * d) 0 q in omega arith
    go true false q h = false≢true h
    go false b q h = false≢true h

-- ---- from 1 on: an infinity, or m * 2 ^ e with down e at most m * up e
abbrev AtLeastOne : Float → Type 0
AtLeastOne nan = ⊥
AtLeastOne (inf s) = s ≡ false
AtLeastOne (fin s m e) = (s ≡ false) × (down e ≤ m * up e)

at_least_one : (x : Float) → le one x ≡ true → AtLeastOne x
unfolding le
at_least_one nan h = absurd (false≢true h)
at_least_one (inf true) h = absurd (false≢true h)
at_least_one (inf false) h = refl
at_least_one (fin true m e) h = absurd (minus-below-one (down e) (m * up e) (down_pos e) h)
at_least_one (fin false m e) h = (refl, one-le (down e) (m * up e) h)

-- ---- and below 256
pub record InRange (x : Float) : Type 0 where
  pub m : ℕ
  pub e : ℤ
  pub is : x ≡ fin false m e
  pub low : down e ≤ m * up e
  pub high : m * up e < 256 * down e

below-limit : (x : Float) → AtLeastOne x → lt x limit ≡ true → InRange x
unfolding lt
below-limit nan a h = absurd a
below-limit (inf s) a h = absurd (true≢false (sym h ∙ a))
below-limit (fin s m e) a h = record { m = m; e = e; is = rw a.0; low = a.1; high = let l = ltb-true (m * up e * 1) (256 * down e) (rw a.0 at h) in omega arith }

pub in-range : (x : Float) → le (of_bits binary32 0x3f80_0000) x ≡ true → lt x (of_bits binary32 0x4380_0000) ≡ true → InRange x
in-range x h k = below-limit x (at_least_one x (rw one-is at h)) (rw limit_is at k)

pub in-range-number : (x : Float) → InRange x → T (not (is_nan x))
unfolding is_nan
in-range-number x g = rw g.is tt

-- the patterns of 1 and of 256 in smallest values
one-counts : count binary32 0x3f80_0000 ≡ 2 ^ 149
one-counts = count_at binary32 126 (2 ^ 23) (inr (le_refl (2 ^ 23))) (lit≤ tt)

limit-counts : count binary32 0x4380_0000 ≡ 256 * 2 ^ 149
limit-counts = count_at binary32 134 (2 ^ 23) (inr (le_refl (2 ^ 23))) (lit≤ tt)

-- so its pattern's field is 127 to 134, and the digits cut at the point are the answer, a byte
module _ (x : Float) (t : T (fits binary32 x)) (g : InRange x) where
  abbrev b : ℕ
  b = to_bits binary32 x

  scaled_value : g.m * up g.e * 2 ^ 149 ≡ count binary32 b * down g.e
  scaled_value =
      let fine : b < ones binary32 * hid binary32 = rw g.is (to_bits_lt binary32 g.m g.e (rw g.is at t)) in
      (subst (λ (y : Float). HasValue y false (count binary32 b) (2 ^ 149)) (ap (of_bits binary32) (zero-add b) ∙ of_bits-to_bits binary32 x t ∙ g.is) (signed-value binary32 false b fine)).1

  pub field-ge : 127 ≤ b / 2 ^ 23
  field-ge = (le-div_iff_mul-le (pow_pos 23)).1 (le_of_suc-le-suc (lt_of_not-le (λ l. not-le_of_lt (rw one-counts at (count-lt binary32 b 0x3f80_0000 l)) least)))
    where
      scaled : (c d u p : ℕ) → d ≤ u → u * p ≡ c * d → p * d ≤ c * d
      scaled c d u p l e = let m = mul-le-mul_right p l in omega arith

      least : 2 ^ 149 ≤ count binary32 b
      least = le_of_mul-le-mul_right (scaled (count binary32 b) (down g.e) (g.m * up g.e) (2 ^ 149) g.low scaled_value) (down_pos g.e)

  pub field_lt : b / 2 ^ 23 < 135
  field_lt = (div-lt_iff_lt-mul (pow_pos 23)).1 (lt-of-count-lt binary32 b 0x4380_0000 (rw limit-counts (lt_of_mul-lt-mul_right (down g.e) (scaled (count binary32 b) (down g.e) (g.m * up g.e) (2 ^ 149) (pow_pos 149) g.high scaled_value))))
    where
      scaled : (c d u p : ℕ) → 0 < p → u < 256 * d → u * p ≡ c * d → c * d < 256 * p * d
      scaled c d u p h l e = let m = mul-lt-mul_of_pos_right l h in omega arith

  abbrev shifted : ℕ
  shifted = (b % 2 ^ 23 + 2 ^ 23) / 2 ^ (150 - b / 2 ^ 23)

  shifted-whole : shifted ≡ g.m * up g.e / down g.e
  shifted-whole =
      let d = b % 2 ^ 23 + 2 ^ 23 in
      let f = b / 2 ^ 23 in
      let some : f ≡ 0 → ⊥ = λ z. omega (arith, field-ge) in
      let counts : count binary32 b ≡ d * 2 ^ (f - 1) = count-is binary32 b ∙ rw (ne_eqb f 0 some) in
      let places : f - 1 + (150 - f) ≡ 149 = omega (arith, field-ge, field_lt) in
      let powers : 2 ^ (f - 1) * 2 ^ (150 - f) ≡ 2 ^ 149 = sym (pow-add 2 (f - 1) (150 - f)) ∙ rw places in
      div_same d (2 ^ (150 - f)) (count binary32 b) (2 ^ 149) (pow_pos (150 - f)) (pow_pos 149) (rw (counts, mul_assoc d (2 ^ (f - 1)) (2 ^ (150 - f)), powers))
      ∙ sym (div_same (g.m * up g.e) (down g.e) (count binary32 b) (2 ^ 149) (down_pos g.e) (pow_pos 149) scaled_value)

  pub shifted-lt : shifted < 256
  shifted-lt = rw shifted-whole ((div-lt_iff_lt-mul (down_pos g.e)).1 g.high)

  pub shifted-truncated : shifted ≡ truncated x
  unfolding truncated
  shifted-truncated = same shifted (g.m * up g.e / down g.e) shifted-whole shifted-lt ∙ ap truncated (sym g.is)
    where
      same : (r v : ℕ) → r ≡ v → r < 256 → r ≡ min v 255
      same r v e l = omega arith

-- ---- from 256 on, and below 1
pub truncated-above : (x : Float) → le (of_bits binary32 0x3f80_0000) x ≡ true → lt x (of_bits binary32 0x4380_0000) ≡ false → 255 ≡ truncated x
unfolding lt truncated
truncated-above x h k = go x (at_least_one x (rw one-is at h)) (rw limit_is at k)
  where
    cap : (v : ℕ) → 256 ≤ v → 255 ≡ min v 255
    cap v h = omega arith

    go : (x : Float) → AtLeastOne x → lt x limit ≡ false → 255 ≡ truncated x
    go nan a h = absurd a
    go (inf s) a h = rw a
    go (fin s m e) a h = rw a.0 (cap (m * up e / down e) ((le-div_iff_mul-le (down_pos e)).1 (let l = ltb-false (m * up e * 1) (256 * down e) (rw a.0 at h) in omega arith)))

pub truncated-below : (x : Float) → le (of_bits binary32 0x3f80_0000) x ≡ false → 0 ≡ truncated x
unfolding le truncated
truncated-below x h = go x (rw one-is at h)
  where
    cap : (v : ℕ) → v < 1 → 0 ≡ min v 255
    cap v h = omega arith

    go : (x : Float) → le one x ≡ false → 0 ≡ truncated x
    go nan h = refl
    go (inf true) h = refl
    go (inf false) h = absurd (true≢false h)
    go (fin true m e) h = refl
    go (fin false m e) h = cap (m * up e / down e) ((div-lt_iff_lt-mul (down_pos e)).1 (let l = lt-one (down e) (m * up e) h in omega arith))
