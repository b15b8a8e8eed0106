-- Tests on a float's pattern: whether it is a zero's, and whether it is that of a number greater than 0. Over the format.
use mathlib.Core.Path.{◌≡◌, refl, sym, ◌∙◌}
use mathlib.Core.Bool.{Bool, true, false, not, ◌&&◌, cond, and-false, true≢false}
use mathlib.Core.List.{List}
use Prim.Native.Nat.{ℕ, zero, suc, ◌+◌, ◌-◌, ◌*◌, ◌/◌, ◌%◌, ◌^◌, ◌<◌}
use native.Mathlib.Nat.{mul-pos, zero-mul, zero-add, zero-lt-suc, mod-eq_of_lt}
use native.Mathlib.Omega.{arith}
use lib.Dec.{leb, ltb, eqb}
use lib.Pow.{pow_pos}
use lib.Ieee.{Float, nan, inf, fin, Format, binary32, binary64, prec, low, up, down, lt, eq, odd, is_nan, hid, ones, top, of_fields, of_bits}
use lib.Ieee.Digits.{Equals, odd_val}
use lib.Ieee.Fits.{down_pos}
use lib.Ieee.Positive.{first_pos}
use borrow.Author.Tests.{lt-ltb, le-ltb, lt-leb, eq-eqb, ne_eqb, ltb-true, ltb-false, leb-false, leb-true}
use Rattle.float_laws.specs.Zero.{plus_zero, sign}
use Rattle.float_laws.proofs.Nan.{nan-tested}
use Rattle.little_endian.specs.Bytes.{number_at, width}
use Rattle.bodies.specs.Elements.{dense_element}
use Rattle.convert_parts.specs.Sparse.{is_nonzero}
use Rattle.convert_parts.specs.Bits.{is_positive}

-- ---- a zero
-- a value of size a / c, where a is not 0, is none
no_zero : (a c : ℕ) → 0 < a → (x : Float) → Equals x a c → eq x plus_zero ≡ false
unfolding eq
no_zero a c some nan h = absurd h
no_zero a c some (inf s) h = absurd h
no_zero a c some (fin s m e) h =
    let size = first_pos (m * up e) c (rw h (mul-pos some (down_pos e))) in
    rw (ne_eqb (m * up e * 1) (0 * 1 * down e) (λ z. omega arith))

odd-zero : (d : ℕ) (s : Bool) (q k l : ℕ) → eq (odd d s q k l) plus_zero ≡ eqb q 0
unfolding odd eq
odd-zero d true zero k l = refl
odd-zero d false zero k l = refl
odd-zero d s (suc q) k l =
    rw (ne_eqb (suc q) 0 (λ z. omega arith)) (no_zero (suc q * 2 ^ k) (2 ^ l) (mul-pos (zero-lt-suc q) (pow_pos k)) (odd d s (suc q) k l) (odd_val d s (suc q) k l))

module _ (f : Format) where
  hid-some : 0 < hid f
  hid-some = pow_pos (prec f - 1)

  fields-zero : (s : Bool) (x t : ℕ) → eq (of_fields f s x t) plus_zero ≡ eqb (x * hid f + t) 0
  unfolding of_fields eq
  fields-zero s zero t = rw (zero-mul, zero-add) (odd-zero (prec f) s t 0 (low f))
  fields-zero s (suc x) t =
      rw (ne_eqb (suc x * hid f + t) 0 (λ z. omega (arith, hid-some))) (by (eqb (suc x) (ones f)) (eqb t 0))
    where
      by : (a b : Bool) → eq (cond a (cond b (inf s) nan) (odd (prec f) s (hid f + t) x (low f))) plus_zero ≡ false
      by true true = refl
      by true false = refl
      by false b = odd-zero (prec f) s (hid f + t) x (low f) ∙ ne_eqb (hid f + t) 0 (λ z. omega (arith, hid-some))

-- the exponent's field and the digits are the pattern without its sign
two_fields : (f : Format) (b : ℕ) → b % top f / hid f * hid f + b % hid f ≡ b % top f
two_fields binary32 b = omega arith
two_fields binary64 b = omega arith

pub zero_pattern : (f : Format) (b : ℕ) → eq (of_bits f b) plus_zero ≡ eqb (b % top f) 0
unfolding of_bits
zero_pattern f b = fields-zero f (leb (top f) b) (b % top f / hid f) (b % hid f) ∙ rw (two_fields f b)

-- ---- greater than 0: no NaN, no zero, no sign
above_zero : (x : Float) → lt plus_zero x ≡ (not (is_nan x) && not (eq x plus_zero) && not (sign x))
unfolding lt eq is_nan
above_zero nan = refl
above_zero (inf s) = refl
above_zero (fin true m e) = sym (and-false (not (eq (fin true m e) plus_zero)))
above_zero (fin false m e) = by (ltb 0 (m * up e)) refl
  where
    by : (b : Bool) → ltb 0 (m * up e) ≡ b → lt plus_zero (fin false m e) ≡ (not (eq (fin false m e) plus_zero) && true)
    by true h =
        let some = ltb-true 0 (m * up e) h in
        rw (lt-ltb (0 * 1 * down e) (m * up e * 1) (omega arith), ne_eqb (m * up e * 1) (0 * 1 * down e) (λ z. omega arith))
    by false h =
        let none = ltb-false 0 (m * up e) h in
        rw (le-ltb (0 * 1 * down e) (m * up e * 1) (omega arith), eq-eqb (m * up e * 1) (0 * 1 * down e) (omega arith))

odd_sign : (d : ℕ) (s : Bool) (q k l : ℕ) → sign (odd d s q k l) ≡ s
unfolding odd
odd_sign d s zero k l = refl
odd_sign d s (suc q) k l = refl

module _ (f : Format) where
  fields-sign : (s : Bool) (x t : ℕ) → is_nan (of_fields f s x t) ≡ false → sign (of_fields f s x t) ≡ s
  unfolding of_fields is_nan
  fields-sign s zero t h = odd_sign (prec f) s t 0 (low f)
  fields-sign s (suc x) t h = by (eqb (suc x) (ones f)) (eqb t 0) h
    where
      by : (a b : Bool) → is_nan (cond a (cond b (inf s) nan) (odd (prec f) s (hid f + t) x (low f))) ≡ false
          → sign (cond a (cond b (inf s) nan) (odd (prec f) s (hid f + t) x (low f))) ≡ s
      by true true h = refl
      by true false h = absurd (true≢false h)
      by false b h = odd_sign (prec f) s (hid f + t) x (low f)

  module _ (b : ℕ) where
    sign-pattern : is_nan (of_bits f b) ≡ false → sign (of_bits f b) ≡ leb (top f) b
    unfolding of_bits
    sign-pattern h = fields-sign (leb (top f) b) (b % top f / hid f) (b % hid f) h

    -- by its three tests
    tests : (n z s : Bool) → is_nan (of_bits f b) ≡ n → eqb (b % top f) 0 ≡ z → (n ≡ false → leb (top f) b ≡ s) → lt plus_zero (of_bits f b) ≡ (not n && not z && not s)
    tests true z s e g h = above_zero (of_bits f b) ∙ rw e
    tests false z s e g h = above_zero (of_bits f b) ∙ rw (e, zero_pattern f b, g, sign-pattern e, h refl)

zero-below : (f : Format) → lt plus_zero (of_bits f 0) ≡ false
unfolding lt of_bits
zero-below binary32 = refl
zero-below binary64 = refl

infinity-below : (f : Format) → ones f * hid f < top f
infinity-below binary32 = omega arith
infinity-below binary64 = omega arith

-- the patterns of the numbers greater than 0 lie above 0 and up to that of infinity
positive-pattern : (f : Format) (b : ℕ) → lt plus_zero (of_bits f b) ≡ (ltb 0 b && leb b (ones f * hid f))
positive-pattern f b = by (ltb 0 b) (leb b (ones f * hid f)) refl refl
  where
    -- above infinity's: with no sign a NaN's, and else with a sign
    over : (s n : Bool) → leb (top f) b ≡ s → is_nan (of_bits f b) ≡ n → ones f * hid f < b → lt plus_zero (of_bits f b) ≡ false
    over true n e g h = tests f b n (eqb (b % top f) 0) true g refl (λ _. e) ∙ and-false (not n && not (eqb (b % top f) 0))
    over false n e g h =
        let unsigned : b % top f ≡ b = mod-eq_of_lt (leb-false (top f) b e) in
        tests f b true (eqb (b % top f) 0) false (nan-tested f b ∙ rw unsigned (lt-ltb (ones f * hid f) b h)) refl (λ z. absurd (true≢false z))

    by : (l u : Bool) → ltb 0 b ≡ l → leb b (ones f * hid f) ≡ u → lt plus_zero (of_bits f b) ≡ (l && u)
    by true true e g =
        let most = leb-true b (ones f * hid f) g in
        let under : b < top f = omega (arith, infinity-below f) in
        let unsigned : b % top f ≡ b = mod-eq_of_lt under in
        let some : eqb (b % top f) 0 ≡ false = rw unsigned (ne_eqb b 0 (λ z. omega (arith, ltb-true 0 b e))) in
        tests f b false false false (nan-tested f b ∙ rw unsigned (le-ltb (ones f * hid f) b most)) some (λ _. lt-leb (top f) b under)
    by true false e g = over (leb (top f) b) (is_nan (of_bits f b)) refl refl (leb-false b (ones f * hid f) g)
    by false u e g = let none : b ≡ 0 = omega (arith, ltb-false 0 b e) in rw none (zero-below f)

-- ---- what the tests tell of element i of a dense body, whose pattern is b
module _ (f : Format) (body : List ℕ) (i b : ℕ) (e : b ≡ number_at (width f) body (width f * i)) where
  pub nonzero-tested : not (eqb (b % top f) 0) ≡ is_nonzero (dense_element f body i)
  nonzero-tested = rw (zero_pattern f, e)

  -- where the first of the two has told l
  pub positive-tested : {d : ℕ} {l : Bool} → i < d → ltb 0 b ≡ l → (l && leb b (ones f * hid f)) ≡ (ltb i d && is_positive (dense_element f body i))
  positive-tested {d} h t = rw (lt-ltb i d h, ← e, ← t) (sym (positive-pattern f b))
