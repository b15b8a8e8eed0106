-- Laws of `number_from`: a turn of the loop that reads digits, its ends, and what a number that was read says of the text.
use Rattle.std.proofs.Common.{◌≡◌, refl, Bool, true, false, cond, List, [], ◌∷◌, ℕ, suc, ◌+◌, ◌*◌, ◌^◌, ◌<◌, ◌≤◌, ltb, eqb, length, get_or, drop, arith, add-one, drop-cons, Option, Some, None, option_and_then}
use Rattle.std.proofs.Math.Nat.{pow-zero, pow-succ', pow-suc, mul-le-mul_right, mul_assoc}
use Rattle.std.proofs.Math.ListN.{drop_of_length-le}
use borrow.Author.Tests.{lt-ltb, le-ltb, ltb-true, eqb-true}
use Rattle.lines.specs.Hex.{digit_of, number_from, pattern_of}

module _ (base n : ℕ) (s : List ℕ) (i : ℕ) where
  pub number-digit : {d : ℕ} → i < length s → Some d ≡ digit_of (get_or s i 0) → d < base → number_from base n (drop i s) ≡ number_from base (n * base + d) (drop (i + 1) s)
  unfolding number_from
  number-digit {d} h e less = rw (add-one, drop-cons s i 0, ← e, lt-ltb d base less)

  pub number-big_digit : {d : ℕ} → i < length s → Some d ≡ digit_of (get_or s i 0) → base ≤ d → number_from base n (drop i s) ≡ None
  unfolding number_from
  number-big_digit {d} h e big = rw (drop-cons s i 0, ← e, le-ltb d base big)

  pub number-no_digit : i < length s → None ≡ digit_of (get_or s i 0) → number_from base n (drop i s) ≡ None
  unfolding number_from
  number-no_digit h e = rw (drop-cons s i 0, ← e)

  pub number-end : length s ≤ i → number_from base n (drop i s) ≡ Some n
  unfolding number_from
  number-end h = rw (drop_of_length-le s h)

-- a number of i digits, with one digit more
pub digit-below : (base n d i : ℕ) → n < base ^ i → d < base → n * base + d < base ^ (i + 1)
digit-below base n d i h less =
    let up : (n + 1) * base ≤ base ^ i * base = mul-le-mul_right base (omega arith) in
    rw (add-one, pow-suc) (omega arith)

-- a number of which n and then k digits were read
below_step : (o : Option ℕ) (base n m k : ℕ) (s : List ℕ) → ((d : ℕ) → number_from base (n * base + d) s ≡ Some m → m < (n * base + d + 1) * base ^ k)
    → option_and_then (λ d. cond (ltb d base) (number_from base (n * base + d) s) None) o ≡ Some m → m < (n + 1) * base ^ suc k
below_step None base n m k s ih h = absurd cc
below_step (Some d) base n m k s ih h = by (ltb d base) refl h
  where
    by : (t : Bool) → ltb d base ≡ t → cond t (number_from base (n * base + d) s) None ≡ Some m → m < (n + 1) * base ^ suc k
    by true e h =
        let small : d < base = ltb-true d base e in
        let up : (n * base + d + 1) * base ^ k ≤ (n + 1) * base * base ^ k = mul-le-mul_right (base ^ k) (omega arith) in
        rw (pow-succ', ← mul_assoc) (omega (arith, ih d h))
    by false e h = absurd cc

number-below : (base n m : ℕ) (s : List ℕ) → number_from base n s ≡ Some m → m < (n + 1) * base ^ length s
unfolding number_from
number-below base n m [] h = let same : n ≡ m = cc in rw pow-zero (omega arith)
number-below base n m (b ∷ s) h = below_step (digit_of b) base n m (length s) s (λ d. number-below base (n * base + d) m s) h

pub pattern-below : (width m : ℕ) (s : List ℕ) → pattern_of width s ≡ Some m → m < 16 ^ width
unfolding pattern_of
pattern-below width m s h = by (eqb (length s) width) refl h
  where
    by : (t : Bool) → eqb (length s) width ≡ t → cond t (number_from 16 0 s) None ≡ Some m → m < 16 ^ width
    by true e h = rw (← eqb-true (length s) width e) (omega (arith, number-below 16 0 m s h))
    by false e h = absurd cc
