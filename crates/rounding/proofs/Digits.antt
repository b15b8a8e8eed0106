-- The whole root digit by digit: one turn goes from the root of n to that of 4 * n + pair, by whether the need is at most what there is; all turns, by induction. And no tie occurs, since an odd number's square is odd.
use Rattle.std.proofs.Common.{◌≡◌, ℕ, zero, suc, ◌+◌, ◌-◌, ◌*◌, ◌/◌, ◌%◌, ◌^◌, ◌<◌, ◌≤◌, sym, refl, ap, ◌∙◌, lt_irrefl, mul_assoc, div-lt_iff_lt-mul, mul-lt-mul_of_pos_right, mul-pos, pow-suc, lt_of_not-le, arith, lit≤, pow_pos, le-leb}
use native.Mathlib.Decide.{dec_le}
use borrow.Author.Tests.{lt-leb}
use lib.Bits.{shifted_even}
use Rattle.rounding.specs.Inner.Digits.{have, need, next_digit, next_root, next_rest, first_pairs, digits_left, next_pair, turns}
use Rattle.rounding.specs.Inner.Parts.{IsWholeRoot}
use Rattle.rounding.proofs.Powers.{four-pow}
use Rattle.rounding.proofs.WholeRootLaw.{root-lt}

-- ---- the next digit
module _ (root rest pair : ℕ) where
  pub digit-one : need root ≤ have rest pair → next_digit root rest pair ≡ 1
  digit-one l = rw (le-leb (need root) (have rest pair) l) refl

  pub digit-zero : have rest pair < need root → next_digit root rest pair ≡ 0
  digit-zero l = rw (lt-leb (need root) (have rest pair) l) refl

  -- what holds of 1 where it fits, and of 0 where it does not, holds of the digit
  by-digit : (P : ℕ → Type 0) → (need root ≤ have rest pair → P 1) → (have rest pair < need root → P 0) → P (next_digit root rest pair)
  by-digit P fits misses = go (dec_le (need root) (have rest pair))
    where
      go : Dec (need root ≤ have rest pair) → P (next_digit root rest pair)
      go (yes l) = rw (digit-one l) (fits l)
      go (no l) = rw (digit-zero (lt_of_not-le l)) (misses (lt_of_not-le l))

  pub digit-le : next_digit root rest pair ≤ 1
  digit-le = by-digit (λ d. d ≤ 1) (λ _. omega arith) (λ _. omega arith)

  pub taken-le : need root * next_digit root rest pair ≤ have rest pair
  taken-le = by-digit (λ d. need root * d ≤ have rest pair) (λ l. omega arith) (λ l. omega arith)

-- ---- one turn: from the root of n to that of 4 * n + pair
pub one-digit : {n root rest : ℕ} (pair : ℕ) → pair < 4 → IsWholeRoot n root rest → IsWholeRoot (4 * n + pair) (next_root root rest pair) (next_rest root rest pair)
one-digit {n} {root} {rest} pair four u =
    by-digit root rest pair (λ d. IsWholeRoot (4 * n + pair) (2 * root + d) (have rest pair - need root * d))
    (λ l. record { is = omega (arith, u.is); small = omega (arith, u.small) })
    (λ l. record { is = omega (arith, u.is); small = omega arith })

-- ---- the pairs of 54 digits
four-times : (a i : ℕ) → a * 4 ^ suc i ≡ a * 4 ^ i * 4
four-times a i = ap (λ (x : ℕ). a * x) (pow-suc 4 i) ∙ sym (mul_assoc a (4 ^ i) 4)

first-pairs-next : (a i : ℕ) → first_pairs a (suc i) ≡ 4 * first_pairs a i + next_pair a i
first-pairs-next a i = ap (λ (x : ℕ). x / 2 ^ 54) (four-times a i) ∙ split (a * 4 ^ i)
  where
    split : (x : ℕ) → x * 4 / 2 ^ 54 ≡ 4 * (x / 2 ^ 54) + x % 2 ^ 54 / 2 ^ 52
    split x = omega arith

pub digits-left-next : (a i : ℕ) → digits_left a (suc i) ≡ digits_left a i * 4 % 2 ^ 54
digits-left-next a i = ap (λ (x : ℕ). x % 2 ^ 54) (four-times a i) ∙ split (a * 4 ^ i)
  where
    split : (x : ℕ) → x * 4 % 2 ^ 54 ≡ x % 2 ^ 54 * 4 % 2 ^ 54
    split x = omega arith

next-pair-lt : (a i : ℕ) → next_pair a i < 4
next-pair-lt a i = omega arith

-- ---- after i turns: the root of the number that the first i pairs spell, which has i digits
pub turns-whole-root : (a i : ℕ) → a < 2 ^ 54 → IsWholeRoot (first_pairs a i) (turns a i).root (turns a i).rest
unfolding turns
turns-whole-root a zero l = record { is = omega arith; small = omega arith }
turns-whole-root a (suc i) l = rw (first-pairs-next a i) (one-digit (next_pair a i) (next-pair-lt a i) (turns-whole-root a i l))

pub turns-root-lt : (a i : ℕ) → a < 2 ^ 54 → (turns a i).root < 2 ^ i
turns-root-lt a i l = root-lt (2 ^ i) (turns-whole-root a i l) ((div-lt_iff_lt-mul (lit≤ tt)).1 below)
  where
    below : a * 4 ^ i < 2 ^ i * 2 ^ i * 2 ^ 54
    below =
        let g : a * (2 ^ i * 2 ^ i) < 2 ^ 54 * (2 ^ i * 2 ^ i) = mul-lt-mul_of_pos_right l (mul-pos (pow_pos i) (pow_pos i)) in
        rw (four-pow i) (omega arith)

-- ---- no tie: a number that is shifted up, as the root shifts every value of a format, has no root that is odd and leaves no rest
pub no_tie : (m t w : ℕ) → 0 < t → w % 2 ≡ 1 → IsWholeRoot (m * 2 ^ t) w 0 → ⊥
no_tie m zero w p odd u = lt_irrefl 0 p
no_tie m (suc t) w p odd u =
    let half : 2 * (w / 2) + 1 ≡ w = omega arith in
    odd-square (w / 2) (m * 2 ^ suc t) (shifted_even m t) (rw half (omega (arith, u.is)))
  where
    odd-square : (q A : ℕ) → A % 2 ≡ 0 → (2 * q + 1) * (2 * q + 1) ≡ A → ⊥
    odd-square q A z e = let g : A ≡ 2 * (2 * (q * q) + 2 * q) + 1 = omega arith in odd-one A (2 * (q * q) + 2 * q) z g
      where
        odd-one : (A t : ℕ) → A % 2 ≡ 0 → A ≡ 2 * t + 1 → ⊥
        odd-one A t z e = omega arith
