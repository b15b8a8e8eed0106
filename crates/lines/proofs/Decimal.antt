-- Laws of numbers in digits: how many there are, and that the fewest decimal ones are `decimal_of`.
use mathlib.Core.Path.{◌≡◌, refl, ap, ◌∙◌}
use mathlib.Core.List.{List, [], ◌∷◌, ◌++◌}
use Prim.Native.Nat.{ℕ, zero, suc, ◌-◌, ◌/◌, ◌%◌, ◌^◌, ◌<◌, ◌≤◌}
use native.Mathlib.Omega.{arith}
use native.Mathlib.Decide.{dec_lt}
use native.Mathlib.Nat.{pow-suc, pow-le-pow_right, le-div_iff_mul-le, div-lt_iff_lt-mul, mod-eq_of_lt}
use native.Mathlib.Numerals.{add-one}
use borrow.Author.Tests.{lt-ltb, le-ltb}
use lib.Dec.{lit<}
use lib.ListN.{length, length-append}
use Rattle.io.specs.Digits.{last_digits, hex_digit_ascii, IsDigitCount}
use Rattle.lines.specs.Decimal.{decimal_in, decimal_of}

pub length_digits : (b k n : ℕ) → length (last_digits b k n) ≡ k
length_digits b zero n = refl
length_digits b (suc k) n = length-append (last_digits b k (n / b)) (hex_digit_ascii (n % b) ∷ []) ∙ rw (length_digits b k (n / b), add-one)

-- the fewest digits are no more than m where m hold n
pub fewest-most : (b w n k m : ℕ) → 0 < b → w ≤ m → n < b ^ m → IsDigitCount b w n k → k ≤ m
fewest-most b w n k m p le h f = elim (dec_lt m k) [ yes more ↦ absurd (over more) | no less ↦ omega (arith, less) ]
  where
    over : m < k → ⊥
    over more =
        let up : m ≤ k - 1 = omega arith in
        let most : b ^ m ≤ b ^ (k - 1) = pow-le-pow_right p up in
        let wide : w < k = omega arith in
        omega (arith, f.2 wide)

-- with k more digits than one
decimal-digits : (k d n : ℕ) → k ≤ d → n < 10 ^ suc k → (0 < k → 10 ^ k ≤ n) → last_digits 10 (suc k) n ≡ decimal_in (suc d) n
unfolding decimal_in
decimal-digits zero d n le h f =
    let small : n < 10 = h in
    rw (mod-eq_of_lt small, lt-ltb n 10 small)
decimal-digits (suc k) zero n le h f = absurd (omega arith)
decimal-digits (suc k) (suc d) n le h f =
    let pos : 0 < 10 = lit< tt in
    let up : 10 ^ suc k ≤ n = f (omega arith) in
    let some : 1 ≤ suc k = omega arith in
    let ten : 10 ^ 1 ≤ 10 ^ suc k = pow-le-pow_right pos some in
    let big : 10 ≤ n = omega arith in
    let low : n / 10 < 10 ^ suc k = (div-lt_iff_lt-mul pos).1 (rw (pow-suc 10 (suc k)) at h) in
    rw (le-ltb n 10 big) (ap (λ (t : List ℕ). t ++ (hex_digit_ascii (n % 10) ∷ [])) (decimal-digits k d (n / 10) (omega arith) low (λ p. (le-div_iff_mul-le pos).1 (rw (pow-suc 10 k) at up))))

below-pow : (k : ℕ) → k < 10 ^ k
below-pow zero = lit< tt
below-pow (suc k) = let h = below-pow k in rw (pow-suc 10 k) (omega arith)

pub fewest-decimal : (n k : ℕ) → IsDigitCount 10 1 n k → last_digits 10 k n ≡ decimal_of n
unfolding decimal_of
fewest-decimal n zero f = absurd (omega arith)
fewest-decimal n (suc k) f =
    let e : suc k - 1 ≡ k = omega arith in
    let least : (0 < k → 10 ^ k ≤ n) = λ p. rw e at (f.2 (omega arith)) in
    decimal-digits k n n (size k least) f.1 least
  where
    size : (j : ℕ) → (0 < j → 10 ^ j ≤ n) → j ≤ n
    size zero g = omega arith
    size (suc j) g = omega (arith, g (omega arith), below-pow (suc j))
