-- A word is its letters: what the tests of its letters, one by one, say of it.
use Rattle.std.proofs.Common.{◌≡◌, sym, List, [], ◌∷◌, ℕ, zero, suc, ◌+◌, ◌≤◌, length, get_or, drop, arith, drop-cons}
use Rattle.std.proofs.Math.ListN.{drop_of_length-le}

-- n letters from place i on
abbrev spelled : List ℕ → ℕ → ℕ → List ℕ
spelled s i zero = []
spelled s i (suc n) = get_or s i 0 ∷ spelled s (suc i) n

spelled-drop : (s : List ℕ) (i n : ℕ) → length s ≡ i + n → spelled s i n ≡ drop i s
spelled-drop s i zero e = let past : length s ≤ i = omega (arith, e) in sym (drop_of_length-le s past)
spelled-drop s i (suc n) e = rw (spelled-drop s (suc i) n (omega (arith, e))) (sym (drop-cons s i 0 (omega (arith, e))))

all-spelled : (s : List ℕ) (n : ℕ) → length s ≡ n → spelled s 0 n ≡ s
all-spelled s n e = spelled-drop s 0 n (omega (arith, e))

pub four_letters : (s : List ℕ) → length s ≡ 4 → get_or s 0 0 ∷ get_or s 1 0 ∷ get_or s 2 0 ∷ get_or s 3 0 ∷ [] ≡ s
four_letters s e = all-spelled s 4 e

pub five_letters : (s : List ℕ) → length s ≡ 5 → get_or s 0 0 ∷ get_or s 1 0 ∷ get_or s 2 0 ∷ get_or s 3 0 ∷ get_or s 4 0 ∷ [] ≡ s
five_letters s e = all-spelled s 5 e

pub six_letters : (s : List ℕ) → length s ≡ 6 → get_or s 0 0 ∷ get_or s 1 0 ∷ get_or s 2 0 ∷ get_or s 3 0 ∷ get_or s 4 0 ∷ get_or s 5 0 ∷ [] ≡ s
six_letters s e = all-spelled s 6 e

pub ruleset letters = (four_letters, five_letters, six_letters)
