-- The whole root of a number, digit by digit: one turn of the method, and all turns. Words of the contracts of `whole`; docs/ROOT.md explains them.
use Rattle.std.specs.Prelude.{ℕ, zero, suc, ◌+◌, ◌-◌, ◌*◌, ◌/◌, ◌%◌, ◌^◌, cond, nat_le}

-- what there is for the next digit: the rest, with the next pair of the number's binary digits brought down
abbrev pub have : ℕ → ℕ → ℕ
have rest pair = 4 * rest + pair

-- what a digit 1 takes away: the square of 2 * root + 1 is that of 2 * root and this more
abbrev pub need : ℕ → ℕ
need root = 4 * root + 1

-- the next digit is 1 exactly if the need is at most what there is
abbrev pub next_digit : ℕ → ℕ → ℕ → ℕ
next_digit root rest pair = cond (nat_le (need root) (have rest pair)) 1 0

abbrev pub next_root : ℕ → ℕ → ℕ → ℕ
next_root root rest pair = 2 * root + next_digit root rest pair

abbrev pub next_rest : ℕ → ℕ → ℕ → ℕ
next_rest root rest pair = have rest pair - need root * next_digit root rest pair

-- ---- the pairs of a number a of 54 binary digits, from the top: when they are used up, 00
-- the number that the first i pairs spell, and what follows them
abbrev pub first_pairs : ℕ → ℕ → ℕ
first_pairs a i = a * 4 ^ i / 2 ^ 54

abbrev pub digits_left : ℕ → ℕ → ℕ
digits_left a i = a * 4 ^ i % 2 ^ 54

-- the pair that follows them
abbrev pub next_pair : ℕ → ℕ → ℕ
next_pair a i = digits_left a i / 2 ^ 52

-- ---- after i turns
pub record RootAndRest : Type 0 where
  pub root : ℕ
  pub rest : ℕ

unfoldable pub turns : ℕ → ℕ → RootAndRest
turns a zero = record { root = 0; rest = 0 }
turns a (suc i) =
    let r = turns a i in
    record { root = next_root r.root r.rest (next_pair a i); rest = next_rest r.root r.rest (next_pair a i) }
