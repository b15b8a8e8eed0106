-- The worked example of docs/ROOT.md, computed: every turn of the root of 2.0 as an f32. One statement for the whole table.
use Rattle.std.specs.Prelude.{◌≡◌, ℕ, zero, suc, ◌*◌, ◌^◌, List, [], ◌∷◌, refl}
use Rattle.rounding.specs.Inner.Digits.{have, need, next_digit, next_root, next_rest, next_pair, turns}

-- a row of the table: the pair that is brought down, have and need, the digit, and the root and the rest after it
pub record Turn : Type 0 where
  pub pair : ℕ
  pub have : ℕ
  pub need : ℕ
  pub digit : ℕ
  pub root : ℕ
  pub rest : ℕ

abbrev pub turn : ℕ → ℕ → ℕ → ℕ → ℕ → ℕ → Turn
turn p h n d w r = record { pair = p; have = h; need = n; digit = d; root = w; rest = r }

unfoldable pub computed : ℕ → ℕ → Turn
unfolding turns
computed a i =
    let r = turns a i in
    let p = next_pair a i in
    turn p (have r.rest p) (need r.root) (next_digit r.root r.rest p) (next_root r.root r.rest p) (next_rest r.root r.rest p)

-- n turns of the number a, from the turn i on
unfoldable pub computed_from : ℕ → ℕ → ℕ → List Turn
computed_from a i zero = []
computed_from a i (suc n) = computed a i ∷ computed_from a (suc i) n

abbrev pub table : List Turn
table =
    turn 2 2 1 1 1 1
    ∷ turn 0 4 5 0 2 4
    ∷ turn 0 16 9 1 5 7
    ∷ turn 0 28 21 1 11 7
    ∷ turn 0 28 45 0 22 28
    ∷ turn 0 112 89 1 45 23
    ∷ turn 0 92 181 0 90 92
    ∷ turn 0 368 361 1 181 7
    ∷ turn 0 28 725 0 362 28
    ∷ turn 0 112 1449 0 724 112
    ∷ turn 0 448 2897 0 1448 448
    ∷ turn 0 1792 5793 0 2896 1792
    ∷ turn 0 7168 11585 0 5792 7168
    ∷ turn 0 28672 23169 1 11585 5503
    ∷ turn 0 22012 46341 0 23170 22012
    ∷ turn 0 88048 92681 0 46340 88048
    ∷ turn 0 352192 185361 1 92681 166831
    ∷ turn 0 667324 370725 1 185363 296599
    ∷ turn 0 1186396 741453 1 370727 444943
    ∷ turn 0 1779772 1482909 1 741455 296863
    ∷ turn 0 1187452 2965821 0 1482910 1187452
    ∷ turn 0 4749808 5931641 0 2965820 4749808
    ∷ turn 0 18999232 11863281 1 5931641 7135951
    ∷ turn 0 28543804 23726565 1 11863283 4817239
    ∷ turn 0 19268956 47453133 0 23726566 19268956
    ∷ []

-- the significand is 2 ^ 23, grown by 26; the 25 pairs stand at the top of 54 digits
pub table-holds : computed_from (2 ^ 23 * 2 ^ 26 * 2 ^ 4) 0 25 ≡ table
unfolding computed computed_from turns
table-holds = refl
