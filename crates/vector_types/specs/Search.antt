-- The first place at which a test holds.
use Rattle.std.specs.Prelude.{ℕ, zero, suc, Bool, cond, ltb, Option, None, Some}

-- the first j of the n places from i on with p j; i + n where there is none
unfoldable pub first_from : (ℕ → Bool) → ℕ → ℕ → ℕ
first_from p i zero = i
first_from p i (suc n) = let r = first_from p (suc i) n in cond (p i) i r

-- the first j below n with p j, or n; and whether there is one
abbrev pub first_index : (ℕ → Bool) → ℕ → ℕ
first_index p n = first_from p 0 n

abbrev pub any_index : (ℕ → Bool) → ℕ → Bool
any_index p n = ltb (first_index p n) n

-- the first j below n with p j, if there is one
abbrev pub found_index : (ℕ → Bool) → ℕ → Option ℕ
found_index p n = cond (any_index p n) (Some (first_index p n)) None
