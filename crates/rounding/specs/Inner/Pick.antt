-- Only a function to compute with: the nearest value, found by halving the patterns, for whatever `Nearest` speaks of. It need not be believed:
-- `pick-nearest` (`proofs/Nearest.antt`) proves that what it finds is `Nearest`.
use Rattle.std.specs.Prelude.{ℕ, zero, suc, ◌+◌, ◌-◌, ◌*◌, ◌/◌, ◌%◌, ◌^◌, Bool, true, false, cond, ◌&&◌, ◌==◌, nat_le, Float}
use Prim.Native.Nat.{compare, Ordering}
use Rattle.std.specs.Float.{Format}
use Rattle.std.specs.Float.Ieee.{hid, ones, top, of_bits}

-- a pattern's digits, without its sign, h being the weight of the exponent's field: a field of 0 has no leading digit
abbrev pub digits_of : ℕ → ℕ → ℕ
digits_of h b = b % h + cond (b / h == 0) 0 h

-- How many smallest values the pattern b stands for, without its sign. Patterns rise with their values, and an infinity's, ones * hid, stands for 2 ^ (emax + 1).
unfoldable pub count : Format → ℕ → ℕ
count f b = digits_of (hid f) b * 2 ^ (b / hid f - 1)

-- The higher of two neighbours, of pattern b, is nearer where the point midway is below the number; where it is at the number, if b is even.
-- o is how the point compares with the number.
abbrev pub higher_is_nearer : Ordering → ℕ → Bool
higher_is_nearer Ordering.lt b = true
higher_is_nearer Ordering.eq b = b % 2 == 0
higher_is_nearer Ordering.gt b = false

-- the pattern b, not above an infinity's, is nearer than the pattern before it
abbrev pub nearer_than_previous : Format → ℕ → (ℕ → ℕ) → ℕ → Bool
nearer_than_previous f v mid b = nat_le b (ones f * hid f) && higher_is_nearer (compare (mid (count f b + count f (b - 1))) v) b

-- the last number among a .. a + 2 ^ d - 1 for which p holds, if it holds up to some number and not from there on: by d halvings
unfoldable pub last : (ℕ → Bool) → ℕ → ℕ → ℕ
last p zero a = a
last p (suc d) a = last p d (cond (p (a + 2 ^ d)) (a + 2 ^ d) a)

-- the value of the last pattern that is nearer than the one before it
unfoldable pub pick : Format → Bool → ℕ → (ℕ → ℕ) → Float
unfolding count last of_bits
pick f s v mid = of_bits f (cond s (top f) 0 + last (nearer_than_previous f v mid) 64 0)
