-- Sums in index order: of floats, from +0 and rounded at each step, and of whole numbers, exact.
use Rattle.std.specs.Prelude.{ℕ, zero, suc, ◌+◌, ◌<◌, ℤ, pos, ◌+ℤ◌, T, Float}
use Rattle.std.specs.Float.{Format}
use Rattle.std.specs.Float.Ieee.{add, fits}
use Rattle.float_laws.specs.Zero.{plus_zero}

-- term 0 + .. + term (n - 1)
unfoldable pub running : Format → (ℕ → Float) → ℕ → Float
running f term zero = plus_zero
running f term (suc n) = add f (running f term n) (term n)

unfoldable pub total : (ℕ → ℕ) → ℕ → ℕ
total term zero = 0
total term (suc n) = total term n + term n

unfoldable pub totalℤ : (ℕ → ℤ) → ℕ → ℤ
totalℤ term zero = pos 0
totalℤ term (suc n) = totalℤ term n +ℤ term n

-- the format holds the first n terms
abbrev pub AllFit : Format → (ℕ → Float) → ℕ → Type 0
AllFit f term n = (i : ℕ) → i < n → T (fits f (term i))
