-- Rounding to nearest, a tie to the even value: which value of a format is nearest to a number, said by comparing whole numbers.
-- Definitions only. `proofs/Nearest.antt` proves that there is one such value (`pick-nearest`) and only one (`nearest-unique`).
use Rattle.std.specs.Prelude.{◌≡◌, ℕ, suc, ◌+◌, ◌*◌, ◌%◌, ◌^◌, ◌<◌, Bool, T, ◌⊎◌, to_bits, Float}
use Rattle.std.specs.Float.{nan, inf, fin, Format}
use Rattle.std.specs.Float.Ieee.{emax, low, up, down, fits}

-- z is a value of the format f with the sign s, and in size it is Z of f's smallest values, Z * 2 ^ -low.
-- A finite z is m * 2 ^ e, the fraction m * up e / down e. An infinity counts as 2 ^ (emax + 1), with which the format would go on.
abbrev pub HasSize : Format → Bool → Float → ℕ → Type 0
HasSize f s nan Z = ⊥
HasSize f s (inf t) Z = (t ≡ s) × (Z ≡ 2 ^ (low f + suc (emax f)))
HasSize f s (fin t m e) Z = T (fits f (fin t m e)) × (t ≡ s) × (m * up e * 2 ^ low f ≡ Z * down e)

-- y's pattern is an even number: its last digit is 0
abbrev pub Even : Format → Float → Type 0
Even f y = to_bits f y % 2 ≡ 0

-- a is less than b; or they tie, and then E holds
abbrev pub LessOrTie : ℕ → ℕ → Type 0 → Type 0
LessOrTie a b E = (a < b) ⊎ ((a ≡ b) × E)

-- y, with the sign s, is the value of f nearest to a number. The number is given by comparisons of whole numbers: it is above, at or below M / 2 of f's smallest values
-- as v is above, at or below `mid M`. So v against `mid (Y + Z)` says on which side of the point midway between Y and Z the number lies.
-- For every lower and every higher value Z it lies on Y's side; or midway, and then y is even.
pub record Nearest (f : Format) (s : Bool) (v : ℕ) (mid : ℕ → ℕ) (y : Float) : Type 0 where
  pub Y : ℕ
  pub has_size : HasSize f s y Y
  pub lower : (z : Float) (Z : ℕ) → HasSize f s z Z → Z < Y → LessOrTie (mid (Y + Z)) v (Even f y)
  pub higher : (z : Float) (Z : ℕ) → HasSize f s z Z → Y < Z → LessOrTie v (mid (Y + Z)) (Even f y)

-- y is the value of f nearest to the fraction a / c, which is a * 2 ^ low / c smallest values: M / 2 of them are compared with it by M * c against 2 * (a * 2 ^ low)
abbrev pub IsRounded : Format → Bool → ℕ → ℕ → Float → Type 0
IsRounded f s a c y = Nearest f s (2 * (a * 2 ^ low f)) (λ M. M * c) y
