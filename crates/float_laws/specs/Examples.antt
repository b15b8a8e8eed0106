-- Worked sums, differences and products, by bit patterns: one table, and one statement that antt computes.
use Rattle.std.specs.Prelude.{◌≡◌, refl, List, [], ◌∷◌, map, ℕ, Float}
use Rattle.std.specs.Float.{Format, binary32, binary64}
use Rattle.std.specs.Float.Ieee.{add, sub, mul, of_bits, to_bits}

pub record Example : Type 0 where
  pub format : Format
  pub operation : Format → Float → Float → Float
  pub left : ℕ
  pub right : ℕ
  pub answer : ℕ

abbrev pub example : Format → (Format → Float → Float → Float) → ℕ → ℕ → ℕ → Example
example f op x y z = record { format = f; operation = op; left = x; right = y; answer = z }

abbrev pub table : List Example
table =
    -- 0.1 + 0.2 is not 0.3
    example binary64 add 0x3fb9_9999_9999_999a 0x3fc9_9999_9999_999a 0x3fd3_3333_3333_3334
    -- -0 + 0 is 0, and -0 + -0 is -0
    ∷ example binary64 add 0x8000_0000_0000_0000 0 0
    ∷ example binary64 add 0x8000_0000_0000_0000 0x8000_0000_0000_0000 0x8000_0000_0000_0000
    -- 1 - 1 is 0, and 0 - 1 is -1
    ∷ example binary32 sub 0x3f80_0000 0x3f80_0000 0
    ∷ example binary32 sub 0 0x3f80_0000 0xbf80_0000
    -- -1 * 0 is -0, and half the smallest value is 0
    ∷ example binary32 mul 0xbf80_0000 0 0x8000_0000
    ∷ example binary32 mul 1 0x3f00_0000 0
    -- 2 ^ 24 + 1 is 2 ^ 24
    ∷ example binary32 add 0x4b80_0000 0x3f80_0000 0x4b80_0000
    -- the largest value twice is infinity, and infinity less infinity is a NaN
    ∷ example binary32 add 0x7f7f_ffff 0x7f7f_ffff 0x7f80_0000
    ∷ example binary32 sub 0x7f80_0000 0x7f80_0000 0x7fc0_0000
    ∷ []

abbrev pub computed : Example → ℕ
computed e = to_bits e.format (e.operation e.format (of_bits e.format e.left) (of_bits e.format e.right))

pub table-holds : map computed table ≡ map (λ e. e.answer) table
unfolding add sub mul of_bits to_bits
table-holds = refl
