-- Closed cases of `root`, `narrowed` and `truncated`, which antt computes: one statement for the whole table. The answers are those of Rust's `sqrt` and `as`.
use Rattle.std.specs.Prelude.{◌≡◌, ℕ, List, [], ◌∷◌, map, refl}
use Rattle.std.specs.Float.{Format, binary32, binary64}
use Rattle.std.specs.Float.Ieee.{of_bits, to_bits}
use Rattle.rounding.specs.Root.{root}
use Rattle.rounding.specs.Narrow.{narrowed}
use Rattle.rounding.specs.Truncate.{truncated}

-- what is asked: of a pattern, the root in a format, the f32 of an f64, the whole number of an f32
pub data Asked : Type 0 where
  root_of : Format → ℕ → Asked
  narrow cut : ℕ → Asked

-- a row of the table: what is asked, and the pattern or the number that answers
pub record Example : Type 0 where
  pub asked : Asked
  pub answer : ℕ

abbrev pub example : Asked → ℕ → Example
example a t = record { asked = a; answer = t }

unfoldable pub computed : Asked → ℕ
unfolding root narrowed truncated of_bits to_bits
computed (root_of f b) = to_bits f (root f (of_bits f b))
computed (narrow b) = to_bits binary32 (narrowed (of_bits binary64 b))
computed (cut b) = truncated (of_bits binary32 b)

abbrev pub table : List Example
table =
    -- perfect squares, and 2.0
    example (root_of binary64 0x4039_0000_0000_0000) 0x4014_0000_0000_0000
    ∷ example (root_of binary32 0x4110_0000) 0x4040_0000
    ∷ example (root_of binary64 0x4000_0000_0000_0000) 0x3ff6_a09e_667f_3bcd
    ∷ example (root_of binary32 0x4000_0000) 0x3fb5_04f3
    -- the smallest subnormal, the largest finite value
    ∷ example (root_of binary64 1) 0x1e60_0000_0000_0000
    ∷ example (root_of binary32 1) 0x1a35_04f3
    ∷ example (root_of binary64 0x7fef_ffff_ffff_ffff) 0x5fef_ffff_ffff_ffff
    ∷ example (root_of binary32 0x7f7f_ffff) 0x5f7f_ffff
    -- zeros, infinities, below zero, NaN
    ∷ example (root_of binary64 0) 0
    ∷ example (root_of binary32 0x8000_0000) 0x8000_0000
    ∷ example (root_of binary64 0x7ff0_0000_0000_0000) 0x7ff0_0000_0000_0000
    ∷ example (root_of binary32 0xff80_0000) 0x7fc0_0000
    ∷ example (root_of binary64 0xbff0_0000_0000_0000) 0x7ff8_0000_0000_0000
    ∷ example (root_of binary32 0x7f80_0001) 0x7fc0_0000
    -- narrowing: 1 and a half of the last place goes down to the even one, 1 and three halves up; and the same below zero
    ∷ example (narrow 0x3ff0_0000_1000_0000) 0x3f80_0000
    ∷ example (narrow 0x3ff0_0000_3000_0000) 0x3f80_0002
    ∷ example (narrow 0xbff0_0000_1000_0001) 0xbf80_0001
    -- the overflow's edge, and the value below it
    ∷ example (narrow 0x47ef_ffff_f000_0000) 0x7f80_0000
    ∷ example (narrow 0x47ef_ffff_efff_ffff) 0x7f7f_ffff
    ∷ example (narrow 0xfff0_0000_0000_0000) 0xff80_0000
    -- halfway to the smallest f32 goes to zero, with its sign; above that to the smallest; three halves of it to two
    ∷ example (narrow 0xb690_0000_0000_0000) 0x8000_0000
    ∷ example (narrow 0x3690_0000_0000_0001) 1
    ∷ example (narrow 0x36a8_0000_0000_0000) 2
    ∷ example (narrow 0x7ff0_0000_0000_0001) 0x7fc0_0000
    -- cut to a whole number: 2.75, -1.0, 255.5, 256.0, NaN
    ∷ example (cut 0x4030_0000) 2
    ∷ example (cut 0xbf80_0000) 0
    ∷ example (cut 0x437f_8000) 255
    ∷ example (cut 0x4380_0000) 255
    ∷ example (cut 0x7fc0_0000) 0
    ∷ []

pub table-holds : map (λ e. computed e.asked) table ≡ map (λ e. e.answer) table
unfolding computed
table-holds = refl
