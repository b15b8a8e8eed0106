-- The replies to lines about one float. With | for a tab the lines are
--     root|W|F    narrow|F    widen|F    trunc|F
-- where W is 32 or 64 and F is a float's pattern in lower-case hexadecimal, the highest digit first. The reply is F|, and the
-- pattern of the result, or for trunc a number of two digits; it is X where W or F is none.
use Rattle.std.specs.Prelude.{ℕ, List, [], ◌∷◌, ◌++◌, Option}
use Rattle.std.specs.Option.{option_map_or}
use Rattle.std.specs.Float.{binary32, binary64}
use Rattle.std.specs.Float.Ieee.{of_bits, to_bits}
use Rattle.io.specs.Digits.{last_digits}
use Rattle.rounding.specs.Root.{root}
use Rattle.rounding.specs.Narrow.{narrowed}
use Rattle.rounding.specs.Truncate.{truncated}
use Rattle.lines.specs.Text.{word}
use Rattle.lines.specs.Hex.{pattern_of}
use Rattle.lines.specs.Fields.{malformed, first_named}
use Rattle.probe_floats.specs.declared.Work.{Work}
use Rattle.probe_floats.specs.declared.Work.TheVariants.{Root32, Root64, Narrow, Widen, Trunc}

-- how many digits F has, how many the result has, and the result
pub record FloatWork : Type 0 where
  pub takes : ℕ
  pub gives : ℕ
  pub result : ℕ → ℕ

abbrev pub float_work : ℕ → ℕ → (ℕ → ℕ) → FloatWork
float_work t g r = record { takes = t; gives = g; result = r }

abbrev pub work_of : Work → FloatWork
work_of Root32 = float_work 8 8 (λ n. to_bits binary32 (root binary32 (of_bits binary32 n)))
work_of Root64 = float_work 16 16 (λ n. to_bits binary64 (root binary64 (of_bits binary64 n)))
work_of Narrow = float_work 16 8 (λ n. to_bits binary32 (narrowed (of_bits binary64 n)))
work_of Widen = float_work 8 16 (λ n. to_bits binary64 (of_bits binary32 n))
work_of Trunc = float_work 8 2 (λ n. truncated (of_bits binary32 n))

abbrev pub float_text : ℕ → ℕ → List ℕ
float_text width n = word "F\t" ++ last_digits 16 width n

-- the reply to F by its pattern, if it is one
unfoldable pub float_reply : Work → List ℕ → List ℕ
float_reply work field =
    let w = work_of work in
    option_map_or (λ n. float_text w.gives (w.result n)) (pattern_of w.takes field) malformed

-- the root that W names
abbrev pub root_of : List ℕ → Option Work
root_of width = first_named ((word "32", Root32) ∷ (word "64", Root64) ∷ []) width

unfoldable pub root_reply : List ℕ → List ℕ → List ℕ
unfolding float_reply
root_reply width field = option_map_or (λ work. float_reply work field) (root_of width) malformed
