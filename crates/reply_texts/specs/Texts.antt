-- The parts that replies of several crates share. With | for a tab
--     R|number    R|number|N
-- are refusals, where N is what a refusal carries: the bytes that a buffer would have to have, the place where a vector starts, or the entry
-- that is wrong. And
--     M|N|N|H    M|N|N|H|N
-- show a vector: a mark, two numbers, bytes in hexadecimal, and a count of readings.
use Rattle.std.specs.Prelude.{ℕ, List, [], ◌++◌}
use Rattle.lines.specs.Text.{word}
use Rattle.lines.specs.Hex.{hex_of}
use Rattle.lines.specs.Printed.{head_of}
use Rattle.lines.specs.Decimal.{decimal_of}
use Rattle.vector_types.specs.Answers.{number_of, detail_of}
use Rattle.vector_types.specs.declared.Refusal.{Refusal}
use Rattle.vector_types.specs.declared.Detail.{Detail}
use Rattle.vector_types.specs.declared.Detail.TheVariants.{Nothing, Needs, Starts, Entry}

-- a number after a mark
abbrev pub marked_text : List ℕ → ℕ → List ℕ
marked_text mark n = mark ++ decimal_of n

-- a number as a further field
abbrev pub field_text : ℕ → List ℕ
field_text n = marked_text (word "\t") n

-- what a refusal carries
unfoldable pub detail_text : Detail → List ℕ
detail_text Nothing = []
detail_text (Needs need) = field_text need
detail_text (Starts place) = field_text place
detail_text (Entry entry) = field_text entry

abbrev pub refusal_text : Refusal → List ℕ
refusal_text r = marked_text (word "R\t") (number_of r) ++ detail_text (detail_of r)

-- two numbers after a mark, and bytes after these
abbrev pub header_text : List ℕ → ℕ → ℕ → List ℕ
header_text mark m n = (mark ++ head_of m) ++ head_of n

abbrev pub shown_text : List ℕ → ℕ → ℕ → List ℕ → List ℕ
shown_text mark m n s = header_text mark m n ++ hex_of s

-- and a further number after the bytes
abbrev pub counted_text : List ℕ → ℕ → ℕ → List ℕ → ℕ → List ℕ
counted_text mark m n s count = shown_text mark m n s ++ field_text count
