-- Inputs with what vecprobe prints for them, which antt computes.
use Rattle.std.specs.Prelude.{refl, List, [], ◌∷◌}
use Rattle.std.specs.Float.Ieee.{of_bits, of_int, lt}
use Rattle.rounding.specs.Truncate.{truncated}
use Rattle.lines.specs.Hex.{digit_of, number_from, pattern_of}
use Rattle.lines.specs.Decimal.{decimal_of}
use Rattle.lines.specs.Parts.{parts_of, last_unless_empty}
use Rattle.lines.specs.Printed.{numbered_reply, numbered_replies}
use Rattle.lines.specs.Examples.{Example, example, RepliesAs}
use Rattle.probe_lines.specs.Line.{vecprobe_reply}
use Rattle.vecprobe.specs.Printed.{printed}

abbrev pub table : List Example
table =
    example "trunc\t40400000\n\ntrunc\t40400000" "1\tF\t03\n2\tX\n3\tF\t03\n"
    ∷ example "" ""
    ∷ example "\n" "1\tX\n"
    ∷ []

pub table-holds : RepliesAs printed table
unfolding numbered_replies numbered_reply last_unless_empty parts_of vecprobe_reply decimal_of pattern_of number_from digit_of truncated of_bits of_int lt
table-holds = refl
