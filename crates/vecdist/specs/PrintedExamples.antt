-- Inputs with what vecdist prints for them, the customer's first, which antt computes.
use Rattle.std.specs.Prelude.{refl, List, [], ◌∷◌}
use Rattle.std.specs.Float.Ieee.{add, sub, mul, div, neg, eq, lt, of_int, of_bits, to_bits}
use Rattle.float_laws.specs.Running.{running, total}
use Rattle.little_endian.specs.Bytes.{number_at}
use Rattle.rounding.specs.Root.{root}
use Rattle.vector_types.specs.Search.{first_from}
use Rattle.vector_types.specs.Layout.{named_kind, by_byte, length_before_type, body_fits, layout_row}
use Rattle.vector_types.specs.Read.{read_of, refusals, shown}
use Rattle.vector_types.specs.Parts.{body_of}
use Rattle.bodies.specs.Merged.{merged}
use Rattle.distance.specs.Answer.{distance_of}
use Rattle.lines.specs.Hex.{digit_of, hex_pair, hex_bytes, decoded_of}
use Rattle.lines.specs.Decimal.{decimal_of}
use Rattle.lines.specs.Parts.{parts_of, last_unless_empty}
use Rattle.lines.specs.Printed.{numbered_reply, numbered_replies}
use Rattle.lines.specs.Examples.{Example, example, RepliesAs}
use Rattle.vecdist_lines.specs.Line.{vecdist_reply}
use Rattle.vecdist.specs.Printed.{printed}

abbrev pub table : List Example
table =
    example "cos\t\t\ndot\taa0803\tab0803\nl2\taa0803\tab0803\ncos\t07\t05\ncos\t0200000009\t0200000009\nhello\n"
    "1\tD\t0000000000000000\n2\tD\tc018000000000000\n3\tR\t14\t-\n4\tR\t3\ta\n5\tD\t7ff8000000000000\n6\tX\n"
    -- no input, an empty line, a last line with no newline
    ∷ example "" ""
    ∷ example "\n" "1\tX\n"
    ∷ example "hello\n\ncos\t\t" "1\tX\n2\tX\n3\tD\t0000000000000000\n"
    ∷ []

pub table-holds : RepliesAs printed table
unfolding numbered_replies numbered_reply last_unless_empty vecdist_reply parts_of digit_of hex_pair hex_bytes decoded_of decimal_of to_bits
    distance_of read_of body_of named_kind by_byte length_before_type body_fits refusals shown first_from number_at layout_row running total root merged add sub mul div neg eq lt of_int of_bits
table-holds = refl
