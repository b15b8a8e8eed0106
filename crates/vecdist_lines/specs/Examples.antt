-- Examples: lines with their replies, the customer's first: one table, and one statement about all of it, which antt computes.
use Rattle.std.specs.Prelude.{refl, List, [], ◌∷◌}
use Rattle.std.specs.Float.Ieee.{add, sub, mul, div, neg, eq, lt, of_int, of_bits, to_bits}
use Rattle.float_laws.specs.Running.{running, total}
use Rattle.little_endian.specs.Bytes.{number_at}
use Rattle.rounding.specs.Root.{root}
use Rattle.vector_types.specs.Search.{first_from}
use Rattle.vector_types.specs.Layout.{named_kind, by_byte, length_before_type, body_fits, layout_row}
use Rattle.vector_types.specs.Read.{read_of, refusals, shown}
use Rattle.vector_types.specs.Parts.{body_of}
use Rattle.bodies.specs.Merged.{merged}
use Rattle.distance.specs.Answer.{distance_of}
use Rattle.lines.specs.Hex.{digit_of, hex_pair, hex_bytes, decoded_of}
use Rattle.lines.specs.Decimal.{decimal_of}
use Rattle.lines.specs.Parts.{parts_of}
use Rattle.lines.specs.Examples.{Example, example, RepliesAs}
use Rattle.vecdist_lines.specs.Line.{vecdist_reply}

abbrev pub table : List Example
table =
    example "cos\t\t" "D\t0000000000000000"
    ∷ example "dot\taa0803\tab0803" "D\tc018000000000000"
    ∷ example "l2\taa0803\tab0803" "R\t14\t-"
    ∷ example "cos\t07\t05" "R\t3\ta"
    ∷ example "cos\t0200000009\t0200000009" "D\t7ff8000000000000"
    ∷ example "hello" "X"
    -- the other distances, and refusals about the second blob and about both
    ∷ example "l2\t0000000000000000\t0000404000008040" "D\t4014000000000000"
    ∷ example "jac\taa0803\tab0803" "D\t3fc9999999999998"
    ∷ example "cos\t\t05" "R\t2\tb"
    ∷ example "cos\t0000803f0000803f01000000050000000200000009\t0200000009" "R\t8\ta\t1"
    ∷ example "cos\t0200000009\t0000803f0000803f01000000050000000200000009" "R\t8\tb\t1"
    ∷ example "cos\t\t0000803f" "R\t12\t-"
    ∷ example "dot\t0000803f\t000000000000f03f02" "R\t13\t-"
    -- upper case, a carriage return, a space, an odd digit, a tab too few and one too many, no text
    ∷ example "COS\t\t" "X"
    ∷ example "dot\tAA0803\tab0803" "X"
    ∷ example "cos\t\t\r" "X"
    ∷ example "cos \t\t" "X"
    ∷ example "cos\t \t" "X"
    ∷ example "cos\t0\t" "X"
    ∷ example "cos\t" "X"
    ∷ example "cos\t\t\t" "X"
    ∷ example "" "X"
    -- the first blob would be refused, but the second is none
    ∷ example "cos\t07\t0g" "X"
    ∷ []

pub table-holds : RepliesAs vecdist_reply table
unfolding vecdist_reply parts_of digit_of hex_pair hex_bytes decoded_of decimal_of to_bits
    distance_of read_of body_of named_kind by_byte length_before_type body_fits refusals shown first_from number_at layout_row running total root merged add sub mul div neg eq lt of_int of_bits
table-holds = refl
