-- Examples: lines about floats, blobs, candidates and files of vectors with their replies, and one statement about all of them, which antt computes.
use Rattle.std.specs.Prelude.{refl, List, [], ◌∷◌}
use Rattle.std.specs.Float.Ieee.{to_bits, of_bits, of_int, add, sub, mul, div, neg, eq, lt, le, is_nan}
use Rattle.float_laws.specs.Running.{running, total}
use Rattle.rounding.specs.Root.{root}
use Rattle.rounding.specs.Narrow.{narrowed}
use Rattle.rounding.specs.Truncate.{truncated}
use Rattle.vector_types.specs.Search.{first_from}
use Rattle.vector_types.specs.Read.{read_of}
use Rattle.blob_writer.specs.Write.{write_of}
use Rattle.vector_types.specs.Parts.{body_of}
use Rattle.little_endian.specs.Bytes.{bytes_of, number_at, put}
use Rattle.convert_parts.specs.Spread.{spread}
use Rattle.convert.specs.Convert.{conversion_of}
use Rattle.bodies.specs.Merged.{merged}
use Rattle.distance_sums.specs.Dense.{squares_with}
use Rattle.nearer.specs.Nearer.{nearer_of}
use Rattle.vecs.specs.Vecs.{vector_at, elements_at}
use Rattle.vecs.specs.Append.{append_outcome}
use Rattle.lines.specs.Hex.{digit_of, number_from, pattern_of, hex_pair, hex_bytes, decoded_of, hex_of}
use Rattle.lines.specs.Decimal.{decimal_of, numeral_of}
use Rattle.lines.specs.Parts.{parts_of}
use Rattle.lines.specs.Examples.{Example, example, RepliesAs}
use Rattle.reply_texts.specs.Texts.{detail_text}
use Rattle.probe_lines.specs.Line.{vecprobe_reply}

abbrev pub floats : List Example
floats =
    example "root\t32\t40000000" "F\t3fb504f3"
    ∷ example "root\t64\t4000000000000000" "F\t3ff6a09e667f3bcd"
    ∷ example "root\t32\tbf800000" "F\t7fc00000"
    ∷ example "narrow\t3ff0000010000000" "F\t3f800000"
    ∷ example "narrow\t3ff0000030000000" "F\t3f800002"
    ∷ example "widen\t3f800001" "F\t3ff0000020000000"
    ∷ example "trunc\t437fffff" "F\tff"
    ∷ example "root\t32\t3F800000" "X"
    ∷ example "root\t32\t3f800000\t" "X"
    ∷ example "narrow\t3f800000" "X"
    ∷ example "trunc\t3f800000\r" "X"
    ∷ example " trunc\t3f800000" "X"
    ∷ example "" "X"
    ∷ []

-- the customer's examples of reading, and lines of the strict mode and of the writer
abbrev pub blobs : List Example
blobs =
    example "read\t" "V\t1\t0\t\t0"
    ∷ example "read\t01" "V\t1\t0\t\t0"
    ∷ example "read\t05" "R\t2"
    ∷ example "read\t03" "R\t4"
    ∷ example "read\taa0803" "V\t3\t8\taa\t8"
    ∷ example "read\taa0703" "R\t6"
    ∷ example "read\taa1003" "R\t7"
    ∷ example "read\taa1103" "R\t5"
    ∷ example "strict\tab0903" "R\t11"
    ∷ example "strict\t0000803f0000803f00000000000000000100000009" "R\t10\t1"
    ∷ example "strict\t0000803f000000000100000009" "V\t9\t1\t0000803f00000000\t1"
    -- two readings of three, none of three, and two in one place
    ∷ example "read\t000070420000a04200000000020000000300000009" "V\t9\t3\t000070420000a0420000000002000000\t2"
    ∷ example "read\t0300000009" "V\t9\t3\t\t0"
    ∷ example "read\t0000803f0000803f00000000000000000100000009" "V\t9\t1\t0000803f0000803f0000000000000000\t2"
    ∷ example "read\t0000803f0000803f01000000050000000200000009" "R\t8\t1"
    ∷ example "strict\t0000803f0000803f01000000050000000200000009" "R\t8\t1"
    ∷ example "write\t9\t2\t0000803f0000803f0100000005000000" "R\t8\t1"
    ∷ example "write\t3\t8\taa" "W\taa0803"
    ∷ example "write\t1\t65537\t" "R\t9"
    ∷ example "write\t3\t0\t" "R\t16"
    ∷ example "read\tAA0803" "X"
    ∷ example "read\ta" "X"
    ∷ example "write\t5\t8\taa" "X"
    ∷ example "write\t3\t\taa" "X"
    ∷ []

-- to sparse, where -0.0 is dropped; to 1-bit, where NaN is no 1; from sparse to 1-bit; from 1-bit; to Float8
abbrev pub conversions : List Example
conversions =
    example "conv\t9\t0000803f00000080" "C\t9\t2\t0000803f00000000\t1"
    ∷ example "conv\t3\t0000003f00000000000080bf0000c07f" "C\t3\t4\t01\t4"
    ∷ example "conv\t3\t0000803f010000000300000009" "C\t3\t3\t02\t3"
    ∷ example "conv\t2\taa0e03" "C\t2\t2\t000000000000f0bf000000000000f03f\t2"
    ∷ example "conv\t4\t0000803f0000004000004040" "C\t4\t3\t007fff008180003c0000803f\t3"
    -- a ride with two readings of three, made dense: the count is lost
    ∷ example "conv\t1\t000070420000a04200000000020000000300000009" "C\t1\t3\t00007042000000000000a042\t3"
    ∷ example "conv\t2\t05" "R\t2"
    ∷ example "conv\t1\t0000803f0000803f01000000050000000200000009" "R\t8\t1"
    ∷ example "conv\t5\t" "X"
    ∷ example "conv\t9" "X"
    ∷ []

-- the second is nearer, the first is, a tie, no likeness at all; refusals, and lines of too few and too many fields
abbrev pub nearest : List Example
nearest =
    example "near\tdot\t0000803f\t00000000\t0000803f" "N\t2\tbff0000000000000\t1"
    ∷ example "near\tdot\t0000803f\t0000803f\t00000000" "N\t1\tbff0000000000000\t1"
    ∷ example "near\tcos\t\t\t" "N\t1\t0000000000000000\t0"
    -- the winner's readings, one, and not the probe's, two
    ∷ example "near\tl2\t000070420000a04200000000020000000300000009\t0300000009\t00007042000000000300000009" "N\t2\t4054000000000000\t1"
    ∷ example "near\tcos\t0200000009\t0200000009\t0200000009" "R\t18\t-"
    ∷ example "near\tcos\t07\t05\t" "R\t3\tp"
    ∷ example "near\tcos\t\t05\t07" "R\t2\ta"
    ∷ example "near\tcos\t\t\t05" "R\t2\tb"
    ∷ example "near\tcos\t0000803f0000803f01000000050000000200000009\t\t" "R\t8\tp\t1"
    ∷ example "near\tcos\t\t\t0000803f0000803f01000000050000000200000009" "R\t8\tb\t1"
    ∷ example "near\tcos\t07\t05\t0g" "X"
    ∷ example "near\tcos\t\t" "X"
    ∷ example "near\tcos\t\t\t\t" "X"
    ∷ []

-- a vector, the end, a vector cut short, and a count over the limit, of fvecs and of bvecs; a place of no digit and of eleven
abbrev pub files : List Example
files =
    example "fvecs\t0\t010000000000803f02000000" "I\t8\t1\t0000803f"
    ∷ example "fvecs\t8\t010000000000803f02000000" "R\t19\t8"
    ∷ example "fvecs\t12\t010000000000803f02000000" "E"
    ∷ example "fvecs\t0\t01000100" "R\t9"
    ∷ example "fvecs\t0\t" "E"
    ∷ example "bvecs\t0\t0200000001ff" "I\t6\t2\t0000803f00007f43"
    ∷ example "bvecs\t0\t02000000ff" "R\t19\t0"
    ∷ example "bvecs\t9999999999\t0200000001ff" "E"
    ∷ example "bvecs\t0\tffffffff" "R\t9"
    ∷ example "fvecs\t\t00000000" "X"
    ∷ example "fvecs\t00000000000\t00000000" "X"
    ∷ example "bvecs\t0\t0000000" "X"
    ∷ example "bvecs\t0" "X"
    ∷ []

-- a vector appended, one of no elements behind a fill; a refusal of the reader, another kind, too little room, a fill past the end
abbrev pub appended : List Example
appended =
    example "append\t0\teeeeeeeeeeeeeeeeee\t0000803f" "A\t8\t010000000000803fee"
    ∷ example "append\t1\teeeeeeeeee\t" "A\t5\tee00000000"
    ∷ example "append\t0\tee\t07" "R\t3"
    ∷ example "append\t0\tee\t0000803f0000803f01000000050000000200000009" "R\t8\t1"
    ∷ example "append\t0\tee\t02" "R\t13"
    ∷ example "append\t2\teeeeeeeeeeeeeeeeee\t0000803f" "R\t15\t8"
    ∷ example "append\t9999999999\t\t" "R\t15\t4"
    ∷ example "append\t0\tEE\t" "X"
    ∷ example "append\t0\tee\t0" "X"
    ∷ example "append\t0\tee" "X"
    ∷ []

pub examples-hold :
    RepliesAs vecprobe_reply floats × RepliesAs vecprobe_reply blobs × RepliesAs vecprobe_reply conversions × RepliesAs vecprobe_reply nearest
    × RepliesAs vecprobe_reply files × RepliesAs vecprobe_reply appended
unfolding parts_of vecprobe_reply detail_text decimal_of numeral_of pattern_of number_from digit_of hex_pair hex_bytes decoded_of hex_of
    root narrowed truncated to_bits read_of write_of first_from body_of
    conversion_of bytes_of number_at put nearer_of vector_at elements_at append_outcome spread running total merged squares_with of_bits of_int add sub mul div neg eq lt le is_nan
examples-hold = (refl, refl, refl, refl, refl, refl)
