-- Files with what fvecs prints for them, which antt computes.
use Rattle.std.specs.Prelude.{◌≡◌, refl, List, [], ◌∷◌, ◌++◌, map, ℕ, take}
use Prim.Native.String.{String}
use Rattle.little_endian.specs.Bytes.{number_at}
use Rattle.lines.specs.Text.{word}
use Rattle.lines.specs.Hex.{hex_of}
use Rattle.lines.specs.Decimal.{decimal_in, decimal_of}
use Rattle.lines.specs.Printed.{numbered_reply}
use Rattle.reply_texts.specs.Texts.{detail_text}
use Rattle.vecs.specs.Vecs.{vecs_refusals, vecs_answer_by, vector_at, elements_at}
use Rattle.vecs.specs.VecsExamples.{one32, two32, counted, two_vectors}
use Rattle.fvecs.specs.Listed.{listed_in, listed}

pub record Example : Type 0 where
  pub file : List ℕ
  pub lines : String

abbrev pub lists : List ℕ → String → Example
lists file lines = record { file = file; lines = lines }

abbrev pub table : List Example
table =
    lists [] ""
    ∷ lists two_vectors "1\tV\t1\t0000803f\n2\tV\t2\t000000400000803f\n"
    -- no element, before and after one
    ∷ lists (counted 0 ++ counted 1 ++ one32 ++ counted 0) "1\tV\t0\t\n2\tV\t1\t0000803f\n3\tV\t0\t\n"
    -- cut inside the count, after it, and inside the elements of the second: its place is told
    ∷ lists (1 ∷ 0 ∷ 0 ∷ []) "1\tR\t19\t0\n"
    ∷ lists (counted 1) "1\tR\t19\t0\n"
    ∷ lists (take 11 two_vectors) "1\tV\t1\t0000803f\n2\tR\t19\t8\n"
    ∷ lists (take 19 two_vectors) "1\tV\t1\t0000803f\n2\tR\t19\t8\n"
    -- a count over the limit, whatever follows
    ∷ lists (counted 1 ++ two32 ++ (1 ∷ 0 ∷ 1 ∷ 0 ∷ [])) "1\tV\t1\t00000040\n2\tR\t9\n"
    ∷ lists ((0xff ∷ 0xff ∷ 0xff ∷ 0xff ∷ []) ++ two_vectors) "1\tR\t9\n"
    ∷ []

pub table-holds : map (λ (e : Example). listed e.file) table ≡ map (λ (e : Example). word e.lines) table
unfolding listed_in vector_at elements_at vecs_answer_by vecs_refusals number_at numbered_reply decimal_in decimal_of hex_of detail_text
table-holds = refl
