-- The customer's examples, and others, through the exports: one table, and one statement about all of it, which antt computes.
use Rattle.std.specs.Prelude.{◌≡◌, refl, List, [], ◌∷◌, ◌++◌, map, ℕ, ◌-◌, ◌^◌, take, replicate}
use Rattle.std.specs.Float.Ieee.{add, sub, mul, div, neg, eq, lt, le, is_nan, of_int, of_bits, to_bits}
use Rattle.float_laws.specs.Running.{running, total}
use Rattle.little_endian.specs.Bytes.{number_at, bytes_of, put}
use Rattle.rounding.specs.Root.{root}
use Rattle.vector_types.specs.Search.{first_from}
use Rattle.vector_types.specs.Layout.{named_kind, by_byte, length_before_type, body_fits, layout_row}
use Rattle.vector_types.specs.Read.{read_of, refusals, shown}
use Rattle.vector_types.specs.Parts.{body_of}
use Rattle.vector_types.specs.Examples.{sparse_at, sixty, eighty, ride, twice_at_zero}
use Rattle.bodies.specs.Merged.{merged}
use Rattle.blob_writer.specs.Write.{write_of, write_outcome, write_refusals, tail_of, blob_of}
use Rattle.convert.specs.Convert.{convert_outcome}
use Rattle.distance_sums.specs.Dense.{squares_with}
use Rattle.distance_sums.specs.Examples.{zero_bytes as zero, one_bytes as one}
use Rattle.distance.specs.Answer.{distance_of}
use Rattle.distance.specs.Examples.{bits, three, four, no_entry, no_reading, wrong_entry}
use Rattle.distance.specs.declared.Distance.{Distance}
use Rattle.distance.specs.declared.Distance.TheVariants.{Cos, L2, Dot, Jaccard}
use Rattle.nearer.specs.Nearer.{nearer_of}
use Rattle.nearer.specs.Examples.{one_reading}
use Rattle.convert_parts.specs.Pieces.{pieces}
use Rattle.convert_parts.specs.Spread.{spread}
use Rattle.vecs.specs.Vecs.{vecs_refusals, vecs_answer_by, vector_at, bvecs_of, bvecs_outcome}
use Rattle.vecs.specs.Append.{append_of, append_outcome}
use Rattle.vecs.specs.VecsExamples.{counted}
use Rattle.answer_fields.specs.Fields.{ExportOutcome, export_outcome}
use Rattle.answer_fields.specs.Exported.{read_export, write_export, convert_export, distance_export, nearer_export, vecs_export, bvecs_export, append_export}
use Rattle.fulandewu.specs.Kinds.{written_by, converted_by}
use Rattle.fulandewu.specs.Modes.{mode_of}

-- what the definitions say that an export leaves, and what is expected
pub record Example : Type 0 where
  pub defined : ExportOutcome
  pub expected : ExportOutcome

abbrev pub example : ExportOutcome → ExportOutcome → Example
example x y = record { defined = x; expected = y }

-- what every field and byte that is lent is before
abbrev pub old : ℕ
old = 77

abbrev pub old_answer : List ℕ
old_answer = replicate 32 old

-- the fields that an export about blobs may write; the others are as they were
abbrev pub fields : (distance kind dims length needed which nearer entry readings others : ℕ) → List ℕ
fields distance kind dims length needed which nearer entry readings others =
    distance ∷ kind ∷ dims ∷ length ∷ needed ∷ which ∷ nearer ∷ entry ∷ readings ∷ others ∷ replicate 22 old

-- what an answer writes: of a view, of a blob that is written, of a new body, of a distance and the readings of both, of the nearer candidate
abbrev pub view_row : (kind dims length readings : ℕ) → ExportOutcome
view_row kind dims length readings = export_outcome 0 (fields old kind dims length old old old old readings old) []

abbrev pub written_row : ℕ → List (List ℕ) → ExportOutcome
written_row length = export_outcome 0 (fields old old old length old old old old old old)

abbrev pub converted_row : (dims length readings : ℕ) → List (List ℕ) → ExportOutcome
converted_row dims length readings = export_outcome 0 (fields old old dims length old old old old readings old)

abbrev pub distance_row : (pattern readings others : ℕ) → ExportOutcome
distance_row pattern readings others = export_outcome 0 (fields pattern old old old old old old old readings others) []

abbrev pub nearer_row : (pattern nearer readings : ℕ) → ExportOutcome
nearer_row pattern nearer readings = export_outcome 0 (fields pattern old old old old old nearer old readings old) []

-- what a refusal writes: nothing, what a buffer would need, the blob that it is about, that and the entry
abbrev pub refusal_row : ℕ → List (List ℕ) → ExportOutcome
refusal_row n = export_outcome n old_answer

abbrev pub needed_row : ℕ → ℕ → List (List ℕ) → ExportOutcome
needed_row n needed = export_outcome n (fields old old old old needed old old old old old)

abbrev pub which_row : ℕ → ℕ → ExportOutcome
which_row n which = export_outcome n (fields old old old old old which old old old old) []

abbrev pub entry_row : ℕ → ℕ → ℕ → List (List ℕ) → ExportOutcome
entry_row n which entry = export_outcome n (fields old old old old old which old entry old old)

-- the number returned, the fields that an export about files of vectors may write, and the buffers
abbrev pub file_row : ℕ → ℕ → ℕ → ℕ → ℕ → ℕ → ℕ → ℕ → List (List ℕ) → ExportOutcome
file_row n dims needed start next place found fill =
    export_outcome n (old ∷ old ∷ dims ∷ old ∷ needed ∷ replicate 5 old ++ (start ∷ next ∷ place ∷ found ∷ fill ∷ replicate 17 old))

-- the first number is the byte that names the mode
abbrev pub reads : ℕ → List ℕ → ExportOutcome → Example
reads byte s = example (read_export (read_of (mode_of byte) s) old_answer)

-- for an output of so many bytes
abbrev pub writes : ℕ → ℕ → List ℕ → ℕ → ExportOutcome → Example
writes byte d body room = example (write_export (written_by byte d body (replicate room old)) old_answer)

-- for so much scratch and so much output
abbrev pub converts : List ℕ → ℕ → ℕ → ℕ → ExportOutcome → Example
converts s byte work room = example (convert_export (converted_by s byte (replicate work old) (replicate room old)) old_answer)

abbrev pub measures : Distance → List ℕ → List ℕ → ExportOutcome → Example
measures m s t = example (distance_export (distance_of m s t) old_answer)

abbrev pub finds : Distance → List ℕ → List ℕ → List ℕ → ExportOutcome → Example
finds m p s t = example (nearer_export (nearer_of m p s t) old_answer)

abbrev pub reads_fvecs : List ℕ → ℕ → ExportOutcome → Example
reads_fvecs file place = example (vecs_export (vector_at 4 file place) old_answer)

-- for an output of so many bytes
abbrev pub reads_bvecs : List ℕ → ℕ → ℕ → ExportOutcome → Example
reads_bvecs file place room = example (bvecs_export (bvecs_outcome file place (replicate room old)) old_answer)

abbrev pub appends_to : ℕ → List ℕ → ℕ → ExportOutcome → Example
appends_to room blob fill = example (append_export (append_outcome blob (replicate room old) fill) old_answer)

-- blobs refused by 2 and by 3
abbrev pub unsupported : List ℕ
unsupported = 0x05 ∷ []

abbrev pub unknown : List ℕ
unknown = 0x07 ∷ []

-- the vector 1.0 in an fvecs file
abbrev pub one_vector : List ℕ
one_vector = counted 1 ++ one

abbrev pub table : List Example
table =
    reads 0 [] (view_row 1 0 0 0)
    ∷ reads 0 (bits 0xaa) (view_row 3 8 1 8)
    ∷ reads 0 no_entry (view_row 9 2 0 0)
    ∷ reads 0 unsupported (refusal_row 2 [])
    ∷ reads 0 (0xaa ∷ 0x07 ∷ 0x03 ∷ []) (refusal_row 6 [])
    -- an unused bit is set
    ∷ reads 0 (0x3f ∷ 11 ∷ 3 ∷ []) (view_row 3 5 1 5)
    ∷ reads 1 (0x3f ∷ 11 ∷ 3 ∷ []) (refusal_row 11 [])
    -- a byte that names no mode reads strictly
    ∷ reads 2 (0x3f ∷ 11 ∷ 3 ∷ []) (refusal_row 11 [])
    ∷ reads 255 (0x1f ∷ 11 ∷ 3 ∷ []) (view_row 3 5 1 5)
    -- a byte that names no kind is refused before all else
    ∷ writes 3 8 (0xaa ∷ []) 4 (written_row 3 ((0xaa ∷ 0x08 ∷ 0x03 ∷ old ∷ []) ∷ []))
    ∷ writes 3 8 (0xaa ∷ []) 2 (needed_row 15 3 (replicate 2 old ∷ []))
    ∷ writes 3 0 [] 4 (refusal_row 16 (replicate 4 old ∷ []))
    ∷ writes 6 8 (0xaa ∷ []) 4 (refusal_row 2 (replicate 4 old ∷ []))
    ∷ writes 7 8 (0xaa ∷ []) 4 (refusal_row 3 (replicate 4 old ∷ []))
    ∷ converts (bits 0xaa) 3 0 2 (converted_row 8 1 8 ([] ∷ (0xaa ∷ old ∷ []) ∷ []))
    ∷ converts (bits 0xaa) 1 0 2 (needed_row 15 32 ([] ∷ replicate 2 old ∷ []))
    ∷ converts no_entry 3 7 2 (needed_row 17 8 (replicate 7 old ∷ replicate 2 old ∷ []))
    ∷ converts unknown 5 0 0 (refusal_row 2 ([] ∷ [] ∷ []))
    ∷ converts unsupported 1 0 0 (refusal_row 2 ([] ∷ [] ∷ []))
    ∷ measures Cos (bits 0xaa) (bits 0xab) (distance_row 0x3ff0_0000_0000_0000 8 8)
    ∷ measures Jaccard (bits 0xaa) (bits 0xab) (distance_row 0x3fc9_9999_9999_9998 8 8)
    ∷ measures L2 (zero ++ zero) (three ++ four) (distance_row 0x4014_0000_0000_0000 2 2)
    ∷ measures Dot (one ++ zero) (zero ++ one) (distance_row 0x8000_0000_0000_0000 2 2)
    -- NaN has one pattern
    ∷ measures Jaccard (bits 0) (bits 0) (distance_row 0x7ff8_0000_0000_0000 8 8)
    ∷ measures Cos unknown unsupported (which_row 3 1)
    ∷ measures Cos one unsupported (which_row 2 2)
    ∷ measures L2 (bits 0xaa) (bits 0xab) (which_row 14 0)
    -- the nearer candidate and the blob that a refusal is about have a field each
    ∷ finds Dot one zero one (nearer_row 0xbff0_0000_0000_0000 2 1)
    ∷ finds Cos (bits 0xaa) (bits 0xab) (bits 0xab) (nearer_row 0x3ff0_0000_0000_0000 1 8)
    ∷ finds Dot unknown unsupported one (which_row 3 3)
    ∷ finds Dot one unsupported one (which_row 2 1)
    ∷ finds Dot one one unknown (which_row 3 2)
    ∷ finds Jaccard (bits 0) (bits 0) (bits 0) (which_row 18 0)
    -- readings are not dims: those of a view, of a new vector, of both that are measured, and of the winner, which the probe's are not
    ∷ reads 0 ride (view_row 9 3 16 2)
    ∷ reads 0 twice_at_zero (view_row 9 1 16 2)
    ∷ converts ride 1 0 12 (converted_row 3 12 3 ([] ∷ (sixty ++ zero ++ eighty) ∷ []))
    ∷ converts (one ++ zero) 9 0 8 (converted_row 2 8 1 ([] ∷ (one ++ zero) ∷ []))
    ∷ converts ride 9 0 16 (converted_row 3 16 2 ([] ∷ take 16 ride ∷ []))
    ∷ measures L2 ride no_reading (distance_row 0x4059_0000_0000_0000 2 0)
    ∷ measures L2 no_reading ride (distance_row 0x4059_0000_0000_0000 0 2)
    ∷ finds L2 ride no_reading one_reading (nearer_row 0x4054_0000_0000_0000 2 1)
    ∷ finds L2 ride one_reading no_reading (nearer_row 0x4054_0000_0000_0000 1 1)
    -- the entry that is wrong has a field of its own, whichever export refuses
    ∷ reads 0 wrong_entry (entry_row 8 old 1 [])
    ∷ reads 1 wrong_entry (entry_row 8 old 1 [])
    ∷ reads 0 (sparse_at (0 ∷ 0 ∷ [])) (view_row 9 4 16 2)
    ∷ reads 1 (sparse_at (0 ∷ 0 ∷ [])) (entry_row 10 old 1 [])
    ∷ writes 9 2 (take 16 wrong_entry) 4 (entry_row 8 old 1 (replicate 4 old ∷ []))
    ∷ converts wrong_entry 1 0 2 (entry_row 8 old 1 ([] ∷ replicate 2 old ∷ []))
    ∷ measures Cos wrong_entry no_entry (entry_row 8 1 1 [])
    ∷ finds Dot no_entry no_entry wrong_entry (entry_row 8 2 1 [])
    ∷ appends_to 10 wrong_entry 0 (entry_row 8 old 1 (replicate 10 old ∷ []))
    -- files of vectors: the end and a vector are both answers; a refusal says where the vector starts
    ∷ reads_fvecs [] 0 (file_row 0 old old old old old 0 old [])
    ∷ reads_fvecs (one_vector ++ one_vector) 8 (file_row 0 1 old 12 16 old 1 old [])
    ∷ reads_fvecs one_vector 8 (file_row 0 old old old old old 0 old [])
    ∷ reads_fvecs one_vector (2 ^ 64 - 1) (file_row 0 old old old old old 0 old [])
    ∷ reads_fvecs (counted 0) 0 (file_row 0 0 old 4 4 old 1 old [])
    ∷ reads_fvecs (one_vector ++ (1 ∷ [])) 8 (file_row 19 old old old old 8 old old [])
    ∷ reads_fvecs (0xff ∷ 0xff ∷ 0xff ∷ 0xff ∷ []) 0 (file_row 9 old old old old old old old [])
    ∷ reads_bvecs (counted 1 ++ (1 ∷ [])) 0 5 (file_row 0 1 old 4 5 old 1 old ((one ++ (old ∷ [])) ∷ []))
    ∷ reads_bvecs (counted 1 ++ (1 ∷ [])) 0 3 (file_row 15 old 4 old old old old old (replicate 3 old ∷ []))
    ∷ reads_bvecs (counted 1 ++ (1 ∷ [])) 5 3 (file_row 0 old old old old old 0 old (replicate 3 old ∷ []))
    ∷ reads_bvecs (counted 1) 0 5 (file_row 19 old old old old 0 old old (replicate 5 old ∷ []))
    -- what is needed is counted from the fill on, also where that is past the end
    ∷ appends_to 10 one 1 (file_row 0 old old old old old old 9 ((old ∷ one_vector ++ (old ∷ [])) ∷ []))
    ∷ appends_to 10 one 3 (file_row 15 old 8 old old old old old (replicate 10 old ∷ []))
    ∷ appends_to 10 one (2 ^ 64 - 1) (file_row 15 old 8 old old old old old (replicate 10 old ∷ []))
    ∷ appends_to 10 (bits 0xaa) 0 (file_row 13 old old old old old old old (replicate 10 old ∷ []))
    ∷ appends_to 10 unknown 0 (file_row 3 old old old old old old old (replicate 10 old ∷ []))
    ∷ []

pub table-holds : map (λ (e : Example). e.defined) table ≡ map (λ (e : Example). e.expected) table
unfolding read_of body_of named_kind by_byte length_before_type body_fits refusals shown first_from number_at layout_row written_by write_of write_outcome write_refusals tail_of blob_of bytes_of converted_by convert_outcome distance_of nearer_of vector_at vecs_answer_by vecs_refusals bvecs_outcome bvecs_of pieces append_outcome append_of put spread running total root merged squares_with add sub mul div neg eq lt le is_nan of_int of_bits to_bits
table-holds = refl
