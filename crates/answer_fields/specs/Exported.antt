-- What each export leaves: the number returned is 0 for an answer, else a refusal's number, and the fields that are written are listed by
-- case. A distance is written as its pattern.
use Rattle.std.specs.Prelude.{ℕ, List, [], ◌∷◌, Option, None, Some, Result, Ok, Err}
use Rattle.std.specs.Float.Ieee.{to_bits}
use Rattle.std.specs.Float.{binary64}
use Rattle.vector_types.specs.Answers.{answer_number, detail_of}
use Rattle.vector_types.specs.Layout.{byte_of}
use Rattle.vector_types.specs.declared.Detail.{Detail}
use Rattle.vector_types.specs.declared.Detail.TheVariants.{Nothing, Needs, Starts, Entry}
use Rattle.vector_types.specs.declared.Refusal.{Refusal}
use Rattle.vector_types.specs.declared.View.{View}
use Rattle.blob_writer.specs.Write.{WriteOutcome}
use Rattle.convert.specs.Convert.{ConvertOutcome}
use Rattle.distance.specs.Answer.{number_in}
use Rattle.distance.specs.declared.Measured.{Measured}
use Rattle.distance.specs.declared.Which.{Which}
use Rattle.distance.specs.declared.Which.TheVariants.{First, Second}
use Rattle.distance.specs.declared.refused.Refused.{Refused}
use Rattle.nearer.specs.declared.Candidate.{Candidate}
use Rattle.nearer.specs.declared.Candidate.TheVariants.{First as FirstIs, Second as SecondIs}
use Rattle.nearer.specs.declared.Among.{Among}
use Rattle.nearer.specs.declared.Among.TheVariants.{Probe, First as TheFirst, Second as TheSecond}
use Rattle.nearer.specs.declared.Near.{Near}
use Rattle.vecs.specs.Vecs.{VecsOutcome}
use Rattle.vecs.specs.Append.{AppendOutcome}
use Rattle.vecs.specs.declared.Found.{Found}
use Rattle.answer_fields.specs.Fields.{ExportOutcome, leaves, distance_field, kind_field, dims_field, length_field, needed_field, which_field, nearer_field, entry_field, readings_field, other_readings_field, start_field, next_field, place_field, found_field, fill_field}

-- of a refusal: how long a buffer that is too short would have to be, where the vector starts inside which a file ends, or which entry is wrong
abbrev pub detail_fields : Detail → List (ℕ × ℕ)
detail_fields Nothing = []
detail_fields (Needs need) = (needed_field, need) ∷ []
detail_fields (Starts place) = (place_field, place) ∷ []
detail_fields (Entry entry) = (entry_field, entry) ∷ []

abbrev pub refusal_fields : Refusal → List (ℕ × ℕ)
refusal_fields r = detail_fields (detail_of r)

-- of reading: the type byte, dims, body length and readings of a view
abbrev pub read_fields : Result View Refusal → List (ℕ × ℕ)
read_fields (Ok v) = (kind_field, byte_of v.kind) ∷ (dims_field, v.dims.0) ∷ (length_field, v.length) ∷ (readings_field, v.readings.0) ∷ []
read_fields (Err r) = refusal_fields r

abbrev pub read_export : Result View Refusal → List ℕ → ExportOutcome
read_export r before = leaves (answer_number r) (read_fields r) before []

-- of writing: the length of a blob that is written
abbrev pub write_fields : Result ℕ Refusal → List (ℕ × ℕ)
write_fields (Ok n) = (length_field, n) ∷ []
write_fields (Err r) = refusal_fields r

abbrev pub write_export : WriteOutcome → List ℕ → ExportOutcome
write_export o before = leaves (answer_number o.answer) (write_fields o.answer) before (o.out ∷ [])

-- of converting: the dims and the length of a new body, and the readings of the new vector
abbrev pub convert_fields : Result View Refusal → List (ℕ × ℕ)
convert_fields (Ok v) = (dims_field, v.dims.0) ∷ (length_field, v.length) ∷ (readings_field, v.readings.0) ∷ []
convert_fields (Err r) = refusal_fields r

abbrev pub convert_export : ConvertOutcome → List ℕ → ExportOutcome
convert_export o before = leaves (answer_number o.answer) (convert_fields o.answer) before (o.scratch ∷ o.out ∷ [])

-- of a distance: the distance, and the readings of the first blob and of the second; or the blob that a refusal is about
abbrev pub which_code : Option Which → ℕ
which_code None = 0
which_code (Some First) = 1
which_code (Some Second) = 2

abbrev pub distance_fields : Result Measured (Refused Which) → List (ℕ × ℕ)
distance_fields (Ok m) = (distance_field, to_bits binary64 m.distance) ∷ (readings_field, m.counts.first.0) ∷ (other_readings_field, m.counts.second.0) ∷ []
distance_fields (Err e) = (which_field, which_code e.blob) ∷ refusal_fields e.refusal

abbrev pub distance_export : Result Measured (Refused Which) → List ℕ → ExportOutcome
distance_export r before = leaves (number_in r) (distance_fields r) before []

-- of the nearer of two: the candidate, its distance and its readings, or the blob that a refusal is about
abbrev pub candidate_code : Candidate → ℕ
candidate_code FirstIs = 1
candidate_code SecondIs = 2

abbrev pub among_code : Option Among → ℕ
among_code None = 0
among_code (Some TheFirst) = 1
among_code (Some TheSecond) = 2
among_code (Some Probe) = 3

abbrev pub nearer_fields : Result Near (Refused Among) → List (ℕ × ℕ)
nearer_fields (Ok n) = (distance_field, to_bits binary64 n.distance) ∷ (nearer_field, candidate_code n.candidate) ∷ (readings_field, n.readings.0) ∷ []
nearer_fields (Err e) = (which_field, among_code e.blob) ∷ refusal_fields e.refusal

abbrev pub nearer_export : Result Near (Refused Among) → List ℕ → ExportOutcome
nearer_export r before = leaves (number_in r) (nearer_fields r) before []

-- of a place in a file of vectors: whether there is a vector, and its dims, where its elements start, and the next place
abbrev pub vecs_fields : Result (Option Found) Refusal → List (ℕ × ℕ)
vecs_fields (Ok (Some v)) = (found_field, 1) ∷ (dims_field, v.dims.0) ∷ (start_field, v.start) ∷ (next_field, v.next) ∷ []
vecs_fields (Ok None) = (found_field, 0) ∷ []
vecs_fields (Err r) = refusal_fields r

abbrev pub vecs_export : Result (Option Found) Refusal → List ℕ → ExportOutcome
vecs_export r before = leaves (answer_number r) (vecs_fields r) before []

abbrev pub bvecs_export : VecsOutcome → List ℕ → ExportOutcome
bvecs_export o before = leaves (answer_number o.answer) (vecs_fields o.answer) before (o.out ∷ [])

-- of an append: up to where the buffer is filled
abbrev pub append_fields : Result ℕ Refusal → List (ℕ × ℕ)
append_fields (Ok n) = (fill_field, n) ∷ []
append_fields (Err r) = refusal_fields r

abbrev pub append_export : AppendOutcome → List ℕ → ExportOutcome
append_export o before = leaves (answer_number o.answer) (append_fields o.answer) before (o.out ∷ [])
