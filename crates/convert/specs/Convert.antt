-- What a conversion answers and leaves: the reader's refusal, then 17, then 15, each with the need; else the new kind, dims and body, and the new vector's readings.
use Rattle.std.specs.Prelude.{ℕ, List, [], ◌∷◌, length, Result, Ok, Err}
use Rattle.promises.specs.Onto.{onto}
use Rattle.vector_types.specs.Answers.{accepted_as, test_room, first_given, unless}
use Rattle.vector_types.specs.Read.{read_of}
use Rattle.vector_types.specs.Parts.{body_of}
use Rattle.vector_types.specs.declared.VectorType.{VectorType}
use Rattle.vector_types.specs.declared.View.{View}
use Rattle.vector_types.specs.declared.Refusal.{Refusal}
use Rattle.vector_types.specs.declared.Refusal.TheVariants.{OutputTooShort, ScratchTooShort}
use Rattle.vector_types.specs.declared.Mode.TheVariants.{Plain}
use Rattle.convert_parts.specs.Result.{result_of, scratch_body}

-- a conversion: its answer, and what it puts at the start of scratch and of the output
pub record Conversion : Type 0 where
  pub answer : Result View Refusal
  pub scratch : List ℕ
  pub out : List ℕ

abbrev pub conversion : Result View Refusal → List ℕ → List ℕ → Conversion
conversion r scratch out = record { answer = r; scratch = scratch; out = out }

-- a refusal puts nothing
abbrev pub refusing : Refusal → Conversion
refusing r = conversion (Err r) [] []

-- of a body of the kind k to the kind t, where scratch and the output have so many bytes
unfoldable pub body_conversion : VectorType → VectorType → ℕ → List ℕ → ℕ → ℕ → Conversion
unfolding result_of scratch_body
body_conversion k t d body scratch room =
    let dense = scratch_body k t d body in
    let new = result_of k t d body in
    unless (first_given (test_room ScratchTooShort scratch (length dense) ∷ test_room OutputTooShort room (length new) ∷ [])) refusing
    (conversion (accepted_as t d (length new)) dense new)

-- of a blob: what is not read is not converted
abbrev pub read_conversion : Result View Refusal → List ℕ → VectorType → ℕ → ℕ → Conversion
read_conversion (Ok v) body t scratch room = body_conversion v.kind t v.dims.0 body scratch room
read_conversion (Err r) body t scratch room = refusing r

unfoldable pub conversion_of : List ℕ → VectorType → ℕ → ℕ → Conversion
unfolding body_conversion
conversion_of s t scratch room = read_conversion (read_of Plain s) (body_of s) t scratch room

-- the outcome of a call: the answer, and the two buffers afterwards
pub record ConvertOutcome : Type 0 where
  pub answer : Result View Refusal
  pub scratch : List ℕ
  pub out : List ℕ

abbrev pub convert_leaving : Result View Refusal → List ℕ → List ℕ → ConvertOutcome
convert_leaving r scratch out = record { answer = r; scratch = scratch; out = out }

abbrev pub outcome_of : Conversion → List ℕ → List ℕ → ConvertOutcome
outcome_of c scratch out = convert_leaving c.answer (onto c.scratch scratch) (onto c.out out)

unfoldable pub convert_outcome : List ℕ → VectorType → List ℕ → List ℕ → ConvertOutcome
unfolding conversion_of
convert_outcome s t scratch out = outcome_of (conversion_of s t (length scratch) (length out)) scratch out
