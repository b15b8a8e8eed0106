-- What a byte asks for that is to name a kind: that kind, or the reader's refusal of the byte, 2 or 3, before all others.
use Rattle.std.specs.Prelude.{ℕ, List, Result, Ok, Err}
use Rattle.vector_types.specs.Answers.{kind_refusal}
use Rattle.vector_types.specs.Layout.{by_byte}
use Rattle.vector_types.specs.declared.KindError.{KindError}
use Rattle.vector_types.specs.declared.VectorType.{VectorType}
use Rattle.blob_writer.specs.Write.{WriteOutcome, write_leaving, write_outcome}
use Rattle.convert.specs.Convert.{ConvertOutcome, convert_leaving, convert_outcome}

-- writing: the outcome for a type byte, dims and body, and a buffer
abbrev pub write_as : Result VectorType KindError → ℕ → List ℕ → List ℕ → WriteOutcome
write_as (Ok k) d body out = write_outcome k d body out
write_as (Err e) d body out = write_leaving (Err (kind_refusal e)) out

unfoldable pub written_by : ℕ → ℕ → List ℕ → List ℕ → WriteOutcome
written_by byte d body out = write_as (by_byte byte) d body out

-- converting: the outcome for a blob and a type byte, and two buffers
abbrev pub convert_as : Result VectorType KindError → List ℕ → List ℕ → List ℕ → ConvertOutcome
convert_as (Ok t) blob scratch out = convert_outcome blob t scratch out
convert_as (Err e) blob scratch out = convert_leaving (Err (kind_refusal e)) scratch out

unfoldable pub converted_by : List ℕ → ℕ → List ℕ → List ℕ → ConvertOutcome
converted_by blob byte scratch out = convert_as (by_byte byte) blob scratch out
