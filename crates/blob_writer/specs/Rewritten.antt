-- A blob that was read and written again: the blob of its kind, dims and body. One that is refused stays as it is.
use Rattle.std.specs.Prelude.{ℕ, List, Result, Ok, Err}
use Rattle.vector_types.specs.Read.{read_of}
use Rattle.vector_types.specs.Parts.{body_of}
use Rattle.blob_writer.specs.Write.{blob_of}
use Rattle.vector_types.specs.declared.Refusal.{Refusal}
use Rattle.vector_types.specs.declared.View.{View}
use Rattle.vector_types.specs.declared.Mode.TheVariants.{Plain}

abbrev pub rewritten_as : Result View Refusal → List ℕ → List ℕ
rewritten_as (Ok v) s = blob_of v.kind v.dims.0 (body_of s)
rewritten_as (Err r) s = s

unfoldable pub rewritten : List ℕ → List ℕ
rewritten s = rewritten_as (read_of Plain s) s
