-- The four ways in which a place is answered, and what of the file makes each the answer. Only one does: `one-case` of proofs/Vecs.
use Rattle.std.specs.Prelude.{ℕ, ◌+◌, ◌*◌, ◌<◌, ◌≤◌, List, ◌⊎◌, length, Option, None, Some, Result, Ok, Err}
use Rattle.little_endian.specs.Bytes.{u32_at}
use Rattle.vector_types.specs.Layout.{max_dims}
use Rattle.vecs.specs.Vecs.{vector_of}
use Rattle.vector_types.specs.declared.Refusal.{Refusal}
use Rattle.vector_types.specs.declared.Refusal.TheVariants.{DimsOverLimit, FileEndsInside}
use Rattle.vecs.specs.declared.Found.{Found}

-- the file has ended, the count is over the limit, the file ends inside, and the vector is whole
pub data Case : Type 0 where
  ended : Case
  over : Case
  cut : Case
  whole : Case

abbrev pub CaseHolds : Case → ℕ → List ℕ → ℕ → Type 0
CaseHolds ended w file place = length file ≤ place
CaseHolds over w file place = (place + 4 ≤ length file) × (max_dims < u32_at file place)
CaseHolds cut w file place =
    (place < length file) × ((length file < place + 4) ⊎ ((u32_at file place ≤ max_dims) × (length file < place + 4 + w * u32_at file place)))
CaseHolds whole w file place = (u32_at file place ≤ max_dims) × (place + 4 + w * u32_at file place ≤ length file)

abbrev pub case_answer : Case → ℕ → List ℕ → ℕ → Result (Option Found) Refusal
case_answer ended w file place = Ok None
case_answer over w file place = Err DimsOverLimit
case_answer cut w file place = Err (FileEndsInside place)
case_answer whole w file place = Ok (Some (vector_of w place (u32_at file place)))
