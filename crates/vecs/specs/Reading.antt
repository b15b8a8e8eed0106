-- A file read from a place on vector by vector, and blobs appended one a call.
use Rattle.std.specs.Prelude.{ℕ, ◌≡◌, List, [], ◌∷◌, ◌++◌, None, Some, Result, Ok, Err}
use Rattle.vector_types.specs.Parts.{body_of}
use Rattle.vector_types.specs.declared.Refusal.{Refusal}
use Rattle.vecs.specs.Vecs.{vector_at, elements_at}
use Rattle.vecs.specs.Append.{AppendOutcome, append_outcome}
use Rattle.vecs.specs.declared.Found.{Found}

-- a vector is at a place, with these elements
pub record ShowsVector (w : ℕ) (file : List ℕ) (place : ℕ) (v : Found) (elements : List ℕ) : Type 0 where
  pub answer : vector_at w file place ≡ Ok (Some v)
  pub part : elements_at w file place ≡ elements

-- the vectors of a file from a place on, each read at the next place of the one before it, are these, and then the file ends
abbrev pub ReadsAs : ℕ → List ℕ → ℕ → List (List ℕ) → Type 0
ReadsAs w file place [] = vector_at w file place ≡ Ok None
ReadsAs w file place (elements ∷ more) = (v : Found) × (ShowsVector w file place v elements × ReadsAs w file v.next more)

-- a buffer, and how many of its first bytes are filled
pub record Filling : Type 0 where
  pub fill : ℕ
  pub out : List ℕ

abbrev pub empty_filling : List ℕ → Filling
empty_filling out = record { fill = 0; out = out }

-- the fill that a caller goes on with: the one last answered
abbrev pub next_fill : Result ℕ Refusal → ℕ → ℕ
next_fill (Ok n) fill = n
next_fill (Err r) fill = fill

-- after a call, and after a call for each blob
abbrev pub after_outcome : AppendOutcome → ℕ → Filling
after_outcome o fill = record { fill = next_fill o.answer fill; out = o.out }

abbrev pub after_append : Filling → List ℕ → Filling
after_append f blob = after_outcome (append_outcome blob f.out f.fill) f.fill

abbrev pub after_appends : Filling → List (List ℕ) → Filling
after_appends f [] = f
after_appends f (blob ∷ blobs) = after_appends (after_append f blob) blobs

-- the body of a blob that is appended, and those of the blobs that are
abbrev pub appended_body : Result ℕ Refusal → List ℕ → List (List ℕ)
appended_body (Ok n) blob = body_of blob ∷ []
appended_body (Err r) blob = []

abbrev pub appended_bodies : Filling → List (List ℕ) → List (List ℕ)
appended_bodies f [] = []
appended_bodies f (blob ∷ blobs) = appended_body (append_outcome blob f.out f.fill).answer blob ++ appended_bodies (after_append f blob) blobs
