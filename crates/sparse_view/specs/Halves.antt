-- The body that a view holds, and its two halves: which bytes they are, and where they point.
use Rattle.std.specs.Prelude.{◌≡◌, List, ◌++◌, ℕ, ◌/◌, length, take, drop}
use Rattle.std.specs.Borrow.{Bor}
use Rattle.vector_types.specs.Parts.{values_of, indices_of, past}

-- r is the body of a sparse blob, its values and as many indices; of another blob it is nothing
abbrev pub SparseBody : (blob r : Bor (List ℕ)) → Type 0
SparseBody blob r = (r.now ≡ values_of blob.now ++ indices_of blob.now) × (r.ref_ptr ≡ blob.ref_ptr)

-- how many bytes are half of a body
abbrev pub half : List ℕ → ℕ
half s = length s / 2

-- r is the first half of a body, and the second, right after it
abbrev pub FirstHalf : (body r : Bor (List ℕ)) → Type 0
FirstHalf body r = (r.now ≡ take (half body.now) body.now) × (r.ref_ptr ≡ body.ref_ptr)

abbrev pub SecondHalf : (body r : Bor (List ℕ)) → Type 0
SecondHalf body r = (r.now ≡ drop (half body.now) body.now) × (r.ref_ptr ≡ past body.ref_ptr (half body.now))
