-- Appending a Float32Dense blob to an fvecs file in a lent buffer: the answer, and the buffer afterwards.
use Rattle.std.specs.Prelude.{ℕ, ◌+◌, ◌-◌, ◌*◌, not, List, [], ◌∷◌, ◌++◌, length, Result, Ok, Err}
use Rattle.little_endian.specs.Bytes.{bytes_of, put}
use Rattle.vector_types.specs.Answers.{Test, test, test_room, first_given, unless}
use Rattle.vector_types.specs.Layout.{has_byte}
use Rattle.vector_types.specs.Read.{read_of}
use Rattle.vector_types.specs.Parts.{body_of}
use Rattle.vector_types.specs.declared.View.{View}
use Rattle.vector_types.specs.declared.Refusal.{Refusal}
use Rattle.vector_types.specs.declared.Refusal.TheVariants.{KindsDiffer, OutputTooShort}
use Rattle.vector_types.specs.declared.Mode.TheVariants.{Plain}

-- a vector of d elements in an fvecs file: how many bytes it has, and which
abbrev pub vector_length : ℕ → ℕ
vector_length d = 4 + 4 * d

abbrev pub vector_bytes : ℕ → List ℕ → List ℕ
vector_bytes d body = bytes_of 4 d ++ body

-- the refusals of a blob that the reader accepts: another kind, and fewer bytes after the fill than are needed
abbrev pub append_refusals : View → ℕ → List Test
append_refusals v room = test KindsDiffer (not (has_byte 1 v.kind)) ∷ test_room OutputTooShort room (vector_length v.dims.0) ∷ []

-- the answer, where a buffer of `size` bytes is filled up to `fill`: its new fill. A fill past the end leaves no room
abbrev pub append_read : Result View Refusal → ℕ → ℕ → Result ℕ Refusal
append_read (Ok v) size fill =
    unless (first_given (append_refusals v (size - fill))) Err (Ok (fill + vector_length v.dims.0))
append_read (Err r) size fill = Err r

unfoldable pub append_of : List ℕ → ℕ → ℕ → Result ℕ Refusal
unfolding read_of
append_of blob size fill = append_read (read_of Plain blob) size fill

-- how many elements an answer shows: none on a refusal
abbrev pub shown_dims : Result View Refusal → ℕ
shown_dims (Ok v) = v.dims.0
shown_dims (Err r) = 0

-- the buffer afterwards: the vector from the fill on if it is appended, else as it was
abbrev pub appended_after : Result ℕ Refusal → List ℕ → List ℕ → ℕ → List ℕ
appended_after (Ok n) vector out fill = put out fill vector
appended_after (Err r) vector out fill = out

-- the outcome of a call: the answer, and the buffer afterwards
pub record AppendOutcome : Type 0 where
  pub answer : Result ℕ Refusal
  pub out : List ℕ

abbrev pub append_leaving : Result ℕ Refusal → List ℕ → AppendOutcome
append_leaving r out = record { answer = r; out = out }

unfoldable pub append_outcome : List ℕ → List ℕ → ℕ → AppendOutcome
unfolding append_of read_of body_of put bytes_of
append_outcome blob out fill =
    let r = append_of blob (length out) fill in
    append_leaving r (appended_after r (vector_bytes (shown_dims (read_of Plain blob)) (body_of blob)) out fill)
