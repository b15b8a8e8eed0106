-- Examples of writing, and of blobs that were read and written again: one table each, and one statement about all of it, which antt computes.
use Rattle.std.specs.Prelude.{◌≡◌, refl, List, [], ◌∷◌, ◌++◌, map, ℕ, length, replicate, Result, Ok, Err}
use Rattle.promises.specs.Onto.{onto}
use Rattle.little_endian.specs.Bytes.{number_at, bytes_of}
use Rattle.vector_types.specs.Search.{first_from}
use Rattle.vector_types.specs.Layout.{named_kind, by_byte, length_before_type, body_fits, layout_row}
use Rattle.vector_types.specs.Read.{read_of, refusals, shown}
use Rattle.vector_types.specs.Parts.{body_of}
use Rattle.blob_writer.specs.Write.{tail_of, blob_of, write_refusals, write_of, write_leaving, write_outcome}
use Rattle.blob_writer.specs.Rewritten.{rewritten}
use Rattle.vector_types.specs.declared.VectorType.{VectorType}
use Rattle.vector_types.specs.declared.VectorType.TheVariants.{Float32Dense, Float64Dense, Float32Sparse, Float1Bit, Float8}
use Rattle.vector_types.specs.declared.Refusal.{Refusal}
use Rattle.vector_types.specs.declared.Refusal.TheVariants.{BodyLengthUnfit, IndexNotBelowDims, DimsOverLimit, OutputTooShort, WriterDims0}

-- a kind, dims and body, what the writer answers, and the blob that it writes
pub record Example : Type 0 where
  pub kind : VectorType
  pub dims : ℕ
  pub body : List ℕ
  pub answer : Result ℕ Refusal
  pub blob : List ℕ

abbrev pub writes : VectorType → ℕ → List ℕ → List ℕ → Example
writes k d body blob = record { kind = k; dims = d; body = body; answer = Ok (length blob); blob = blob }

abbrev pub refuses : VectorType → ℕ → List ℕ → Refusal → Example
refuses k d body r = record { kind = k; dims = d; body = body; answer = Err r; blob = [] }

-- bodies: 1.0 in both widths, 1.0 at one index and at two, and a Float8 body whose padding is not zero
abbrev pub one32 : List ℕ
one32 = 0 ∷ 0 ∷ 0x80 ∷ 0x3f ∷ []

abbrev pub one64 : List ℕ
one64 = 0 ∷ 0 ∷ 0 ∷ 0 ∷ 0 ∷ 0 ∷ 0xf0 ∷ 0x3f ∷ []

abbrev pub entry : ℕ → List ℕ
entry i = one32 ++ (i ∷ 0 ∷ 0 ∷ 0 ∷ [])

abbrev pub two : ℕ → ℕ → List ℕ
two i j = one32 ++ one32 ++ (i ∷ 0 ∷ 0 ∷ 0 ∷ j ∷ 0 ∷ 0 ∷ 0 ∷ [])

abbrev pub byte8 : List ℕ
byte8 = 7 ∷ 1 ∷ 2 ∷ 3 ∷ one32 ++ (0 ∷ 0 ∷ 0 ∷ 0 ∷ [])

-- each kind; then each refusal in the writer's order, some where a later one holds too
abbrev pub writing : List Example
writing =
    writes Float32Dense 0 [] []
    ∷ writes Float32Dense 1 one32 one32
    ∷ writes Float64Dense 1 one64 (one64 ++ (2 ∷ []))
    ∷ writes Float1Bit 8 (0xaa ∷ []) (0xaa ∷ 0x08 ∷ 0x03 ∷ [])
    ∷ writes Float1Bit 9 (0xaa ∷ 0x01 ∷ []) (0xaa ∷ 0x01 ∷ 0x00 ∷ 0x17 ∷ 0x03 ∷ [])
    ∷ writes Float8 1 byte8 (byte8 ++ (0 ∷ 3 ∷ 4 ∷ []))
    ∷ writes Float32Sparse 2 (entry 1) (entry 1 ++ (2 ∷ 0 ∷ 0 ∷ 0 ∷ 9 ∷ []))
    ∷ writes Float32Dense 5 (replicate 20 0x11) (replicate 20 0x11)
    ∷ refuses Float32Dense 65537 [] DimsOverLimit
    ∷ refuses Float32Sparse 65537 [] DimsOverLimit
    ∷ refuses Float32Dense 2 one32 BodyLengthUnfit
    ∷ refuses Float1Bit 0 (0xaa ∷ []) BodyLengthUnfit
    ∷ refuses Float32Sparse 2 (entry 2) (IndexNotBelowDims 0)
    ∷ refuses Float32Sparse 2 (two 0 2) (IndexNotBelowDims 1)
    ∷ refuses Float32Sparse 2 (two 2 3) (IndexNotBelowDims 0)
    ∷ refuses Float1Bit 0 [] WriterDims0
    ∷ refuses Float8 0 (replicate 8 0) WriterDims0
    ∷ refuses Float32Sparse 3 (two 0 2) (OutputTooShort 21)
    ∷ refuses Float64Dense 3 (replicate 24 0) (OutputTooShort 25)
    ∷ []

-- a buffer of 20 bytes
abbrev pub room : List ℕ
room = replicate 20 0xee

pub writing-holds :
    map (λ (e : Example). write_outcome e.kind e.dims e.body room) writing ≡ map (λ (e : Example). write_leaving e.answer (onto e.blob room)) writing
unfolding write_of write_outcome write_refusals body_fits tail_of blob_of bytes_of number_at first_from
writing-holds = refl

-- a blob, and what it is after it was read and written again
pub record Change : Type 0 where
  pub old : List ℕ
  pub new : List ℕ

abbrev pub becomes : List ℕ → List ℕ → Change
becomes s t = record { old = s; new = t }

abbrev pub stays : List ℕ → Change
stays s = becomes s s

-- type byte 1, 1-bit trailers, the byte before a Float8 count, and what stays
abbrev pub rewriting : List Change
rewriting =
    becomes (0x01 ∷ []) []
    ∷ becomes (one32 ++ (0x01 ∷ [])) one32
    ∷ becomes (0xaa ∷ 0x00 ∷ 0x00 ∷ 0x18 ∷ 0x03 ∷ []) (0xaa ∷ 0x08 ∷ 0x03 ∷ [])
    ∷ becomes (0xaa ∷ 0x11 ∷ 0x22 ∷ 0x33 ∷ 0x44 ∷ 0x28 ∷ 0x03 ∷ []) (0xaa ∷ 0x08 ∷ 0x03 ∷ [])
    ∷ becomes (0xaa ∷ 0x01 ∷ 0x11 ∷ 0x17 ∷ 0x03 ∷ []) (0xaa ∷ 0x01 ∷ 0x00 ∷ 0x17 ∷ 0x03 ∷ [])
    ∷ becomes (0xaa ∷ 0x01 ∷ 0x11 ∷ 0x22 ∷ 0x33 ∷ 0x27 ∷ 0x03 ∷ []) (0xaa ∷ 0x01 ∷ 0x00 ∷ 0x17 ∷ 0x03 ∷ [])
    ∷ becomes (byte8 ++ (0x11 ∷ 3 ∷ 4 ∷ [])) (byte8 ++ (0 ∷ 3 ∷ 4 ∷ []))
    ∷ stays []
    ∷ stays one32
    ∷ stays (one64 ++ (2 ∷ []))
    ∷ stays (0xff ∷ 0x0f ∷ 0x03 ∷ [])
    ∷ stays (entry 1 ++ (2 ∷ 0 ∷ 0 ∷ 0 ∷ 9 ∷ []))
    ∷ stays (two 1 0 ++ (2 ∷ 0 ∷ 0 ∷ 0 ∷ 9 ∷ []))
    ∷ stays (0x05 ∷ [])
    ∷ []

pub rewriting-holds : map (λ (c : Change). rewritten c.old) rewriting ≡ map (λ (c : Change). c.new) rewriting
unfolding rewritten read_of body_of named_kind by_byte length_before_type body_fits refusals shown first_from number_at tail_of blob_of bytes_of layout_row
rewriting-holds = refl
