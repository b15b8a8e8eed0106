-- What the writer answers and leaves: the blob of each kind, and the refusals of docs/RULES.md in the writer's order.
use Rattle.std.specs.Prelude.{ℕ, ◌+◌, ◌-◌, ◌*◌, ◌/◌, ◌%◌, Bool, cond, not, ◌&&◌, List, [], ◌∷◌, ◌++◌, ltb, eqb, length, Result, Ok, Err}
use Rattle.promises.specs.Onto.{onto}
use Rattle.little_endian.specs.Bytes.{bytes_of}
use Rattle.vector_types.specs.Answers.{Test, test, test_first, test_room, first_given, unless}
use Rattle.vector_types.specs.Layout.{max_blob_length, max_dims, ceil, has_byte, has_trailing_count, body_fits, is_outside}
use Rattle.vector_types.specs.declared.VectorType.{VectorType}
use Rattle.vector_types.specs.declared.VectorType.TheVariants.{Float32Dense, Float64Dense, Float32Sparse, Float1Bit, Float8}
use Rattle.vector_types.specs.declared.Refusal.{Refusal}
use Rattle.vector_types.specs.declared.Refusal.TheVariants.{LengthOverLimit, BodyLengthUnfit, IndexNotBelowDims, DimsOverLimit, OutputTooShort, WriterDims0}

-- a zero byte where one is asked for
abbrev pub zero_if : Bool → List ℕ
zero_if b = cond b (0 ∷ []) []

-- what stands between a 1-bit body of m bytes and its count: a zero byte after an even body
abbrev pub filler : ℕ → List ℕ
filler m = zero_if (eqb (m % 2) 0)

-- the trailing counts: bits of all that stands before the type byte, and bytes up to a multiple of 4
abbrev pub trailing_bits : ℕ → ℕ
trailing_bits d = 8 * (ceil d 8 + length (filler (ceil d 8)) + 1) - d

abbrev pub trailing_bytes : ℕ → ℕ
trailing_bytes d = 4 * ceil d 4 - d

-- what follows the body of a vector of d elements
unfoldable pub tail_of : VectorType → ℕ → List ℕ
tail_of Float32Dense d = []
tail_of Float64Dense d = 2 ∷ []
tail_of Float32Sparse d = bytes_of 4 d ++ (9 ∷ [])
tail_of Float1Bit d = filler (ceil d 8) ++ (trailing_bits d ∷ 3 ∷ [])
tail_of Float8 d = 0 ∷ trailing_bytes d ∷ 4 ∷ []

-- the blob of a kind, dims and body
unfoldable pub blob_of : VectorType → ℕ → List ℕ → List ℕ
unfolding tail_of
blob_of k d body = body ++ tail_of k d

-- the refusals of the writer, but for a buffer that is too short
unfoldable pub write_refusals : VectorType → ℕ → List ℕ → List Test
unfolding body_fits blob_of
write_refusals k d body =
    test DimsOverLimit (ltb max_dims d)
    ∷ test BodyLengthUnfit (not (body_fits k d (length body)))
    ∷ test LengthOverLimit (ltb max_blob_length (length (blob_of k d body)))
    ∷ test_first IndexNotBelowDims (has_byte 9 k) (is_outside body (length body / 8) d) (length body / 8)
    ∷ test WriterDims0 (has_trailing_count k && eqb d 0)
    ∷ []

-- the answer where the buffer has `room` bytes: the blob's length, which the last refusal carries too
unfoldable pub write_of : VectorType → ℕ → List ℕ → ℕ → Result ℕ Refusal
unfolding write_refusals blob_of
write_of k d body room =
    let need = length (blob_of k d body) in
    unless (first_given (write_refusals k d body ++ (test_room OutputTooShort room need ∷ []))) Err (Ok need)

-- the buffer afterwards: the blob over its first bytes if it is written, else as it was
abbrev pub buffer_after : Result ℕ Refusal → List ℕ → List ℕ → List ℕ
buffer_after (Ok n) blob out = onto blob out
buffer_after (Err r) blob out = out

-- the outcome of a call: the answer, and the buffer afterwards
pub record WriteOutcome : Type 0 where
  pub answer : Result ℕ Refusal
  pub out : List ℕ

abbrev pub write_leaving : Result ℕ Refusal → List ℕ → WriteOutcome
write_leaving r out = record { answer = r; out = out }

unfoldable pub write_outcome : VectorType → ℕ → List ℕ → List ℕ → WriteOutcome
unfolding write_of blob_of
write_outcome k d body out = let r = write_of k d body (length out) in write_leaving r (buffer_after r (blob_of k d body) out)
