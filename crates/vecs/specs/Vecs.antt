-- What stands at a place of a file of vectors. Each vector is a count of four bytes, little-endian, and then as many elements of w bytes:
-- 4 in an fvecs file, whose elements are f32, and 1 in a bvecs file. Refusals in the order of docs/RULES.md.
use Rattle.std.specs.Prelude.{ℕ, ◌+◌, ◌-◌, ◌*◌, cond, List, [], ◌∷◌, ◌++◌, ltb, leb, pos, length, get_or, take, drop, Float, Option, None, Some, Result, Ok, Err}
use Rattle.std.specs.Float.{binary32}
use Rattle.std.specs.Float.Ieee.{of_int}
use Rattle.promises.specs.Onto.{onto}
use Rattle.little_endian.specs.Bytes.{u32_at}
use Rattle.vector_types.specs.Answers.{Test, dims, test, test_room, test_left, first_given, unless}
use Rattle.vector_types.specs.Layout.{max_dims}
use Rattle.vector_types.specs.declared.Refusal.{Refusal}
use Rattle.vector_types.specs.declared.Refusal.TheVariants.{DimsOverLimit, OutputTooShort, FileEndsInside}
use Rattle.convert_parts.specs.Dense.{floats_of}
use Rattle.vecs.specs.declared.Found.{Found}

-- how many bytes are left from a place on
abbrev pub bytes_left : List ℕ → ℕ → ℕ
bytes_left file place = length file - place

-- a vector of d elements of w bytes that starts at a place
abbrev pub vector_of : ℕ → ℕ → ℕ → Found
vector_of w place d = record { dims = dims d; start = place + 4; next = place + 4 + w * d }

-- the refusals: the file ends inside the count, the count is over the limit, the file ends inside the elements
unfoldable pub vecs_refusals : ℕ → List ℕ → ℕ → List Test
vecs_refusals w file place =
    let count = u32_at file place in
    test_left FileEndsInside place (bytes_left file place) 4
    ∷ test DimsOverLimit (ltb max_dims count)
    ∷ test_left FileEndsInside place (bytes_left file place - 4) (w * count)
    ∷ []

-- the answer by a list of refusals: no vector, at or past the end of the file
unfoldable pub vecs_answer_by : List Test → ℕ → List ℕ → ℕ → Result (Option Found) Refusal
vecs_answer_by tests w file place =
    cond (leb (length file) place) (Ok None) (unless (first_given tests) Err (Ok (Some (vector_of w place (u32_at file place)))))

unfoldable pub vector_at : ℕ → List ℕ → ℕ → Result (Option Found) Refusal
unfolding vecs_refusals vecs_answer_by
vector_at w file place = vecs_answer_by (vecs_refusals w file place) w file place

-- the elements that an answer shows: where they start, and how many bytes they have; nothing, at the start of the file, where there is no vector
abbrev pub elements_start : Result (Option Found) Refusal → ℕ
elements_start (Ok (Some v)) = v.start
elements_start _ = 0

abbrev pub elements_length : Result (Option Found) Refusal → ℕ
elements_length (Ok (Some v)) = v.next - v.start
elements_length _ = 0

unfoldable pub elements_at : ℕ → List ℕ → ℕ → List ℕ
unfolding vector_at
elements_at w file place = let r = vector_at w file place in take (elements_length r) (drop (elements_start r) file)

-- bvecs: the last refusal is a buffer that is too short for an f32 for each byte
unfoldable pub bvecs_of : List ℕ → ℕ → ℕ → Result (Option Found) Refusal
unfolding vecs_refusals vecs_answer_by
bvecs_of file place room = vecs_answer_by (vecs_refusals 1 file place ++ (test_room OutputTooShort room (4 * u32_at file place) ∷ [])) 1 file place

-- byte i as an f32 of its number, and all bytes so: a Float32Dense body
abbrev pub byte_element : List ℕ → ℕ → Float
byte_element s i = of_int binary32 (pos (get_or s i 0))

abbrev pub byte_floats : List ℕ → List ℕ
byte_floats s = floats_of binary32 (byte_element s) (length s)

-- the buffer afterwards: the elements as f32 over its first bytes if there is a vector, else as it was
abbrev pub floats_after : Result (Option Found) Refusal → List ℕ → List ℕ → List ℕ
floats_after (Ok (Some v)) elements out = onto (byte_floats elements) out
floats_after _ elements out = out

-- the outcome of a call: the answer, and the buffer afterwards
pub record VecsOutcome : Type 0 where
  pub answer : Result (Option Found) Refusal
  pub out : List ℕ

abbrev pub vecs_leaving : Result (Option Found) Refusal → List ℕ → VecsOutcome
vecs_leaving r out = record { answer = r; out = out }

unfoldable pub bvecs_outcome : List ℕ → ℕ → List ℕ → VecsOutcome
unfolding bvecs_of elements_at
bvecs_outcome file place out = let r = bvecs_of file place (length out) in vecs_leaving r (floats_after r (elements_at 1 file place) out)
