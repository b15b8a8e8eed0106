-- The checks of the Rust's reader, to be laid beside vector_types.rs: `vector_type`, and then `from_data_with_dims` of the data that it
-- lets through, as `from_slice` and `from_vec` call them. Every part of a condition ends in an outcome of its own.
use Rattle.std.specs.Prelude.{ℕ, ◌+◌, ◌-◌, ◌*◌, ◌/◌, ◌%◌, ◌≡◌, Bool, cond, not, ◌||◌, List, [], ◌∷◌, ltb, leb, eqb, length, get_or, take, Result, Ok, Err}
use Rattle.little_endian.specs.Bytes.{u32_at}
use Rattle.vector_types.specs.Search.{first_index, any_index}
use Rattle.vector_types.specs.Layout.{ceil, is_outside}
use Rattle.vector_types.specs.declared.VectorType.{VectorType}
use Rattle.vector_types.specs.declared.VectorType.TheVariants.{Float32Dense, Float64Dense, Float32Sparse, Float1Bit, Float8}

-- how the checks end: in an error, by the condition that holds, or in a vector of a kind, dims and so many bytes
pub data Outcome : Type 0 where
  -- in `vector_type`: n_blob_size == 0, n_blob_size % 2 != 0, 8 * n_blob_size under trailing_bits, data_size >= n_blob_size
  one_bit_empty : Outcome
  one_bit_odd : Outcome
  one_bit_trailing : Outcome
  one_bit_full : Outcome
  -- n_blob_size < 2, n_blob_size % 2 != 0, n_blob_size under 10, n_blob_size - 10 under trailing_bytes
  float8_under_two : Outcome
  float8_odd : Outcome
  float8_under_ten : Outcome
  float8_trailing : Outcome
  -- the type bytes 5 and 6, and those of no arm
  unsupported_type : Outcome
  unknown_type : Outcome
  -- in `from_data_with_dims`: data.len() % 4 != 0, data.len() % 8 != 0
  float32_length : Outcome
  float64_length : Outcome
  -- data.is_empty(), data.len() % 4 != 0, (data.len() - 4) % 8 != 0, index >= dims of this entry
  sparse_empty : Outcome
  sparse_not_words : Outcome
  sparse_not_entries : Outcome
  sparse_outside : ℕ → Outcome
  -- explicit_dims == 0, data.len() != expected_len
  one_bit_no_dims : Outcome
  one_bit_length : Outcome
  -- data.len() < 8, explicit_dims == 0, data.len() != expected_len
  float8_under_eight : Outcome
  float8_no_dims : Outcome
  float8_length : Outcome
  vector : VectorType → ℕ → ℕ → Outcome

-- the outcomes that no blob ends in (proofs/Unreached.antt), and that an outcome is none of several
abbrev pub dead_outcomes : List Outcome
dead_outcomes = one_bit_odd ∷ float8_odd ∷ one_bit_length ∷ float8_under_eight ∷ []

abbrev pub NoneOf : List Outcome → Outcome → Type 0
NoneOf [] o = Unit {0}
NoneOf (x ∷ xs) o = (o ≡ x → ⊥) × NoneOf xs o

-- what `vector_type` returns: a kind, how many bytes are data, and the dims where they are not told by the data; or an error
abbrev pub TypeResult : Type 0
TypeResult = Result (VectorType × ℕ × ℕ) Outcome

-- the arms of the bytes 3 and 4, of n bytes before the type byte, the last of which is t
unfoldable pub one_bit_type : ℕ → ℕ → TypeResult
one_bit_type n t =
    let dims = 8 * n - t in
    cond (eqb n 0) (Err one_bit_empty)
    (cond (not (eqb (n % 2) 0)) (Err one_bit_odd)
    (cond (ltb (8 * n) t) (Err one_bit_trailing)
    (cond (leb n (ceil dims 8)) (Err one_bit_full)
    (Ok (Float1Bit, ceil dims 8, dims)))))

unfoldable pub float8_type : ℕ → ℕ → TypeResult
float8_type n t =
    cond (ltb n 2) (Err float8_under_two)
    (cond (not (eqb (n % 2) 0)) (Err float8_odd)
    (cond (ltb n 10) (Err float8_under_ten)
    (cond (ltb (n - 10) t) (Err float8_trailing)
    (Ok (Float8, n - 2, n - 10 - t)))))

-- the match over the type byte
unfoldable pub by_type_byte : ℕ → ℕ → ℕ → TypeResult
by_type_byte b n t =
    cond (eqb b 1) (Ok (Float32Dense, n, 0))
    (cond (eqb b 2) (Ok (Float64Dense, n, 0))
    (cond (eqb b 3) (one_bit_type n t)
    (cond (eqb b 4) (float8_type n t)
    (cond (eqb b 5 || eqb b 6) (Err unsupported_type)
    (cond (eqb b 9) (Ok (Float32Sparse, n, 0))
    (Err unknown_type))))))

-- whether a blob has no type byte to look at
abbrev pub is_untyped : List ℕ → Bool
is_untyped s = eqb (length s % 2) 0

unfoldable pub vector_type : List ℕ → TypeResult
vector_type s =
    let n = length s - 1 in
    cond (is_untyped s) (Ok (Float32Dense, length s, 0)) (by_type_byte (get_or s n 0) n (get_or s (n - 1) 0))

-- of the data x, with explicit_dims e
unfoldable pub from_data_with_dims : VectorType → List ℕ → ℕ → Outcome
from_data_with_dims Float32Dense x e = cond (not (eqb (length x % 4) 0)) float32_length (vector Float32Dense (length x / 4) (length x))
from_data_with_dims Float64Dense x e = cond (not (eqb (length x % 8) 0)) float64_length (vector Float64Dense (length x / 8) (length x))
from_data_with_dims Float32Sparse x e =
    let dims = u32_at x (length x - 4) in
    let entries = (length x - 4) / 8 in
    cond (eqb (length x) 0) sparse_empty
    (cond (not (eqb (length x % 4) 0)) sparse_not_words
    (cond (not (eqb ((length x - 4) % 8) 0)) sparse_not_entries
    (cond (any_index (is_outside x entries dims) entries) (sparse_outside (first_index (is_outside x entries dims) entries))
    (vector Float32Sparse dims (length x - 4)))))
from_data_with_dims Float1Bit x e =
    cond (eqb e 0) one_bit_no_dims
    (cond (not (eqb (length x) (ceil e 8))) one_bit_length
    (vector Float1Bit e (length x)))
from_data_with_dims Float8 x e =
    cond (ltb (length x) 8) float8_under_eight
    (cond (eqb e 0) float8_no_dims
    (cond (not (eqb (length x) (4 * ceil e 4 + 8))) float8_length
    (vector Float8 e (length x))))

abbrev pub after_type : TypeResult → List ℕ → Outcome
after_type (Ok (k, m, e)) s = from_data_with_dims k (take m s) e
after_type (Err o) s = o

-- `from_slice`: all checks in their order
unfoldable pub from_slice : List ℕ → Outcome
from_slice s = after_type (vector_type s) s
