-- The answers of docs/RULES.md to the outcomes of the Rust's checks.
use Rattle.std.specs.Prelude.{ℕ, cond, List, ltb, length, Option, None, Some, Result, Err}
use Rattle.vector_types.specs.Answers.{accepted_as}
use Rattle.vector_types.specs.Layout.{max_blob_length, max_dims}
use Rattle.vector_types.specs.Original.{Outcome, one_bit_empty, one_bit_odd, one_bit_trailing, one_bit_full, float8_under_two, float8_odd, float8_under_ten, float8_trailing, unsupported_type, unknown_type, float32_length, float64_length, sparse_empty, sparse_not_words, sparse_not_entries, sparse_outside, one_bit_no_dims, one_bit_length, float8_under_eight, float8_no_dims, float8_length, vector, from_slice}
use Rattle.vector_types.specs.declared.Refusal.{Refusal}
use Rattle.vector_types.specs.declared.Refusal.TheVariants.{LengthOverLimit, TypeByte5Or6, TypeByteUnknown, NoTrailingCount, TrailingCountTooLarge, TrailingBitsTooFew, BodyLengthUnfit, IndexNotBelowDims, DimsOverLimit}
use Rattle.vector_types.specs.declared.View.{View}

-- an outcome that no blob ends in has no answer; and the Rust has no limit of dims
abbrev pub answer_to : Outcome → Option (Result View Refusal)
answer_to one_bit_empty = Some (Err NoTrailingCount)
answer_to one_bit_odd = None
answer_to one_bit_trailing = Some (Err TrailingCountTooLarge)
answer_to one_bit_full = Some (Err TrailingBitsTooFew)
answer_to float8_under_two = Some (Err NoTrailingCount)
answer_to float8_odd = None
answer_to float8_under_ten = Some (Err TrailingCountTooLarge)
answer_to float8_trailing = Some (Err TrailingCountTooLarge)
answer_to unsupported_type = Some (Err TypeByte5Or6)
answer_to unknown_type = Some (Err TypeByteUnknown)
answer_to float32_length = Some (Err BodyLengthUnfit)
answer_to float64_length = Some (Err BodyLengthUnfit)
answer_to sparse_empty = Some (Err BodyLengthUnfit)
answer_to sparse_not_words = Some (Err BodyLengthUnfit)
answer_to sparse_not_entries = Some (Err BodyLengthUnfit)
answer_to (sparse_outside j) = Some (Err (IndexNotBelowDims j))
answer_to one_bit_no_dims = Some (Err BodyLengthUnfit)
answer_to one_bit_length = None
answer_to float8_under_eight = None
answer_to float8_no_dims = Some (Err BodyLengthUnfit)
answer_to float8_length = Some (Err BodyLengthUnfit)
answer_to (vector k d m) = Some (cond (ltb max_dims d) (Err DimsOverLimit) (accepted_as k d m))

-- the Rust's answer in the words of the rules: their limit of length comes first
abbrev pub original_answer : List ℕ → Option (Result View Refusal)
original_answer s = cond (ltb max_blob_length (length s)) (Some (Err LengthOverLimit)) (answer_to (from_slice s))
