-- What reading a blob in a mode answers: the refusals of docs/RULES.md in their order, each with its 'given exactly when'; the first that
-- holds answers, and where none does, the view by the blob's row of the layout table.
use Rattle.std.specs.Prelude.{ℕ, zero, suc, ◌+◌, ◌-◌, ◌*◌, Bool, true, false, ◌&&◌, ◌||◌, List, [], ◌∷◌, ltb, leb, eqb, length, Result, Ok, Err}
use Rattle.vector_types.specs.Answers.{Test, test, test_first, first_given, unless, accepted_as, kind_refusal}
use Rattle.vector_types.specs.Search.{any_index}
use Rattle.vector_types.specs.Layout.{max_blob_length, max_dims, ceil, named_kind, length_before_type, trailing_count, has_trailing_count, entry_count, sparse_dims, index_at, is_outside, has_byte, dims_of, length_of, body_unfit, body_fits, bit_at, layout_row}
use Rattle.vector_types.specs.declared.VectorType.{VectorType}
use Rattle.vector_types.specs.declared.KindError.{KindError}
use Rattle.vector_types.specs.declared.KindError.TheVariants.{Unsupported, Unknown}
use Rattle.vector_types.specs.declared.Refusal.{Refusal}
use Rattle.vector_types.specs.declared.Refusal.TheVariants.{LengthOverLimit, TypeByte5Or6, TypeByteUnknown, NoTrailingCount, TrailingCountTooLarge, TrailingBitsTooFew, BodyLengthUnfit, IndexNotBelowDims, DimsOverLimit, SparseOrder, UnusedBitSet}
use Rattle.vector_types.specs.declared.View.{View}
use Rattle.vector_types.specs.declared.Mode.{Mode}
use Rattle.vector_types.specs.declared.Mode.TheVariants.{Plain, Strict}

abbrev pub is_unsupported : Result VectorType KindError → Bool
is_unsupported (Err Unsupported) = true
is_unsupported _ = false

abbrev pub is_unknown : Result VectorType KindError → Bool
is_unknown (Err Unknown) = true
is_unknown _ = false

-- what holds of the kind that is named
abbrev pub of_kind : Result VectorType KindError → (VectorType → Bool) → Bool
of_kind (Ok k) p = p k
of_kind (Err e) p = false

-- whether index j of the k of a sparse body is not above the one before it; entry 0 has none before it
abbrev pub is_not_above_previous : List ℕ → ℕ → ℕ → Bool
is_not_above_previous s k zero = false
is_not_above_previous s k (suc j) = leb (index_at s k (suc j)) (index_at s k j)

-- whether bit i of those past d is set
abbrev pub unused_set : List ℕ → ℕ → ℕ → Bool
unused_set s d i = eqb (bit_at s (d + i)) 1

-- the refusals that a mode gives besides those of every mode: 10 and 11 in the strict one
abbrev pub own_refusals : Mode → Result VectorType KindError → List ℕ → List Test
unfolding length_before_type layout_row
own_refusals Plain names s = []
own_refusals Strict names s =
    test_first SparseOrder (of_kind names (has_byte 9)) (is_not_above_previous s (entry_count s)) (entry_count s)
    ∷ test UnusedBitSet (of_kind names (λ k. has_byte 3 k && any_index (unused_set s (dims_of k s)) (8 * length_of k s - dims_of k s)))
    ∷ []

-- the refusals of a mode in their order: those of every mode, 1 to 9, and then its own
unfoldable pub refusals : Mode → Result VectorType KindError → List ℕ → List Test
unfolding length_before_type body_fits layout_row
refusals mode names s =
    let n = length_before_type s in
    let t = trailing_count s in
    test LengthOverLimit (ltb max_blob_length (length s))
    ∷ test TypeByte5Or6 (is_unsupported names)
    ∷ test TypeByteUnknown (is_unknown names)
    ∷ test NoTrailingCount (of_kind names (λ k. has_trailing_count k && eqb n 0))
    ∷ test TrailingCountTooLarge (of_kind names (λ k. (has_byte 3 k && ltb (8 * n) t) || (has_byte 4 k && (ltb (n - 10) t || ltb n 10))))
    ∷ test TrailingBitsTooFew (of_kind names (λ k. has_byte 3 k && leb n (ceil (8 * n - t) 8)))
    ∷ test BodyLengthUnfit (of_kind names (λ k. body_unfit k s || (has_trailing_count k && eqb (dims_of k s) 0)))
    ∷ test_first IndexNotBelowDims (of_kind names (has_byte 9)) (is_outside s (entry_count s) (sparse_dims s)) (entry_count s)
    ∷ test DimsOverLimit (of_kind names (λ k. ltb max_dims (dims_of k s)))
    ∷ own_refusals mode names s

-- the view of a kind by its row; a byte that names none has its refusal
unfoldable pub shown : Result VectorType KindError → List ℕ → Result View Refusal
unfolding layout_row
shown (Ok k) s = accepted_as k (dims_of k s) (length_of k s)
shown (Err e) s = Err (kind_refusal e)

unfoldable pub read_of : Mode → List ℕ → Result View Refusal
unfolding named_kind refusals shown
read_of mode s = unless (first_given (refusals mode (named_kind s) s)) Err (shown (named_kind s) s)
