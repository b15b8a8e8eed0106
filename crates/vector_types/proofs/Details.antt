-- What a refusal of the reader says of the entry that it names: it is the first whose index is not below dims, or not above the one before it.
use Rattle.std.proofs.Common.{◌≡◌, refl, sym, ap, ◌∙◌, Bool, true, false, true≢false, List, ℕ, Result, Ok, Err}
use Rattle.vector_types.specs.Answers.{detail_of}
use Rattle.vector_types.specs.Search.{first_index}
use Rattle.vector_types.specs.Layout.{named_kind, has_byte, entry_count, sparse_dims, is_outside, layout_row}
use Rattle.vector_types.specs.Read.{of_kind, read_of, is_not_above_previous, own_refusals, refusals}
use Rattle.vector_types.specs.Statements.{FirstOutside, FirstNotAbove, names_entry}
use Rattle.vector_types.specs.declared.VectorType.{VectorType}
use Rattle.vector_types.specs.declared.VectorType.TheVariants.{Float32Sparse}
use Rattle.vector_types.specs.declared.KindError.{KindError}
use Rattle.vector_types.specs.declared.Refusal.{Refusal}
use Rattle.vector_types.specs.declared.Refusal.TheVariants.{IndexNotBelowDims, SparseOrder}
use Rattle.vector_types.specs.declared.Mode.{Mode}
use Rattle.vector_types.specs.declared.Mode.TheVariants.{Plain, Strict}
use Rattle.vector_types.proofs.Given.{Each, each_first, given-each}
use Rattle.vector_types.proofs.Modes.{refused-given}
use Rattle.vector_types.proofs.SameKind.{same_kind}
use Rattle.vector_types.proofs.Statements.{first-outside-found, first-not-above-found}

only-sparse : (n : Result VectorType KindError) → of_kind n (has_byte 9) ≡ true → n ≡ Ok Float32Sparse
only-sparse (Ok k) h = ap Ok (same_kind k Float32Sparse h)
only-sparse (Err e) h = absurd cc

module _ (s : List ℕ) (n : Result VectorType KindError) where
  abbrev k : ℕ
  k = entry_count s

  -- what a refusal says that names an entry, as 8 or as 10
  record Says (r : Refusal) : Type 0 where
    outside : (j : ℕ) → r ≡ IndexNotBelowDims j → (n ≡ Ok Float32Sparse) × FirstOutside s k (sparse_dims s) j
    not_above : (j : ℕ) → r ≡ SparseOrder j → (n ≡ Ok Float32Sparse) × FirstNotAbove s k j

  no-entry : {r : Refusal} {b : Bool} → names_entry (detail_of r) ≡ false → b ≡ true → Says r
  no-entry unnamed _ = record {
    outside = λ j e. absurd (true≢false (sym (ap (λ q. names_entry (detail_of q)) e) ∙ unnamed));
    not_above = λ j e. absurd (true≢false (sym (ap (λ q. names_entry (detail_of q)) e) ∙ unnamed));
  }

  own-say : (mode : Mode) → Each Says (own_refusals mode n s)
  unfolding layout_row
  own-say Plain = tt
  own-say Strict =
      let tenth = each_first Says SparseOrder (of_kind n (has_byte 9)) (is_not_above_previous s k) k (λ h some. record {
        outside = λ j e. absurd cc;
        not_above = λ j e. let same : first_index (is_not_above_previous s k) k ≡ j = cc in (only-sparse n h, rw (← same) (first-not-above-found s k some));
      }) in
      (tenth, (no-entry refl, tt))

  all-say : (mode : Mode) → Each Says (refusals mode n s)
  unfolding refusals
  all-say mode =
      let d = sparse_dims s in
      let eighth = each_first Says IndexNotBelowDims (of_kind n (has_byte 9)) (is_outside s k d) k (λ h some. record {
        outside = λ j e. let same : first_index (is_outside s k d) k ≡ j = cc in (only-sparse n h, rw (← same) (first-outside-found s k d some));
        not_above = λ j e. absurd cc;
      }) in
      (no-entry refl, (no-entry refl, (no-entry refl, (no-entry refl, (no-entry refl, (no-entry refl, (no-entry refl, (eighth, (no-entry refl, own-say mode)))))))))

module _ (mode : Mode) (s : List ℕ) where
  read-says : (r : Refusal) → read_of mode s ≡ Err r → Says s (named_kind s) r
  read-says r e = given-each (Says s (named_kind s)) (refusals mode (named_kind s) s) (all-say s (named_kind s) mode) r (refused-given mode s r e)

  pub first-outside-named : (j : ℕ) → read_of mode s ≡ Err (IndexNotBelowDims j)
      → (named_kind s ≡ Ok Float32Sparse) × FirstOutside s (entry_count s) (sparse_dims s) j
  first-outside-named j e = (read-says (IndexNotBelowDims j) e).outside j refl

  pub first-not-above-named : (j : ℕ) → read_of mode s ≡ Err (SparseOrder j) → (named_kind s ≡ Ok Float32Sparse) × FirstNotAbove s (entry_count s) j
  first-not-above-named j e = (read-says (SparseOrder j) e).not_above j refl
