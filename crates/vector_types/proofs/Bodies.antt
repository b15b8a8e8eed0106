-- What a view tells of its body, as bytes of their own: which they are, how many, and what is known of its indices and its elements.
use Rattle.std.proofs.Common.{◌≡◌, refl, sym, ap, ◌∙◌, true, false, not, ◌&&◌, List, ◌++◌, ℕ, suc, ◌+◌, ◌-◌, ◌*◌, ◌/◌, ◌%◌, ◌<◌, ◌≤◌, arith, leb, eqb, length, take, drop, take-append-drop, length-take-le, leb-true, ne_eqb, Result, Ok}
use mathlib.Core.Bool.{and-eq-true_iff}
use Rattle.std.proofs.lemmas.Bool.{not-true}
use Rattle.vector_types.specs.declared.Refusal.{Refusal}
use Rattle.little_endian.proofs.Numbers.{number_at-left}
use Rattle.vector_types.specs.Search.{any_index}
use Rattle.vector_types.specs.Layout.{max_dims, has_trailing_count, length_before_type, trailing_count, entry_count, sparse_dims, row_accepts, dims_of, index_at, is_outside, has_index_outside, body_fits, layout_row}
use Rattle.vector_types.specs.Read.{read_of}
use Rattle.vector_types.specs.Parts.{body_of, shown_length}
use Rattle.vector_types.specs.Statements.{IndicesBelow, IndicesRise}
use Rattle.vector_types.specs.declared.View.{View}
use Rattle.vector_types.specs.declared.VectorType.{VectorType}
use Rattle.vector_types.specs.declared.VectorType.TheVariants.{Float32Sparse, Float1Bit, Float8}
use Rattle.vector_types.specs.declared.Mode.TheVariants.{Plain}
use Rattle.vector_types.proofs.Bools.{and-three}
use Rattle.vector_types.proofs.Statements.{none-outside}
use Rattle.vector_types.proofs.Views.{ViewFacts, view-facts}

-- an index of a body of k entries is read from the body alone
pub index-appended : (body tail : List ℕ) (k : ℕ) → length body ≡ 8 * k → (j : ℕ) → j < k → index_at (body ++ tail) k j ≡ index_at body k j
index-appended body tail k long j h = number_at-left 4 body tail (4 * k + 4 * j) (omega arith)

index-taken : (s : List ℕ) (k : ℕ) → 8 * k ≤ length s → (j : ℕ) → j < k → index_at s k j ≡ index_at (take (8 * k) s) k j
index-taken s k room j h =
    rw take-append-drop at (index-appended (take (8 * k) s) (drop (8 * k) s) k (length-take-le (8 * k) s room) j h)

-- a kind with a trailing count has elements
has-elements : (k : VectorType) (s : List ℕ) → row_accepts k s ≡ true → (has_trailing_count k && eqb (dims_of k s) 0) ≡ false
unfolding layout_row
has-elements Float1Bit s row =
    let n = length_before_type s in
    let t = trailing_count s in
    let tests = and-three (leb 2 n) (leb 8 t) (leb t (8 * n - 1)) row in
    ne_eqb (dims_of Float1Bit s) 0 (omega (arith, leb-true))
has-elements Float8 s row =
    let n = length_before_type s in
    let t = trailing_count s in
    let tests = and-three (leb 14 n) (eqb ((n - 10) % 4) 0) (leb t 3) row in
    ne_eqb (dims_of Float8 s) 0 (omega (arith, leb-true))
has-elements _ s row = refl

-- what is known of the body of a view of kind k and dims d
pub record BodyFacts (k : VectorType) (d : ℕ) (body : List ℕ) : Type 0 where
  pub few : d ≤ max_dims
  pub fit : body_fits k d (length body) ≡ true
  pub inside : has_index_outside k d body ≡ false
  pub elements : (has_trailing_count k && eqb d 0) ≡ false

module _ (s : List ℕ) (v : View) (e : read_of Plain s ≡ Ok v) where
  facts : ViewFacts s v
  facts = view-facts s v e

  pub body_is : body_of s ≡ take v.length s
  unfolding body_of
  body_is = ap (λ (r : Result View Refusal). take (shown_length r) s) e

  pub length-body : length (body_of s) ≡ v.length
  length-body = rw body_is (length-take-le v.length s facts.within)

  -- ---- of a sparse blob
  pub view-indices-below : v.kind ≡ Float32Sparse → IndicesBelow s (entry_count s) v.dims.0
  unfolding layout_row
  view-indices-below h =
      let outside = any_index (is_outside s (entry_count s) (sparse_dims s)) (entry_count s) in
      let (_, inside) = (and-eq-true_iff (eqb (length_before_type s) (4 + 8 * entry_count s)) (not outside)).0 (rw h at facts.accepts) in
      (none-outside s (entry_count s) v.dims.0).0 (rw (facts.sized, h) (not-true outside inside))

  pub entries-within : v.kind ≡ Float32Sparse → (v.length ≡ 8 * entry_count s) × (8 * entry_count s ≤ length s)
  unfolding layout_row
  entries-within h =
      let long : v.length ≡ 8 * entry_count s = facts.long ∙ rw h in
      (long, omega (arith, facts.within))

  -- the body has the same indices
  body-count : v.kind ≡ Float32Sparse → length (body_of s) / 8 ≡ entry_count s
  body-count h = omega (arith, length-body, (entries-within h).0)

  body-index : v.kind ≡ Float32Sparse → (j : ℕ) → j < entry_count s → index_at (body_of s) (length (body_of s) / 8) j ≡ index_at s (entry_count s) j
  body-index h j less =
      let (long, room) = entries-within h in
      rw (body-count h, body_is, long) (sym (index-taken s (entry_count s) room j less))

  pub body-indices-below : v.kind ≡ Float32Sparse → IndicesBelow (body_of s) (length (body_of s) / 8) v.dims.0
  body-indices-below h j less =
      let less : j < entry_count s = rw (body-count h) at less in
      rw (body-index h j less) (view-indices-below h j less)

  pub body-indices-rise : v.kind ≡ Float32Sparse → IndicesRise s (entry_count s) → IndicesRise (body_of s) (length (body_of s) / 8)
  body-indices-rise h rise j less =
      let less : suc j < entry_count s = rw (body-count h) at less in
      rw (body-index h j (omega arith), body-index h (suc j) less) (rise j less)

  body-inside : has_index_outside v.kind v.dims.0 (body_of s) ≡ false
  body-inside = by_kind v.kind refl
    where
      by_kind : (k : VectorType) → v.kind ≡ k → has_index_outside k v.dims.0 (body_of s) ≡ false
      by_kind Float32Sparse h = (none-outside (body_of s) (length (body_of s) / 8) v.dims.0).1 (body-indices-below h)
      by_kind _ h = refl

  pub body-facts : BodyFacts v.kind v.dims.0 (body_of s)
  body-facts = record {
    few = facts.few;
    fit = rw length-body facts.fit;
    inside = body-inside;
    elements = rw facts.sized (has-elements v.kind s facts.accepts);
  }
