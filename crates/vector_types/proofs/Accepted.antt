-- A blob is accepted exactly when its row of the layout table and the limits say so, and is then shown as its row says.
use Rattle.std.proofs.Common.{◌≡◌, refl, ap, true, List, ℕ, leb-true, le-leb, le-ltb, leb, length, Result, Ok, Err, is_ok}
use Rattle.std.specs.Cmp.{both_ways}
use mathlib.Core.Bool.{false≢true}
use Rattle.vector_types.specs.declared.KindError.{KindError}
use Rattle.vector_types.specs.declared.Refusal.{Refusal}
use Rattle.vector_types.specs.declared.View.{View}
use Rattle.vector_types.specs.Answers.{accepted_as}
use Rattle.vector_types.specs.Layout.{max_blob_length, max_dims, named_kind, row_accepts, blob_accepted, dims_of, length_of}
use Rattle.vector_types.specs.Read.{read_of, refusals}
use Rattle.vector_types.specs.declared.VectorType.{VectorType}
use Rattle.vector_types.specs.declared.Mode.TheVariants.{Plain}
use Rattle.vector_types.proofs.Bools.{and-three}
use Rattle.vector_types.proofs.Given.{passed_none}
use Rattle.vector_types.proofs.Rows.{accepted-passed}
use Rattle.vector_types.proofs.Views.{view-facts}

module _ (s : List ℕ) where
  pub accepted-as-row : (k : VectorType) → named_kind s ≡ Ok k → blob_accepted (named_kind s) s ≡ true → read_of Plain s ≡ accepted_as k (dims_of k s) (length_of k s)
  unfolding read_of blob_accepted
  accepted-as-row k e h =
      let d = dims_of k s in
      let (row, short, few) = and-three (row_accepts k s) (leb (length s) max_blob_length) (leb d max_dims) (rw e at h) in
      let passed = accepted-passed s k row (le-ltb max_blob_length (length s) (leb-true (length s) max_blob_length short)) (le-ltb max_dims d (leb-true d max_dims few)) in
      rw (e, passed_none (refusals Plain (Ok k) s) passed)

  accepted-by-row : (r : Result View Refusal) → read_of Plain s ≡ r → is_ok r ≡ true → blob_accepted (named_kind s) s ≡ true
  unfolding blob_accepted
  accepted-by-row (Ok v) e h = let t = view-facts s v e in
      rw (t.names, t.accepts, le-leb (length s) max_blob_length t.short, ← t.sized, le-leb v.dims.0 max_dims t.few)
  accepted-by-row (Err r) e h = absurd (false≢true h)

  row-accepted : (n : Result VectorType KindError) → named_kind s ≡ n → blob_accepted n s ≡ true → is_ok (read_of Plain s) ≡ true
  unfolding blob_accepted
  row-accepted (Ok k) e h = ap is_ok (accepted-as-row k e (rw e h))
  row-accepted (Err x) e h = absurd (false≢true h)

  pub accepted-exactly : is_ok (read_of Plain s) ≡ blob_accepted (named_kind s) s
  accepted-exactly = both_ways (is_ok (read_of Plain s)) (blob_accepted (named_kind s) s) (accepted-by-row (read_of Plain s) refl) (row-accepted (named_kind s) refl)
