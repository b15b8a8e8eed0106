-- What a view tells of its blob: the law of reading that callers cite.
use Rattle.std.proofs.Common.{◌≡◌, refl, sym, ap, subst, true, List, ℕ, ◌*◌, ◌≤◌, arith, length, Result, Ok, Err}
use Rattle.vector_types.specs.declared.KindError.{KindError}
use Rattle.vector_types.specs.Layout.{max_blob_length, max_dims, named_kind, row_accepts, dims_of, length_of, body_fits}
use Rattle.vector_types.specs.Read.{read_of, refusals, shown}
use Rattle.vector_types.specs.Parts.{half_of}
use Rattle.vector_types.specs.declared.VectorType.{VectorType}
use Rattle.vector_types.specs.declared.VectorType.TheVariants.{Float32Sparse}
use Rattle.vector_types.specs.declared.View.{View}
use Rattle.vector_types.specs.declared.Mode.TheVariants.{Plain}
use Rattle.vector_types.specs.Answers.{first_given, readings, readings_of, view_of}
use Rattle.vector_types.proofs.Given.{Passed, none_passed, unless-accepted}
use Rattle.vector_types.proofs.Rows.{passed-accepted, passed-fit, passed-few, passed-short, length-within}

-- its kind is the one named; dims and length are those of the row, which accepts the blob, and fit each other; readings follow; the limits are kept
pub record ViewFacts (s : List ℕ) (v : View) : Type 0 where
  pub names : named_kind s ≡ Ok v.kind
  pub sized : v.dims.0 ≡ dims_of v.kind s
  pub long : v.length ≡ length_of v.kind s
  pub counted : v.readings.0 ≡ readings_of v.kind v.dims.0 v.length
  pub accepts : row_accepts v.kind s ≡ true
  pub fit : body_fits v.kind v.dims.0 v.length ≡ true
  pub few : v.dims.0 ≤ max_dims
  pub short : length s ≤ max_blob_length
  pub within : v.length ≤ length s

-- the view of a blob by its kind's row
abbrev row_view : VectorType → List ℕ → View
row_view k s = view_of k (dims_of k s) (length_of k s)

row-facts : (s : List ℕ) (k : VectorType) → named_kind s ≡ Ok k → Passed (refusals Plain (Ok k) s) → ViewFacts s (row_view k s)
row-facts s k e p = record {
  names = e;
  sized = refl;
  long = refl;
  counted = refl;
  accepts = passed-accepted s k e p;
  fit = passed-fit s k p;
  few = passed-few s k p;
  short = passed-short s k p;
  within = length-within s k;
}

pub view-facts : (s : List ℕ) (v : View) → read_of Plain s ≡ Ok v → ViewFacts s v
unfolding read_of
view-facts s v e =
    let (none, shows) = unless-accepted (first_given (refusals Plain (named_kind s) s)) (shown (named_kind s) s) v e in
    by_name (named_kind s) refl (none_passed (refusals Plain (named_kind s) s) none) shows
  where
    by_name : (n : Result VectorType KindError) → named_kind s ≡ n → Passed (refusals Plain n s) → shown n s ≡ Ok v → ViewFacts s v
    by_name (Ok k) h p shows = let same : row_view k s ≡ v = cc in subst (ViewFacts s) same (row-facts s k h p)
    by_name (Err e) h p shows = absurd cc

-- a view is made of its kind, dims and length
pub view_made : (s : List ℕ) (v : View) → read_of Plain s ≡ Ok v → view_of v.kind v.dims.0 v.length ≡ v
view_made s v e =
    ap (λ n. record { kind = v.kind; dims = v.dims; length = v.length; readings = readings n }) (sym (view-facts s v e).counted)

-- the two halves of a sparse body lie within the blob; another body has none
two-halves : (k : VectorType) (m : ℕ) → 2 * half_of k m ≤ m
two-halves Float32Sparse m = omega arith
two-halves _ m = omega arith

pub half-within : (s : List ℕ) (v : View) → read_of Plain s ≡ Ok v → 2 * half_of v.kind v.length ≤ length s
half-within s v e = omega (arith, two-halves v.kind v.length, (view-facts s v e).within)
