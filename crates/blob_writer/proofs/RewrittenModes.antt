-- A blob that was read and written again is read in every mode as before: what a mode's own tests look at stands in the body.
use mathlib.Core.Path.{◌≡◌, refl, sym, ap, ◌∙◌}
use mathlib.Core.Bool.{Bool, cond, ◌&&◌}
use mathlib.Core.List.{List, [], ◌∷◌}
use Rattle.std.proofs.Common.{Result, Ok, Err, Some, None}
use Prim.Native.Nat.{ℕ, ◌-◌, ◌*◌, ◌/◌, ◌≤◌}
use native.Mathlib.Omega.{arith}
use lib.Dec.{ltb}
use lib.ListN.{length, take, drop, take-append-drop}
use lib.Seq.{length-take-le}
use Rattle.vector_types.specs.Answers.{Test, test, test_first, first_given, unless}
use Rattle.vector_types.specs.Search.{any_index}
use Rattle.vector_types.specs.Layout.{has_byte, named_kind, entry_count, dims_of, length_of, layout_row}
use Rattle.vector_types.specs.Read.{is_not_above_previous, unused_set, own_refusals, read_of}
use Rattle.vector_types.specs.Parts.{body_of}
use Rattle.blob_writer.specs.Rewritten.{rewritten}
use Rattle.vector_types.specs.declared.View.{View}
use Rattle.vector_types.specs.declared.VectorType.{VectorType}
use Rattle.vector_types.specs.declared.VectorType.TheVariants.{Float32Dense, Float64Dense, Float32Sparse, Float1Bit, Float8}
use Rattle.vector_types.specs.declared.KindError.{KindError}
use Rattle.vector_types.specs.declared.Refusal.TheVariants.{SparseOrder, UnusedBitSet}
use Rattle.vector_types.specs.declared.Mode.{Mode}
use Rattle.vector_types.specs.declared.Mode.TheVariants.{Plain, Strict}
use Rattle.vector_types.proofs.Bodies.{body_is}
use Rattle.vector_types.proofs.Views.{view-facts}
use Rattle.vector_types.proofs.Modes.{read-by-own}
use Rattle.blob_writer.proofs.Appended.{order-appended, unused-appended}
use Rattle.blob_writer.proofs.Rewritten.{blob_for, blob-same, rewritten-by}

-- ---- a mode's own tests, by the body alone
abbrev body_tests : Mode → VectorType → ℕ → List ℕ → List Test
body_tests Plain k d b = []
body_tests Strict k d b =
    test_first SparseOrder (has_byte 9 k) (is_not_above_previous b (length b / 8)) (length b / 8)
    ∷ test UnusedBitSet (has_byte 3 k && any_index (unused_set b d) (8 * length b - d))
    ∷ []

strict-by-body : (k : VectorType) (s : List ℕ) (m d : ℕ) → m ≤ length s → m ≡ length_of k s → d ≡ dims_of k s
    → first_given (own_refusals Strict (Ok k) s) ≡ first_given (body_tests Strict k d (take m s))
unfolding layout_row
strict-by-body Float32Dense s m d within long sized = refl
strict-by-body Float64Dense s m d within long sized = refl
strict-by-body Float32Sparse s m d within long sized =
    let size = length-take-le m s within in
    let count : length (take m s) / 8 ≡ entry_count s = omega arith in
    let same = rw take-append-drop at (order-appended (take m s) (drop m s) (entry_count s) (omega arith)) in
    ap (λ (j : ℕ). cond (ltb j (entry_count s)) (Some (SparseOrder j)) None) same ∙ rw count
strict-by-body Float1Bit s m d within long sized =
    let size = length-take-le m s within in
    let same = rw take-append-drop at (unused-appended (take m s) (drop m s) d) in
    rw (← long, ← sized, size) (ap (λ (p : Bool). cond p (Some UnusedBitSet) None) (rw size at same))
strict-by-body Float8 s m d within long sized = refl

own-by-body : (mode : Mode) (s : List ℕ) (v : View) → read_of Plain s ≡ Ok v
    → first_given (own_refusals mode (named_kind s) s) ≡ first_given (body_tests mode v.kind v.dims.0 (body_of s))
unfolding layout_row
own-by-body Plain s v e = refl
own-by-body Strict s v e =
    let t = view-facts s v e in
    let kind = ap (λ (n : Result VectorType KindError). first_given (own_refusals Strict n s)) t.names in
    kind ∙ strict-by-body v.kind s v.length v.dims.0 t.within t.long t.sized ∙ rw (body_is s v e)

read-by-body : (mode : Mode) (s : List ℕ) (v : View) → read_of Plain s ≡ Ok v
    → read_of mode s ≡ unless (first_given (body_tests mode v.kind v.dims.0 (body_of s))) Err (Ok v)
read-by-body mode s v e = read-by-own mode s v e ∙ rw (own-by-body mode s v e)

-- ---- so two blobs of one view and body are read alike in every mode
same-body-same-read : (mode : Mode) (s t : List ℕ) (v : View) → read_of Plain s ≡ Ok v → read_of Plain t ≡ Ok v → body_of s ≡ body_of t
    → read_of mode s ≡ read_of mode t
same-body-same-read mode s t v e f same = read-by-body mode s v e ∙ rw same (sym (read-by-body mode t v f))

pub rewritten-same : (mode : Mode) (s : List ℕ) → (read_of mode (rewritten s) ≡ read_of mode s) × (body_of (rewritten s) ≡ body_of s)
rewritten-same mode s = rewritten-by s (λ w. (read_of mode w ≡ read_of mode s) × (body_of w ≡ body_of s)) of-view (λ r e. (refl, refl))
  where
    of-view : (v : View) → read_of Plain s ≡ Ok v → (read_of mode (blob_for v s) ≡ read_of mode s) × (body_of (blob_for v s) ≡ body_of s)
    of-view v e =
        let (view, body) = blob-same s v e in
        (same-body-same-read mode (blob_for v s) s v view e body, body)
