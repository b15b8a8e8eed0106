-- Two sparse blobs with rising indices have the distances of their Float32Dense forms, to the bit: the dense blobs read back, their
-- sums are those of the sparse ones, and where no sum is a zero the two rules of cosine are one. It is what the converter and the writer do.
-- Only the distance is the same: the dense forms hold dims readings each.
use mathlib.Core.Path.{◌≡◌, refl, sym, ap, subst, ◌∙◌}
use mathlib.Core.Bool.{false}
use mathlib.Core.List.{List}
use mathlib.Core.Option.{some}
use Prim.Native.Nat.{ℕ}
use lib.Ieee.{binary32}
use Rattle.vector_types.specs.Layout.{has_index_outside}
use Rattle.vector_types.specs.Read.{read_of}
use Rattle.vector_types.specs.Parts.{body_of}
use Rattle.vector_types.specs.declared.View.{View}
use Rattle.vector_types.specs.declared.VectorType.{VectorType}
use Rattle.vector_types.specs.declared.VectorType.TheVariants.{Float32Dense, Float32Sparse}
use Rattle.std.specs.Prelude.{Ok}
use Rattle.vector_types.specs.declared.Mode.TheVariants.{Plain}
use Rattle.vector_types.proofs.Bodies.{body-facts}
use Rattle.bodies.specs.Entries.{Rising, entries_of}
use Rattle.convert_parts.specs.Dense.{singles}
use Rattle.convert_parts.specs.Result.{result_of}
use Rattle.distance_sums.specs.Dense.{Products, dense_cosine, l2_by, dot_by, jaccard_by}
use Rattle.distance_sums.specs.Sparse.{sparse_products, sparse_cosine}
use Rattle.distance_sums.specs.Values.{cosine_of, l2_of, dot_of, jaccard_of}
use Rattle.distance.specs.Values.{value_of}
use Rattle.distance.specs.Answer.{distance_of}
use Rattle.distance.specs.declared.Distance.{Distance}
use Rattle.distance.specs.declared.Distance.TheVariants.{Cos, L2, Dot, Jaccard}
use Rattle.vector_laws.specs.DenseForm.{dense_form_body, dense_form, NoZero, Premises, SameDistance}
use Rattle.vector_laws.proofs.DenseFormMade.{dense-forms-related}
use Rattle.vector_laws.proofs.DenseFormSums.{dense-form-same-squares, dense-form-same-shares, dense-form-same-dots, dense-form-same-products}

-- ---- the values
same-cosine : (s : Products) → NoZero s → dense_cosine binary32 s ≡ sparse_cosine s
unfolding dense_cosine sparse_cosine
same-cosine s n = rw (n.dot, n.norm1, n.norm2)

module _ (d : ℕ) (a b : List ℕ) (au : Rising (entries_of a)) (bu : Rising (entries_of b))
    (ai : has_index_outside Float32Sparse d a ≡ false) (bi : has_index_outside Float32Sparse d b ≡ false) where
  abbrev dense : List ℕ → List ℕ
  dense body = result_of Float32Sparse Float32Dense d body

  dense-form-same-value : (m : Distance) → Premises m a b → value_of m Float32Dense d (dense a) (dense b) ≡ value_of m Float32Sparse d a b
  unfolding value_of cosine_of l2_of dot_of jaccard_of result_of singles
  dense-form-same-value Cos (af, bf, n) =
      ap some (ap (dense_cosine binary32) (sym (dense-form-same-products d a b au bu ai bi af bf)) ∙ same-cosine (sparse_products a b) n)
  dense-form-same-value L2 h = ap (λ x. some (l2_by x)) (sym (dense-form-same-squares d a b au bu ai bi))
  dense-form-same-value Dot (af, bf) = ap (λ x. some (dot_by x)) (sym (dense-form-same-dots d a b au bu ai bi af bf))
  dense-form-same-value Jaccard h = ap (λ x. some (jaccard_by binary32 x)) (sym (dense-form-same-shares d a b au bu ai bi))

-- ---- two blobs
inside : (s : List ℕ) (v : View) → read_of Plain s ≡ Ok v → v.kind ≡ Float32Sparse → has_index_outside Float32Sparse v.dims.0 (body_of s) ≡ false
inside s v e k = subst (λ (k : VectorType). has_index_outside k v.dims.0 (body_of s) ≡ false) k (body-facts s v e).inside

pub dense-form-same-distance : (m : Distance) (s t : List ℕ) (v w : View) → read_of Plain s ≡ Ok v → read_of Plain t ≡ Ok w → v.kind ≡ Float32Sparse → w.kind ≡ Float32Sparse
    → Rising (entries_of (body_of s)) → Rising (entries_of (body_of t)) → Premises m (body_of s) (body_of t)
    → SameDistance (distance_of m (dense_form binary32 s v) (dense_form binary32 t w)) (distance_of m s t)
dense-form-same-distance m s t v w p q kv kw su tu asks =
    dense-forms-related SameDistance (λ r. refl) m binary32 s t v w p q (kv ∙ sym kw) (λ x. refl) values
  where
    values : v.dims.0 ≡ w.dims.0
        → value_of m Float32Dense v.dims.0 (dense_form_body binary32 s v) (dense_form_body binary32 t w) ≡ value_of m v.kind v.dims.0 (body_of s) (body_of t)
    values same =
        let ti = subst (λ (n : ℕ). has_index_outside Float32Sparse n (body_of t) ≡ false) (sym same) (inside t w q kw) in
        rw (← same, kv, kw) (dense-form-same-value v.dims.0 (body_of s) (body_of t) su tu (inside s v p kv) ti m asks)
