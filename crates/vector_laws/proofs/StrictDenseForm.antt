-- The indices of a sparse blob that the strict mode accepts rise, so `dense-form-same-distance` holds of two such blobs with its other premises alone; L2 and Jaccard have none.
use mathlib.Core.Path.{◌≡◌}
use mathlib.Core.List.{List}
use Prim.Native.Nat.{ℕ}
use lib.Ieee.{binary32}
use Rattle.vector_types.specs.Read.{read_of}
use Rattle.vector_types.specs.Parts.{body_of}
use Rattle.vector_types.specs.declared.View.{View}
use Rattle.vector_types.specs.declared.VectorType.TheVariants.{Float32Sparse}
use Rattle.std.specs.Prelude.{Ok}
use Rattle.vector_types.specs.declared.Mode.TheVariants.{Strict}
use Rattle.vector_types.proofs.Bodies.{body-indices-rise}
use Rattle.vector_types.proofs.Modes.{shown-plainly}
use Rattle.vector_types.proofs.Strict.{strict-indices-rise}
use Rattle.bodies.specs.Entries.{Rising, entries_of}
use Rattle.distance.specs.Answer.{distance_of}
use Rattle.distance.specs.declared.Distance.{Distance}
use Rattle.distance.specs.declared.Distance.TheVariants.{L2, Jaccard}
use Rattle.vector_laws.specs.DenseForm.{dense_form, Premises, SameDistance}
use Rattle.vector_laws.proofs.DenseForm.{dense-form-same-distance}

pub strict-rises : (s : List ℕ) (v : View) → read_of Strict s ≡ Ok v → v.kind ≡ Float32Sparse → Rising (entries_of (body_of s))
strict-rises s v e k =
    let plain = shown-plainly Strict s v e in
    body-indices-rise s v plain k ((strict-indices-rise s v plain k).0 e)

module _ (s t : List ℕ) (v w : View) (p : read_of Strict s ≡ Ok v) (q : read_of Strict t ≡ Ok w) (kv : v.kind ≡ Float32Sparse) (kw : w.kind ≡ Float32Sparse) where
  pub strict-dense-form-same-distance : (m : Distance) → Premises m (body_of s) (body_of t) → SameDistance (distance_of m (dense_form binary32 s v) (dense_form binary32 t w)) (distance_of m s t)
  strict-dense-form-same-distance m asks =
      dense-form-same-distance m s t v w (shown-plainly Strict s v p) (shown-plainly Strict t w q) kv kw (strict-rises s v p kv) (strict-rises t w q kw) asks

  -- L2 and Jaccard ask nothing more
  pub strict-dense-form-same-l2 : SameDistance (distance_of L2 (dense_form binary32 s v) (dense_form binary32 t w)) (distance_of L2 s t)
  strict-dense-form-same-l2 = strict-dense-form-same-distance L2 tt

  pub strict-dense-form-same-jaccard : SameDistance (distance_of Jaccard (dense_form binary32 s v) (dense_form binary32 t w)) (distance_of Jaccard s t)
  strict-dense-form-same-jaccard = strict-dense-form-same-distance Jaccard tt
