-- What the check of two views says of them, and the distance by what it says; and that the body of the second fits the kind and dims of the first.
use mathlib.Core.Path.{◌≡◌, refl}
use mathlib.Core.Bool.{true, false}
use mathlib.Core.List.{List}
use Prim.Native.Nat.{ℕ}
use lib.Dec.{eqb}
use lib.Seq.{length-take-le}
use native.Mathlib.Omega.{arith}
use borrow.Author.Tests.{eqb-true, eq-eqb, ne_eqb}
use Rattle.std.proofs.Common.{Ok, Err, length, take}
use Rattle.std.specs.Result.{result_and}
use Rattle.vector_types.specs.Layout.{byte_of, has_byte, body_fits}
use Rattle.vector_types.specs.Read.{read_of}
use Rattle.vector_types.specs.declared.Mode.TheVariants.{Plain}
use Rattle.vector_types.specs.declared.Refusal.TheVariants.{DimsDiffer, KindsDiffer}
use Rattle.vector_types.specs.declared.VectorType.{VectorType}
use Rattle.vector_types.specs.declared.View.{View}
use Rattle.vector_types.proofs.SameKind.{same_kind}
use Rattle.vector_types.proofs.Views.{view-facts}
use Rattle.distance.specs.Values.{Formula}
use Rattle.distance.specs.Answer.{of_all, counts_of, pairing_of, distance_answer, answer_of_views}

-- ---- two views that are checked
module _ (v w : View) where
  pub dims-differ : (v.dims.0 ≡ w.dims.0 → ⊥) → pairing_of v w ≡ Err DimsDiffer
  dims-differ d = rw (ne_eqb v.dims.0 w.dims.0 d)

  pub kinds-differ : v.dims.0 ≡ w.dims.0 → has_byte (byte_of w.kind) v.kind ≡ false → pairing_of v w ≡ Err KindsDiffer
  kinds-differ d k = rw (eq-eqb v.dims.0 w.dims.0 d, k)

-- ---- what two views have in common that pass
pub record SameShape (v w : View) : Type 0 where
  pub dims : v.dims.0 ≡ w.dims.0
  pub kind : v.kind ≡ w.kind

module _ (v w : View) where
  pub alike_same : pairing_of v w ≡ Ok tt → SameShape v w
  alike_same e =
      let d : eqb v.dims.0 w.dims.0 ≡ true = grind arith in
      let k : has_byte (byte_of w.kind) v.kind ≡ true = grind arith in
      record { dims = eqb-true _ _ d; kind = same_kind v.kind w.kind k }

  pub both-same : v.dims.0 ≡ w.dims.0 → has_byte (byte_of w.kind) v.kind ≡ true → pairing_of v w ≡ Ok tt
  both-same d k = rw (eq-eqb v.dims.0 w.dims.0 d, k)

-- ---- the distance of two views by what the check says
pub answer-by-pairing : (value : Formula) (v w : View) (a b : List ℕ)
    → answer_of_views value v w a b ≡ of_all (result_and (pairing_of v w) (distance_answer (value v.kind v.dims.0 a b) (counts_of v w)))
unfolding answer_of_views
answer-by-pairing value v w a b = refl

-- ---- the body of the other vector fits the kind and dims of the first
fits-same : {k l : VectorType} {d e : ℕ} (n : ℕ) → k ≡ l → d ≡ e → body_fits l e n ≡ true → body_fits k d n ≡ true
fits-same n p q h = rw (p, q) h

pub other_fits : (t : List ℕ) (v w : View) → read_of Plain t ≡ Ok w → SameShape v w → body_fits v.kind v.dims.0 (length (take w.length t)) ≡ true
other_fits t v w e same =
    let facts = view-facts t w e in
    fits-same (length (take w.length t)) same.kind same.dims (rw (length-take-le w.length t facts.within) facts.fit)
