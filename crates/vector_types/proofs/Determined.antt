-- Determinism of the public contracts: any two outcomes agree in the answer, the part shown and where it points. Stated over the contract's own
-- reading, so it changes with the contract.
use Rattle.std.proofs.Common.{◌≡◌, ap₂, ◌∙◌, sym, List, ℕ, Result, Ok, Err, IfOk}
use Rattle.std.specs.Result.{result_map_both}
use Rattle.promises.specs.Determined.{Determined}
use Rattle.vector_types.specs.declared.Refusal.{Refusal}
use Rattle.vector_types.specs.declared.View.{View}
use Rattle.vector_types.specs.declared.vector.Vector.{Vector}
use Rattle.vector_types.proofs.kinds.U8FromVectorType.from.Reads as type-byte
use Rattle.vector_types.proofs.kinds.VectorTypeTryFromU8.try_from.Reads as kind-of-byte
use Rattle.vector_types.proofs.kinds.RefusalFromKindError.from.Reads as kind-refusal
use Rattle.vector_types.proofs.VectorTypePartialEq.eq.Reads as same-kind
use Rattle.vector_types.proofs.Refusal.number.Reads as number
use Rattle.vector_types.proofs.Refusal.detail.Reads as detail
use Rattle.vector_types.proofs.View.of.Reads as view_of
use Rattle.vector_types.proofs.reading.align4.Reads as align4
use Rattle.vector_types.proofs.reading.first_outside.Reads as first-outside
use Rattle.vector_types.proofs.reading.read.Reads as read
use Rattle.vector_types.proofs.parts.body.Reads as body
use Rattle.vector_types.proofs.parts.values.Reads as values
use Rattle.vector_types.proofs.parts.indices.Reads as indices
use Rattle.vector_types.proofs.vector.Vector.from_slice.Reads as from-slice
use Rattle.vector_types.proofs.vector.Vector.body.Reads as vector-body

-- the bytes of a part, and where it points
abbrev pub part : List ℕ → ℕ × ℕ → List ℕ × (ℕ × ℕ)
part bytes at = (bytes, at)

pub type-byte-determined : (κs : _) (a : _) → Determined (type-byte.Post κs a) (λ r x. r)
type-byte-determined κs a r r' x x' p q = p ∙ sym q

pub kind-of-byte-determined : (κs : _) (a : _) → Determined (kind-of-byte.Post κs a) (λ r x. r)
kind-of-byte-determined κs a r r' x x' p q = p ∙ sym q

pub kind-refusal-determined : (κs : _) (a : _) → Determined (kind-refusal.Post κs a) (λ r x. r)
kind-refusal-determined κs a r r' x x' p q = p ∙ sym q

pub same-kind-determined : (κs : _) (a : _) → Determined (same-kind.Post κs a) (λ r x. r)
same-kind-determined κs a r r' x x' p q = p ∙ sym q

pub number-determined : (κs : _) (a : _) → Determined (number.Post κs a) (λ r x. r)
number-determined κs a r r' x x' p q = p ∙ sym q

pub detail-determined : (κs : _) (a : _) → Determined (detail.Post κs a) (λ r x. r)
detail-determined κs a r r' x x' p q = p ∙ sym q

pub view-determined : (κs : _) (a : _) → Determined (view_of.Post κs a) (λ r x. r)
view-determined κs a r r' x x' p q = p ∙ sym q

pub align4-determined : (κs : _) (a : _) → Determined (align4.Post κs a) (λ r x. r)
align4-determined κs a r r' x x' p q = p ∙ sym q

pub first-outside-determined : (κs : _) (a : _) → Determined (first-outside.Post κs a) (λ r x. r)
first-outside-determined κs a r r' x x' p q = p ∙ sym q

pub read-determined : (κs : _) (a : _) → Determined (read.Post κs a) (λ r x. r)
read-determined κs a r r' x x' p q = p ∙ sym q

pub body-determined : (κs : _) (a : _) → Determined (body.Post κs a) (λ r x. part r.now r.ref_ptr)
body-determined κs a r r' x x' p q = ap₂ part (p.0 ∙ sym q.0) (p.1 ∙ sym q.1)

pub values-determined : (κs : _) (a : _) → Determined (values.Post κs a) (λ r x. part r.now r.ref_ptr)
values-determined κs a r r' x x' p q = ap₂ part (p.0 ∙ sym q.0) (p.1 ∙ sym q.1)

pub indices-determined : (κs : _) (a : _) → Determined (indices.Post κs a) (λ r x. part r.now r.ref_ptr)
indices-determined κs a r r' x x' p q = ap₂ part (p.0 ∙ sym q.0) (p.1 ∙ sym q.1)

abbrev shown_in : Result Vector Refusal → Result (View × (List ℕ × (ℕ × ℕ))) Refusal
shown_in r = result_map_both (λ v. (v.view, part v.blob.now v.blob.ref_ptr)) (λ e. e) r

pub from-slice-determined : (κs : _) (a : _) → Determined (from-slice.Post κs a) (λ r x. shown_in r)
from-slice-determined κs a r r' x x' p q = go r r' (p.0 ∙ sym q.0) p.1 q.1
  where
    go : (r r' : Result Vector Refusal) → result_map_both (λ (v : Vector). v.view) (λ (e : Refusal). e) r ≡ result_map_both (λ (v : Vector). v.view) (λ (e : Refusal). e) r'
        → IfOk r (λ v. v.blob ≡ a.1.0) → IfOk r' (λ v. v.blob ≡ a.1.0) → shown_in r ≡ shown_in r'
    go (Ok v) (Ok w) e p q = cc
    go (Ok v) (Err f) e p q = absurd cc
    go (Err e) (Ok w) h p q = absurd cc
    go (Err e) (Err f) h p q = cc

pub vector-body-determined : (κs : _) (a : _) → Determined (vector-body.Post κs a) (λ r x. part r.now r.ref_ptr)
vector-body-determined κs a r r' x x' p q = ap₂ part (p.0 ∙ sym q.0) (p.1.0 ∙ sym q.1.0)
