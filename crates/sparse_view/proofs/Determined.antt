-- Each public contract determines its outcome, the part shown and where it points. Of a function that takes or makes a view it is stated over the relation that the contract names, and over the contract's own reading.
use mathlib.Core.Path.{◌≡◌, ap₂, ◌∙◌, sym}
use mathlib.Core.List.{List}
use Prim.Native.Nat.{ℕ}
use denote.Ref.{Bor}
use Rattle.promises.specs.Determined.{Determined}
use Rattle.vector_types.proofs.Determined.{part}
use Rattle.sparse_view.specs.Halves.{SparseBody, FirstHalf, SecondHalf}
use Rattle.sparse_view.proofs.SparseView.of.Reads as view_of
use Rattle.sparse_view.proofs.SparseView.values.Reads as values
use Rattle.sparse_view.proofs.SparseView.indices.Reads as indices
use Rattle.sparse_view.proofs.values_of.Reads as values_of
use Rattle.sparse_view.proofs.indices_of.Reads as indices-of

-- a part is told by its bytes and its place
told : {X : Type 0} (bytes : List ℕ) (at : ℕ × ℕ) → Determined {R = Bor (List ℕ)} {X = X} (λ r x. (r.now ≡ bytes) × (r.ref_ptr ≡ at)) (λ r x. part r.now r.ref_ptr)
told bytes at r r' x x' p q = ap₂ part (p.0 ∙ sym q.0) (p.1 ∙ sym q.1)

abbrev Tells : (Bor (List ℕ) → Bor (List ℕ) → Type 0) → Type 0
Tells P = (s : Bor (List ℕ)) → Determined {X = Unit {0}} (λ r x. P s r) (λ r x. part r.now r.ref_ptr)

pub view-of-determined : Tells SparseBody
view-of-determined s = told _ _

pub values-determined : Tells FirstHalf
values-determined s = told _ _

pub indices-determined : Tells SecondHalf
indices-determined s = told _ _

-- the same of the contracts themselves
pub view-of-reads-determined : (κs : _) (a : _) → Determined (view_of.Post κs a) (λ r x. part r.body.now r.body.ref_ptr)
view-of-reads-determined κs a r r' x x' p q = ap₂ part (p.0 ∙ sym q.0) (p.1 ∙ sym q.1)

pub values-reads-determined : (κs : _) (a : _) → Determined (values.Post κs a) (λ r x. part r.now r.ref_ptr)
values-reads-determined κs a = told _ _

pub indices-reads-determined : (κs : _) (a : _) → Determined (indices.Post κs a) (λ r x. part r.now r.ref_ptr)
indices-reads-determined κs a = told _ _

pub values-of-determined : (κs : _) (a : _) → Determined (values_of.Post κs a) (λ r x. part r.now r.ref_ptr)
values-of-determined κs a = told _ _

pub indices-of-determined : (κs : _) (a : _) → Determined (indices-of.Post κs a) (λ r x. part r.now r.ref_ptr)
indices-of-determined κs a = told _ _
