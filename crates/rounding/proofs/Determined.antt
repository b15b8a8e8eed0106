-- Determinism of the public contracts: any two answers that one allows are equal. An equation gives it at once, a relation by its uniqueness law. Stated over the contract itself, so it changes with the contract.
use Rattle.std.proofs.Common.{sym, ◌∙◌}
use lib.Ieee.{binary32, binary64}
use Rattle.promises.specs.Determined.{Determined}
use Rattle.rounding.proofs.RootLaw.{root-unique}
use Rattle.rounding.proofs.NarrowLaw.{narrowed-unique}
use Rattle.rounding.proofs.widen.Reads as widen
use Rattle.rounding.proofs.widen_bits.Reads as widen-bits
use Rattle.rounding.proofs.truncate.Reads as truncate
use Rattle.rounding.proofs.narrowing.narrow.Reads as narrow
use Rattle.rounding.proofs.narrowing.narrow_bits.Reads as Narrow-bits
use Rattle.rounding.proofs.rooting.root32.Reads as root32
use Rattle.rounding.proofs.rooting.root64.Reads as root64

pub widen-determined : (κs : _) (a : _) → Determined (widen.Post κs a) (λ r x. r)
widen-determined κs a r r' x x' p q = p ∙ sym q

pub widen-bits-determined : (κs : _) (a : _) → Determined (widen-bits.Post κs a) (λ r x. r)
widen-bits-determined κs a r r' x x' p q = p ∙ sym q

pub truncate-determined : (κs : _) (a : _) → Determined (truncate.Post κs a) (λ r x. r)
truncate-determined κs a r r' x x' p q = p ∙ sym q

pub narrow-determined : (κs : _) (a : _) → Determined (narrow.Post κs a) (λ r x. r)
narrow-determined κs a r r' x x' p q = narrowed-unique a.0 r p ∙ sym (narrowed-unique a.0 r' q)

pub narrow-bits-determined : (κs : _) (a : _) → Determined (Narrow-bits.Post κs a) (λ r x. r)
narrow-bits-determined κs a r r' x x' p q = p ∙ sym q

pub root32-determined : (κs : _) (a : _) → Determined (root32.Post κs a) (λ r x. r)
root32-determined κs a r r' x x' p q = root-unique binary32 a.0 r p ∙ sym (root-unique binary32 a.0 r' q)

pub root64-determined : (κs : _) (a : _) → Determined (root64.Post κs a) (λ r x. r)
root64-determined κs a r r' x x' p q = root-unique binary64 a.0 r p ∙ sym (root-unique binary64 a.0 r' q)
