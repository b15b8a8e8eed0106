-- Determinism of the public contracts, of the answer, or of the part shown and where it points: stated over each contract's own reading, so it changes with the contract.
use mathlib.Core.Path.{ap₂, ◌∙◌, sym}
use Rattle.promises.specs.Determined.{Determined}
use Rattle.vector_types.proofs.Determined.{part}
use Rattle.nearer.proofs.nearer.Reads as nearer
use Rattle.nearer.proofs.nearer_part.Reads as nearer-part

pub nearer-determined : (κs : _) (a : _) → Determined (nearer.Post κs a) (λ r x. r)
nearer-determined κs a r r' x x' p q = p ∙ sym q

pub nearer-part-determined : (κs : _) (a : _) → Determined (nearer-part.Post κs a) (λ r x. part r.now r.ref_ptr)
nearer-part-determined κs a r r' x x' p q = ap₂ part (p.0 ∙ sym q.0) (p.1 ∙ sym q.1)
