-- Determinism of the public contracts: stated over each contract's own reading, so it changes with the contract.
use mathlib.Core.Path.{◌∙◌, sym}
use Rattle.promises.specs.Determined.{Determined}
use Rattle.distance_sums.proofs.bits.differing.Reads as differing
use Rattle.distance_sums.proofs.bits.overlapping.Reads as overlapping
use Rattle.distance_sums.proofs.float8.totals_of.Reads as totals-of
use Rattle.distance_sums.proofs.float8.dot_of.Reads as dot-of
use Rattle.distance_sums.proofs.float8.norm_of.Reads as norm-of

pub differing-determined : (κs : _) (a : _) → Determined (differing.Post κs a) (λ r x. r)
differing-determined κs a r r' x x' p q = p ∙ sym q

pub overlapping-determined : (κs : _) (a : _) → Determined (overlapping.Post κs a) (λ r x. r)
overlapping-determined κs a r r' x x' p q = p ∙ sym q

pub totals-of-determined : (κs : _) (a : _) → Determined (totals-of.Post κs a) (λ r x. r)
totals-of-determined κs a r r' x x' p q = p ∙ sym q

pub dot-of-determined : (κs : _) (a : _) → Determined (dot-of.Post κs a) (λ r x. r)
dot-of-determined κs a r r' x x' p q = p ∙ sym q

pub norm-of-determined : (κs : _) (a : _) → Determined (norm-of.Post κs a) (λ r x. r)
norm-of-determined κs a r r' x x' p q = p ∙ sym q
