-- Determinism of the public contract: stated over the contract's own reading, so it changes with the contract.
use mathlib.Core.Path.{◌∙◌, sym}
use Rattle.promises.specs.Determined.{Determined}
use Rattle.jaccard.proofs.measure_jaccard.Reads as measure-jaccard

pub measure-jaccard-determined : (κs : _) (a : _) → Determined (measure-jaccard.Post κs a) (λ r x. r)
measure-jaccard-determined κs a r r' x x' p q = p ∙ sym q
