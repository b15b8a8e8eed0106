-- Determinism of the public contract: stated over the contract's own reading, so it changes with the contract.
use mathlib.Core.Path.{◌∙◌, sym}
use mathlib.Core.Option.{some-injective}
use Rattle.promises.specs.Determined.{Determined}
use Rattle.distance_l2.proofs.measure_l2.Reads as measure-l2

pub measure-l2-determined : (κs : _) (a : _) → Determined (measure-l2.Post κs a) (λ r x. r)
measure-l2-determined κs a r r' x x' p q = some-injective r r' (p ∙ sym q)
