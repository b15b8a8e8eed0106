-- Determinism of the public contract: stated over the contract's own reading, so it changes with the contract.
use mathlib.Core.Path.{◌∙◌, sym}
use Rattle.promises.specs.Determined.{Determined}
use Rattle.distance_dot.proofs.measure_dot.Reads as measure-dot

pub measure-dot-determined : (κs : _) (a : _) → Determined (measure-dot.Post κs a) (λ r x. r)
measure-dot-determined κs a r r' x x' p q = p ∙ sym q
