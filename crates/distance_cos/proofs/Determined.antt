-- Determinism of the public contract: stated over the contract's own reading, so it changes with the contract.
use mathlib.Core.Path.{◌∙◌, sym}
use Rattle.promises.specs.Determined.{Determined}
use Rattle.distance_cos.proofs.measure_cos.Reads as measure-cos

pub measure-cos-determined : (κs : _) (a : _) → Determined (measure-cos.Post κs a) (λ r x. r)
measure-cos-determined κs a r r' x x' p q = p ∙ sym q
