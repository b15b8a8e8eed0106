-- Determinism of the public contracts: stated over each contract's own reading, so it changes with the contract.
use Rattle.std.specs.Prelude.{ℕ, List}
use mathlib.Core.Path.{◌∙◌, sym}
use Rattle.promises.specs.Determined.{Determined}
use Rattle.promises.proofs.Puts.{puts-determined}
use Rattle.byte_slices.proofs.copy.Reads as copy
use Rattle.byte_slices.proofs.find.Reads as find

pub copy-determined : (κs : _) (a : _) → Determined {Y = ℕ × List ℕ} (copy.Post κs a) (λ r x. (r, x.1.0.now))
copy-determined κs a r r' x x' p q = puts-determined p q

pub find-determined : (κs : _) (a : _) → Determined (find.Post κs a) (λ r x. r)
find-determined κs a r r' x x' p q = p.0 ∙ sym q.0
