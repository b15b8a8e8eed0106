-- Each public contract determines its outcome, the bytes that were put: stated over the contract's own reading, so it changes with the contract.
use mathlib.Core.Path.{◌∙◌, sym}
use Rattle.promises.specs.Determined.{Determined}
use Rattle.probe_floats.proofs.float_line.Reads as Float-line
use Rattle.probe_floats.proofs.root_line.Reads as root_line

pub float-line-determined : (g : _) (κs : _) (a : _) (v : _) → Determined (Float-line.Post g κs a v) (λ r x. x.1.1.0.now)
float-line-determined g κs a v r r' x x' p q = p.0 ∙ sym q.0

pub root-line-determined : (g : _) (κs : _) (a : _) (v : _) → Determined (root_line.Post g κs a v) (λ r x. x.1.0.now)
root-line-determined g κs a v r r' x x' p q = p.0 ∙ sym q.0
