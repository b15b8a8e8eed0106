-- The public contract determines its outcome, the bytes that were put: stated over the contract's own reading, so it changes with the contract.
-- Left out is `rooms`: it is room to work in, and what is in it afterwards is not promised.
use mathlib.Core.Path.{◌∙◌, sym}
use Rattle.promises.specs.Determined.{Determined}
use Rattle.probe_vecs.proofs.file_line.Reads as file-line

pub file-line-determined : (g : _) (κs : _) (a : _) (v : _) → Determined (file-line.Post g κs a v) (λ r x. x.1.1.1.0.now)
file-line-determined g κs a v r r' x x' p q = p.0 ∙ sym q.0
