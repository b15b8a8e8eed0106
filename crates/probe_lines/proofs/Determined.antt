-- The public contract determines its outcome, the bytes that were put: stated over the contract's own reading, so it changes with the contract.
-- Left out are the rooms: they are room to work in, and what is in them afterwards is not promised.
use mathlib.Core.Path.{◌∙◌, sym}
use Rattle.promises.specs.Determined.{Determined}
use Rattle.probe_lines.proofs.answer.Reads as answer

pub answer-determined : (g : _) (κs : _) (a : _) (v : _) → Determined (answer.Post g κs a v) (λ r x. x.1.1.0.now)
answer-determined g κs a v r r' x x' p q = p.0 ∙ sym q.0
