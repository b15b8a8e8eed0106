-- The public contract determines its answer: stated over the contract's own reading, so it changes with the contract.
use mathlib.Core.Path.{◌∙◌, sym}
use Rattle.promises.specs.Determined.{Determined}
use Rattle.probe_verbs.proofs.verb_of.Reads as verb-of

pub verb-of-determined : (κs : _) (a : _) → Determined (verb-of.Post κs a) (λ r x. r)
verb-of-determined κs a r r' x x' p q = p ∙ sym q
