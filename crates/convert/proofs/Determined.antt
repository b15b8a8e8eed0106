-- Determinism of the public contract, the answer and every byte of scratch and of out: stated over the contract's own reading, so it changes with the contract.
use mathlib.Core.Path.{◌∙◌, sym}
use Rattle.promises.specs.Determined.{Determined}
use Rattle.convert.specs.Convert.{convert_leaving}
use Rattle.convert.proofs.convert.Reads as convert

pub convert-determined : (κs : _) (a : _) → Determined (convert.Post κs a) (λ r x. convert_leaving r x.1.1.0.now x.1.1.1.0.now)
convert-determined κs a r r' x x' p q = p ∙ sym q
