-- Determinism of the public contracts: stated over each contract's own reading, so it changes with the contract.
use mathlib.Core.Path.{◌∙◌, sym}
use Rattle.promises.specs.Determined.{Determined}
use Rattle.convert_1bit.proofs.result_length.Reads as result-length
use Rattle.convert_1bit.proofs.put_result.Reads as put-result

pub result-length-determined : (κs : _) (a : _) → Determined (result-length.Post κs a) (λ r x. r)
result-length-determined κs a r r' x x' p q = p ∙ sym q

pub put-result-determined : (κs : _) (a : _) → Determined (put-result.Post κs a) (λ r x. x.1.1.1.0.now)
put-result-determined κs a r r' x x' p q = p ∙ sym q
