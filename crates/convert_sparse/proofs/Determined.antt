-- Determinism of the public contracts: stated over each contract's own reading, so it changes with the contract.
use mathlib.Core.Path.{◌∙◌, sym, ap₂}
use mathlib.Core.List.{List}
use Prim.Native.Nat.{ℕ}
use Rattle.promises.specs.Determined.{Determined}
use Rattle.convert_sparse.proofs.result_length.Reads as result-length
use Rattle.convert_sparse.proofs.scratch_length.Reads as scratch-length
use Rattle.convert_sparse.proofs.put_result.Reads as put-result

pub result-length-determined : (κs : _) (a : _) → Determined (result-length.Post κs a) (λ r x. r)
result-length-determined κs a r r' x x' p q = p ∙ sym q

pub scratch-length-determined : (κs : _) (a : _) → Determined (scratch-length.Post κs a) (λ r x. r)
scratch-length-determined κs a r r' x x' p q = p ∙ sym q

pub put-result-determined : (κs : _) (a : _) → Determined {Y = List ℕ × List ℕ} (put-result.Post κs a) (λ r x. (x.1.1.1.1.0.now, x.1.1.1.1.1.0.now))
put-result-determined κs a r r' x x' p q = ap₂ (λ (s : List ℕ) (o : List ℕ). (s, o)) (p.0 ∙ sym q.0) (p.1 ∙ sym q.1)
