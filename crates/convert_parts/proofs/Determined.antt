-- Determinism of the public contracts: stated over each contract's own reading, so it changes with the contract.
use mathlib.Core.Path.{◌∙◌, sym, ap₂}
use mathlib.Core.List.{List}
use Prim.Native.Nat.{ℕ}
use Rattle.promises.specs.Determined.{Determined}
use Rattle.convert_parts.proofs.filling.put_zeros.Reads as put-zeros
use Rattle.convert_parts.proofs.filling.put_copy.Reads as put_copy
use Rattle.convert_parts.proofs.entries.put_entry.Reads as put-entry
use Rattle.convert_parts.proofs.bits.weighed.Reads as weighed
use Rattle.convert_parts.proofs.quantized.no_range.Reads as no-range
use Rattle.convert_parts.proofs.quantized.Range.wider.Reads as wider
use Rattle.convert_parts.proofs.quantized.scale_for.Reads as scale-for
use Rattle.convert_parts.proofs.quantized.quantize.Reads as quantize
use Rattle.convert_parts.proofs.quantized.put_end.Reads as put-end

pub put-zeros-determined : (κs : _) (a : _) → Determined (put-zeros.Post κs a) (λ r x. x.1.0.now)
put-zeros-determined κs a r r' x x' p q = p ∙ sym q

pub put-copy-determined : (κs : _) (a : _) → Determined (put_copy.Post κs a) (λ r x. x.1.0.now)
put-copy-determined κs a r r' x x' p q = p ∙ sym q

pub put-entry-determined : (κs : _) (a : _) → Determined {Y = ℕ × List ℕ} (put-entry.Post κs a) (λ r x. (r, x.1.1.1.1.1.0.now))
put-entry-determined κs a r r' x x' p q = ap₂ (λ (n : ℕ) (o : List ℕ). (n, o)) (p.0 ∙ sym q.0) (p.1 ∙ sym q.1)

pub weighed-determined : (κs : _) (a : _) → Determined (weighed.Post κs a) (λ r x. r)
weighed-determined κs a r r' x x' p q = p ∙ sym q

pub no-range-determined : (κs : _) (a : _) → Determined (no-range.Post κs a) (λ r x. r)
no-range-determined κs a r r' x x' p q = p ∙ sym q

pub wider-determined : (κs : _) (a : _) → Determined (wider.Post κs a) (λ r x. r)
wider-determined κs a r r' x x' p q = p ∙ sym q

pub scale-for-determined : (κs : _) (a : _) → Determined (scale-for.Post κs a) (λ r x. r)
scale-for-determined κs a r r' x x' p q = p ∙ sym q

pub quantize-determined : (κs : _) (a : _) → Determined (quantize.Post κs a) (λ r x. r)
quantize-determined κs a r r' x x' p q = p ∙ sym q

pub put-end-determined : (κs : _) (a : _) → Determined (put-end.Post κs a) (λ r x. x.1.1.0.now)
put-end-determined κs a r r' x x' p q = p ∙ sym q
