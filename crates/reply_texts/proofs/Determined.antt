-- Each public contract determines its outcome, the bytes that were put: stated over the contract's own reading, so it changes with the contract.
use mathlib.Core.Path.{◌∙◌, sym}
use Rattle.promises.specs.Determined.{Determined}
use Rattle.reply_texts.proofs.put_counted.Reads as put-counted
use Rattle.reply_texts.proofs.put_detail.Reads as put-detail
use Rattle.reply_texts.proofs.put_field.Reads as put-field
use Rattle.reply_texts.proofs.put_refusal.Reads as put-refusal
use Rattle.reply_texts.proofs.put_shown.Reads as put-shown

pub put-counted-determined : (g : _) (κs : _) (a : _) (v : _) → Determined (put-counted.Post g κs a v) (λ r x. x.1.1.1.1.1.0.now)
put-counted-determined g κs a v r r' x x' p q = p.0 ∙ sym q.0

pub put-detail-determined : (g : _) (κs : _) (a : _) (v : _) → Determined (put-detail.Post g κs a v) (λ r x. x.1.0.now)
put-detail-determined g κs a v r r' x x' p q = p.0 ∙ sym q.0

pub put-field-determined : (g : _) (κs : _) (a : _) (v : _) → Determined (put-field.Post g κs a v) (λ r x. x.1.0.now)
put-field-determined g κs a v r r' x x' p q = p.0 ∙ sym q.0

pub put-refusal-determined : (g : _) (κs : _) (a : _) (v : _) → Determined (put-refusal.Post g κs a v) (λ r x. x.1.0.now)
put-refusal-determined g κs a v r r' x x' p q = p.0 ∙ sym q.0

pub put-shown-determined : (g : _) (κs : _) (a : _) (v : _) → Determined (put-shown.Post g κs a v) (λ r x. x.1.1.1.1.0.now)
put-shown-determined g κs a v r r' x x' p q = p.0 ∙ sym q.0
