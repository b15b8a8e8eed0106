-- Each public contract determines its outcome, the answer and the bytes that were put: stated over the contract's own reading, so it changes with the contract.
-- Left out is `decoded`: it is room to work in, and what is in it afterwards is not promised.
use mathlib.Core.Path.{◌∙◌, sym}
use Rattle.promises.specs.Determined.{Determined}
use Rattle.vecdist_lines.proofs.asked_of.Reads as asked_of
use Rattle.vecdist_lines.proofs.put_value.Reads as put-value
use Rattle.vecdist_lines.proofs.put_named_refusal.Reads as put-named-refusal
use Rattle.vecdist_lines.proofs.answer.Reads as answer

pub asked-of-determined : (κs : _) (a : _) → Determined (asked_of.Post κs a) (λ r x. r)
asked-of-determined κs a r r' x x' p q = p ∙ sym q

pub put-value-determined : (g : _) (κs : _) (a : _) (v : _) → Determined (put-value.Post g κs a v) (λ r x. x.1.1.0.now)
put-value-determined g κs a v r r' x x' p q = p.0 ∙ sym q.0

pub put-named-refusal-determined : (g : _) (κs : _) (a : _) (v : _) → Determined (put-named-refusal.Post g κs a v) (λ r x. x.1.1.0.now)
put-named-refusal-determined g κs a v r r' x x' p q = p.0 ∙ sym q.0

pub answer-determined : (g : _) (κs : _) (a : _) (v : _) → Determined (answer.Post g κs a v) (λ r x. x.1.1.0.now)
answer-determined g κs a v r r' x x' p q = p.0 ∙ sym q.0
