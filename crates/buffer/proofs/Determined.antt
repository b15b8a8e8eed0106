-- Each public contract determines its outcome: the answer, and the bytes that were put.
use mathlib.Core.Path.{◌∙◌, sym}
use Rattle.promises.specs.Determined.{Determined}
use Rattle.buffer.proofs.Buffer.new.Reads as new
use Rattle.buffer.proofs.Buffer.len.Reads as len
use Rattle.buffer.proofs.Buffer.is_empty.Reads as is-empty
use Rattle.buffer.proofs.Buffer.room.Reads as room
use Rattle.buffer.proofs.Buffer.as_slice.Reads as as-slice
use Rattle.buffer.proofs.Buffer.clear.Reads as clear
use Rattle.buffer.proofs.Buffer.truncate.Reads as truncate
use Rattle.buffer.proofs.Buffer.push.Reads as push
use Rattle.buffer.proofs.Buffer.extend_from_slice.Reads as extend-from-slice
use Rattle.buffer.proofs.Buffer.extend_from.Reads as extend-from

pub new-determined : (g : _) (κs : _) (a : _) (v : _) → Determined (new.Post g κs a v) (λ r x. r)
new-determined g κs a v r r' x x' p q = p ∙ sym q

pub len-determined : (g : _) (κs : _) (a : _) (v : _) → Determined (len.Post g κs a v) (λ r x. r)
len-determined g κs a v r r' x x' p q = p.0 ∙ sym q.0

pub is-empty-determined : (g : _) (κs : _) (a : _) (v : _) → Determined (is-empty.Post g κs a v) (λ r x. r)
is-empty-determined g κs a v r r' x x' p q = p ∙ sym q

pub room-determined : (g : _) (κs : _) (a : _) (v : _) → Determined (room.Post g κs a v) (λ r x. r)
room-determined g κs a v r r' x x' p q = p ∙ sym q

pub as-slice-determined : (g : _) (κs : _) (a : _) (v : _) → Determined (as-slice.Post g κs a v) (λ r x. r.now)
as-slice-determined g κs a v r r' x x' p q = p ∙ sym q

pub clear-determined : (g : _) (κs : _) (a : _) (v : _) → Determined (clear.Post g κs a v) (λ r x. x.0.now)
clear-determined g κs a v r r' x x' p q = p ∙ sym q

pub truncate-determined : (g : _) (κs : _) (a : _) (v : _) → Determined (truncate.Post g κs a v) (λ r x. x.0.now)
truncate-determined g κs a v r r' x x' p q = p ∙ sym q

pub push-determined : (g : _) (κs : _) (a : _) (v : _) → Determined (push.Post g κs a v) (λ r x. x.0.now)
push-determined g κs a v r r' x x' p q = p ∙ sym q

pub extend-from-slice-determined : (g : _) (κs : _) (a : _) (v : _) → Determined (extend-from-slice.Post g κs a v) (λ r x. x.0.now)
extend-from-slice-determined g κs a v r r' x x' p q = p ∙ sym q

pub extend-from-determined : (g : _) (b : _) (c : _) (d : _) (κs : _) (e : _) (a : _) (v : _) → Determined (extend-from.Post g b c d κs e a v) (λ r x. x.0.now)
extend-from-determined g b c d κs e a v r r' x x' p q = p ∙ sym q
