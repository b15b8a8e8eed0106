-- Each public contract determines its outcome, the answer and the bytes that were put: stated over the contract's own reading, so it changes with the contract.
-- Left out are `decoded` and `rooms`: they are room to work in, and what is in them afterwards is not promised.
use mathlib.Core.Path.{◌∙◌, sym, refl}
use mathlib.Core.List.{List}
use Prim.Native.Nat.{ℕ}
use Rattle.promises.specs.Determined.{Determined}
use Rattle.probe_blobs.proofs.WorkRooms.new.Reads as new
use Rattle.probe_blobs.proofs.kind_of.Reads as kind-of
use Rattle.probe_blobs.proofs.read_line.Reads as read-line
use Rattle.probe_blobs.proofs.convert_line.Reads as convert_line

pub new-determined : (κs : _) (a : _) → Determined {Y = List ℕ × List ℕ × List ℕ} (new.Post κs a) (λ r x. (r.decoded, r.scratch, r.made))
new-determined κs a r r' x x' p q = rw (p.0, p.1.0, p.1.1, q.0, q.1.0, q.1.1) refl

pub kind-of-determined : (κs : _) (a : _) → Determined (kind-of.Post κs a) (λ r x. r)
kind-of-determined κs a r r' x x' p q = p ∙ sym q

pub read-line-determined : (g : _) (κs : _) (a : _) (v : _) → Determined (read-line.Post g κs a v) (λ r x. x.1.1.1.0.now)
read-line-determined g κs a v r r' x x' p q = p.0 ∙ sym q.0

pub convert-line-determined : (g : _) (κs : _) (a : _) (v : _) → Determined (convert_line.Post g κs a v) (λ r x. x.1.1.0.now)
convert-line-determined g κs a v r r' x x' p q = p.0 ∙ sym q.0
