-- Determinism of the public contracts: stated over each contract's own reading, so it changes with the contract.
use mathlib.Core.Path.{◌∙◌, sym}
use Rattle.promises.specs.Determined.{Determined}
use Rattle.bodies.specs.Entries.{entries_of}
use Rattle.bodies.proofs.Merging.{next-unique}
use Rattle.bodies.proofs.bits.bit_at.Reads as bit_at
use Rattle.bodies.proofs.bits.element.Reads as bit-element
use Rattle.bodies.proofs.float8.scale_of.Reads as scale_of
use Rattle.bodies.proofs.float8.Scale.element.Reads as scale-element
use Rattle.bodies.proofs.float8.Scale.widened.Reads as scale-widened
use Rattle.bodies.proofs.float8.WideScale.element.Reads as wide-element
use Rattle.bodies.proofs.sparse.next_turn.Reads as next-turn

pub bit-at-determined : (κs : _) (a : _) → Determined (bit_at.Post κs a) (λ r x. r)
bit-at-determined κs a r r' x x' p q = p ∙ sym q

pub bit-element-determined : (κs : _) (a : _) → Determined (bit-element.Post κs a) (λ r x. r)
bit-element-determined κs a r r' x x' p q = p ∙ sym q

pub scale-of-determined : (κs : _) (a : _) → Determined (scale_of.Post κs a) (λ r x. r)
scale-of-determined κs a r r' x x' p q = p ∙ sym q

pub scale-element-determined : (κs : _) (a : _) → Determined (scale-element.Post κs a) (λ r x. r)
scale-element-determined κs a r r' x x' p q = p ∙ sym q

pub scale-widened-determined : (κs : _) (a : _) → Determined (scale-widened.Post κs a) (λ r x. r)
scale-widened-determined κs a r r' x x' p q = p ∙ sym q

pub wide-element-determined : (κs : _) (a : _) → Determined (wide-element.Post κs a) (λ r x. r)
wide-element-determined κs a r r' x x' p q = p ∙ sym q

pub next-turn-determined : (κs : _) (a : _) → Determined (next-turn.Post κs a) (λ r x. r)
next-turn-determined κs a r r' x x' p q = next-unique (entries_of a.0.now) (entries_of a.1.1.1.0.now) a.1.1.0 a.1.1.1.1.1.0 r r' p q
