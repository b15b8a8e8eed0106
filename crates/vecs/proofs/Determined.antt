-- Determinism of the public contracts: any two outcomes agree in the answer, every byte of the buffer, the part shown and where it points.
use mathlib.Core.Path.{ap₂, ◌∙◌, sym}
use Rattle.promises.specs.Determined.{Determined}
use Rattle.vector_types.proofs.Determined.{part}
use Rattle.vecs.specs.Vecs.{vecs_leaving}
use Rattle.vecs.specs.Append.{append_leaving}
use Rattle.vecs.proofs.reading.fvecs_at.Reads as fvecs-at
use Rattle.vecs.proofs.reading.fvecs_part.Reads as fvecs-part
use Rattle.vecs.proofs.reading.bvecs_at.Reads as bvecs-at
use Rattle.vecs.proofs.appending.fvecs_append.Reads as fvecs-append

pub fvecs-at-determined : (κs : _) (a : _) → Determined (fvecs-at.Post κs a) (λ r x. r)
fvecs-at-determined κs a r r' x x' p q = p ∙ sym q

pub fvecs-part-determined : (κs : _) (a : _) → Determined (fvecs-part.Post κs a) (λ r x. part r.now r.ref_ptr)
fvecs-part-determined κs a r r' x x' p q = ap₂ part (p.0 ∙ sym q.0) (p.1 ∙ sym q.1)

pub bvecs-at-determined : (κs : _) (a : _) → Determined (bvecs-at.Post κs a) (λ r x. vecs_leaving r x.1.1.0.now)
bvecs-at-determined κs a r r' x x' p q = p ∙ sym q

pub fvecs-append-determined : (κs : _) (a : _) → Determined (fvecs-append.Post κs a) (λ r x. append_leaving r x.1.0.now)
fvecs-append-determined κs a r r' x x' p q = p ∙ sym q
