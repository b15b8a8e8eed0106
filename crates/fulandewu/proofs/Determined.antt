-- Each export's contract determines its outcome, the number returned, every field and every lent byte: stated over the contract's own
-- reading, so it changes with the contract.
use mathlib.Core.Path.{◌∙◌, sym}
use mathlib.Core.List.{[], ◌∷◌}
use Rattle.promises.specs.Determined.{Determined}
use Rattle.answer_fields.specs.Fields.{export_outcome}
use Rattle.fulandewu.proofs.reading.fulandewu_read.Reads as read
use Rattle.fulandewu.proofs.writing.fulandewu_write.Reads as write
use Rattle.fulandewu.proofs.converting.fulandewu_convert.Reads as convert
use Rattle.fulandewu.proofs.distances.fulandewu_distance_cos.Reads as distance-cos
use Rattle.fulandewu.proofs.distances.fulandewu_distance_l2.Reads as distance-l2
use Rattle.fulandewu.proofs.distances.fulandewu_distance_dot.Reads as distance-dot
use Rattle.fulandewu.proofs.distances.fulandewu_distance_jaccard.Reads as distance-jaccard
use Rattle.fulandewu.proofs.nearest.fulandewu_nearer_cos.Reads as nearer-cos
use Rattle.fulandewu.proofs.nearest.fulandewu_nearer_l2.Reads as nearer-l2
use Rattle.fulandewu.proofs.nearest.fulandewu_nearer_dot.Reads as nearer-dot
use Rattle.fulandewu.proofs.nearest.fulandewu_nearer_jaccard.Reads as nearer-jaccard
use Rattle.fulandewu.proofs.vecs_files.fulandewu_fvecs_read.Reads as fvecs-read
use Rattle.fulandewu.proofs.vecs_files.fulandewu_bvecs_read.Reads as bvecs-read
use Rattle.fulandewu.proofs.vecs_files.fulandewu_fvecs_append.Reads as fvecs-append

pub read-determined : (κs : _) (a : _) → Determined (read.Post κs a) (λ r x. export_outcome r x.1.1.0.now [])
read-determined κs a r r' x x' p q = p ∙ sym q

pub write-determined : (κs : _) (a : _) → Determined (write.Post κs a) (λ r x. export_outcome r x.1.1.1.1.0.now (x.1.1.1.0.now ∷ []))
write-determined κs a r r' x x' p q = p ∙ sym q

pub convert-determined : (κs : _) (a : _) → Determined (convert.Post κs a) (λ r x. export_outcome r x.1.1.1.1.0.now (x.1.1.0.now ∷ x.1.1.1.0.now ∷ []))
convert-determined κs a r r' x x' p q = p ∙ sym q

pub distance-cos-determined : (κs : _) (a : _) → Determined (distance-cos.Post κs a) (λ r x. export_outcome r x.1.1.0.now [])
distance-cos-determined κs a r r' x x' p q = p ∙ sym q

pub distance-l2-determined : (κs : _) (a : _) → Determined (distance-l2.Post κs a) (λ r x. export_outcome r x.1.1.0.now [])
distance-l2-determined κs a r r' x x' p q = p ∙ sym q

pub distance-dot-determined : (κs : _) (a : _) → Determined (distance-dot.Post κs a) (λ r x. export_outcome r x.1.1.0.now [])
distance-dot-determined κs a r r' x x' p q = p ∙ sym q

pub distance-jaccard-determined : (κs : _) (a : _) → Determined (distance-jaccard.Post κs a) (λ r x. export_outcome r x.1.1.0.now [])
distance-jaccard-determined κs a r r' x x' p q = p ∙ sym q

pub nearer-cos-determined : (κs : _) (a : _) → Determined (nearer-cos.Post κs a) (λ r x. export_outcome r x.1.1.1.0.now [])
nearer-cos-determined κs a r r' x x' p q = p ∙ sym q

pub nearer-l2-determined : (κs : _) (a : _) → Determined (nearer-l2.Post κs a) (λ r x. export_outcome r x.1.1.1.0.now [])
nearer-l2-determined κs a r r' x x' p q = p ∙ sym q

pub nearer-dot-determined : (κs : _) (a : _) → Determined (nearer-dot.Post κs a) (λ r x. export_outcome r x.1.1.1.0.now [])
nearer-dot-determined κs a r r' x x' p q = p ∙ sym q

pub nearer-jaccard-determined : (κs : _) (a : _) → Determined (nearer-jaccard.Post κs a) (λ r x. export_outcome r x.1.1.1.0.now [])
nearer-jaccard-determined κs a r r' x x' p q = p ∙ sym q

pub fvecs-read-determined : (κs : _) (a : _) → Determined (fvecs-read.Post κs a) (λ r x. export_outcome r x.1.1.0.now [])
fvecs-read-determined κs a r r' x x' p q = p ∙ sym q

pub bvecs-read-determined : (κs : _) (a : _) → Determined (bvecs-read.Post κs a) (λ r x. export_outcome r x.1.1.1.0.now (x.1.1.0.now ∷ []))
bvecs-read-determined κs a r r' x x' p q = p ∙ sym q

pub fvecs-append-determined : (κs : _) (a : _) → Determined (fvecs-append.Post κs a) (λ r x. export_outcome r x.1.1.1.0.now (x.1.0.now ∷ []))
fvecs-append-determined κs a r r' x x' p q = p ∙ sym q
