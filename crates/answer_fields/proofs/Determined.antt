-- Each contract determines its outcome, the number returned and every field: stated over the contract's own reading, so it changes with
-- the contract.
use mathlib.Core.Path.{◌∙◌, sym}
use mathlib.Core.List.{[]}
use Rattle.promises.specs.Determined.{Determined}
use Rattle.answer_fields.specs.Fields.{export_outcome}
use Rattle.answer_fields.proofs.blobs.report_view.Reads as report-view
use Rattle.answer_fields.proofs.blobs.report_written.Reads as report-written
use Rattle.answer_fields.proofs.blobs.report_converted.Reads as report-converted
use Rattle.answer_fields.proofs.pairs.report_distance.Reads as report-distance
use Rattle.answer_fields.proofs.pairs.report_nearer.Reads as report-nearer
use Rattle.answer_fields.proofs.files.report_vector.Reads as report-vector
use Rattle.answer_fields.proofs.files.report_fill.Reads as report-fill

pub report-view-determined : (κs : _) (a : _) → Determined (report-view.Post κs a) (λ r x. export_outcome r x.1.0.now [])
report-view-determined κs a r r' x x' p q = p ∙ sym q

pub report-written-determined : (κs : _) (a : _) → Determined (report-written.Post κs a) (λ r x. export_outcome r x.1.0.now [])
report-written-determined κs a r r' x x' p q = p ∙ sym q

pub report-converted-determined : (κs : _) (a : _) → Determined (report-converted.Post κs a) (λ r x. export_outcome r x.1.0.now [])
report-converted-determined κs a r r' x x' p q = p ∙ sym q

pub report-distance-determined : (κs : _) (a : _) → Determined (report-distance.Post κs a) (λ r x. export_outcome r x.1.0.now [])
report-distance-determined κs a r r' x x' p q = p ∙ sym q

pub report-nearer-determined : (κs : _) (a : _) → Determined (report-nearer.Post κs a) (λ r x. export_outcome r x.1.0.now [])
report-nearer-determined κs a r r' x x' p q = p ∙ sym q

pub report-vector-determined : (κs : _) (a : _) → Determined (report-vector.Post κs a) (λ r x. export_outcome r x.1.0.now [])
report-vector-determined κs a r r' x x' p q = p ∙ sym q

pub report-fill-determined : (κs : _) (a : _) → Determined (report-fill.Post κs a) (λ r x. export_outcome r x.1.0.now [])
report-fill-determined κs a r r' x x' p q = p ∙ sym q
