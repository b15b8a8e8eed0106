-- The first tab ends the first field; with no tab the line is one field.
use Rattle.promises.proofs.Onto.{tail-lent}
use Rattle.lines.specs.Text.{tab}
use Rattle.lines.proofs.Parting.{parts-first, parts-one}
use Rattle.lines.proofs.text.split_field.Goals as goal

pub returns-in_err-end-clause-fields : goal.returns-in_err-end-clause-fields
returns-in_err-end-clause-fields c = rw c.from_residual.ensures (parts-one tab _ (c.in_err-end.ensures.value))

pub returns-clause-fields : goal.returns-clause-fields
returns-clause-fields c = rw tail-lent (parts-first tab _ (c.in_ok-end.ensures.value))
