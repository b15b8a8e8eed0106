-- X for a line of one field, or whose width names no root; else the reply of that root.
use Rattle.std.proofs.Common.{◌∙◌, refl}
use Rattle.probe_floats.proofs.Fields.{root-one, root-asked}
use Rattle.probe_floats.proofs.put_root_reply.Goals as goal

pub returns-in_err-width-clause-puts : goal.returns-in_err-width-clause-puts
returns-in_err-width-clause-puts g c = rw c.from_residual.ensures (root-one _ c.in_err-width.ensures.fields, refl)

pub returns-in_err-work-clause-puts : goal.returns-in_err-work-clause-puts
returns-in_err-work-clause-puts g c = rw c.from_residual-in_err-work.ensures (root-asked _ _ _ c.in_ok-width.ensures.fields c.in_err-work.ensures, refl)

pub returns-clause-puts : goal.returns-clause-puts
returns-clause-puts g c = rw (root-asked _ _ _ c.in_ok-width.ensures.fields c.in_ok-work.ensures) c.put_float_reply.ensures.puts
