-- X for a line of one field, or whose first names no verb; else the reply of that verb.
use Rattle.std.proofs.Common.{refl}
use Rattle.probe_lines.proofs.Fields.{reply-one, reply-asked}
use Rattle.probe_lines.proofs.put_reply.Goals as goal

pub returns-in_err-word-clause-puts : goal.returns-in_err-word-clause-puts
returns-in_err-word-clause-puts g c = rw c.from_residual.ensures (reply-one _ c.in_err-word.ensures.fields, refl)

pub returns-in_err-verb-clause-puts : goal.returns-in_err-verb-clause-puts
returns-in_err-verb-clause-puts g c =
    rw c.from_residual-in_err-verb.ensures (reply-asked _ _ _ c.in_ok-word.ensures.fields c.in_err-verb.ensures, refl)

pub returns-clause-puts : goal.returns-clause-puts
returns-clause-puts g c = rw (reply-asked _ _ _ c.in_ok-word.ensures.fields c.in_ok-verb.ensures) c.put_reply_to.ensures.puts
