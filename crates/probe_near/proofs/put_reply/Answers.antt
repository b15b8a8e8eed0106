-- X for a line that is no four fields, or where one of these names nothing; else which candidate is nearer.
use Rattle.std.proofs.Common.{◌∙◌, refl}
use Rattle.lines.proofs.Fields.{from-hex-none, from-hex-some}
use Rattle.probe_near.proofs.Replies.{reply-one, reply-two, reply-three, reply-asked, first-none, second-none}
use Rattle.probe_near.proofs.put_reply.Goals as goal

pub returns-in_err-field-clause-puts : goal.returns-in_err-field-clause-puts
returns-in_err-field-clause-puts g c = rw c.from_residual.ensures (reply-one _ c.in_err-field.ensures.fields, refl)

pub returns-in_err-probe-clause-puts : goal.returns-in_err-probe-clause-puts
returns-in_err-probe-clause-puts g c = rw c.from_residual-in_err-probe.ensures (reply-two _ _ _ c.in_ok-field.ensures.fields c.in_err-probe.ensures.fields, refl)

pub returns-in_err-first-clause-puts : goal.returns-in_err-first-clause-puts
returns-in_err-first-clause-puts g c = rw c.from_residual-in_err-first.ensures (reply-three _ _ _ _ _ c.in_ok-field.ensures.fields c.in_ok-probe.ensures.fields c.in_err-first.ensures.fields, refl)

pub returns-in_err-distance-clause-puts : goal.returns-in_err-distance-clause-puts
returns-in_err-distance-clause-puts g c = rw c.from_residual-in_err-distance.ensures (reply-asked _ _ _ _ _ c.in_ok-field.ensures.fields c.in_ok-probe.ensures.fields _ _ c.in_ok-first.ensures.fields c.in_err-distance.ensures, refl)

pub returns-in_err-p-clause-puts : goal.returns-in_err-p-clause-puts
returns-in_err-p-clause-puts g c = rw c.from_residual-in_err-p.ensures (reply-asked _ _ _ _ _ c.in_ok-field.ensures.fields c.in_ok-probe.ensures.fields _ _ c.in_ok-first.ensures.fields c.in_ok-distance.ensures ∙ from-hex-none _ _ c.in_err-p.ensures, refl)

pub returns-in_err-a-clause-puts : goal.returns-in_err-a-clause-puts
returns-in_err-a-clause-puts g c = rw c.from_residual-in_err-a.ensures (reply-asked _ _ _ _ _ c.in_ok-field.ensures.fields c.in_ok-probe.ensures.fields _ _ c.in_ok-first.ensures.fields c.in_ok-distance.ensures ∙ first-none _ _ _ _ c.in_err-a.ensures, refl)

pub returns-in_err-b-clause-puts : goal.returns-in_err-b-clause-puts
returns-in_err-b-clause-puts g c = rw c.from_residual-in_err-b.ensures (reply-asked _ _ _ _ _ c.in_ok-field.ensures.fields c.in_ok-probe.ensures.fields _ _ c.in_ok-first.ensures.fields c.in_ok-distance.ensures ∙ second-none _ _ _ _ c.in_err-b.ensures, refl)

pub returns-clause-puts : goal.returns-clause-puts
returns-clause-puts g c =
    let asked = reply-asked _ _ _ _ _ c.in_ok-field.ensures.fields c.in_ok-probe.ensures.fields _ _ c.in_ok-first.ensures.fields c.in_ok-distance.ensures in
    let blobs = from-hex-some _ _ c.in_ok-p.ensures ∙ from-hex-some _ _ c.in_ok-a.ensures ∙ from-hex-some _ _ c.in_ok-b.ensures in
    rw (asked ∙ blobs, ← c.nearer.ensures) c.put_nearer.ensures.puts
