-- X for a line that is no three fields, or where one of these names nothing; else the distance of the blobs.
use Rattle.std.proofs.Common.{◌∙◌, refl}
use Rattle.lines.proofs.Fields.{from-hex-none, from-hex-some}
use Rattle.vecdist_lines.proofs.Replies.{measured-none, reply-one, reply-two, reply-asked}
use Rattle.vecdist_lines.proofs.put_reply.Goals as goal

pub returns-in_err-field-clause-puts : goal.returns-in_err-field-clause-puts
returns-in_err-field-clause-puts g c = rw c.from_residual.ensures (reply-one _ c.in_err-field.ensures.fields, refl)

pub returns-in_err-first-clause-puts : goal.returns-in_err-first-clause-puts
returns-in_err-first-clause-puts g c = rw c.from_residual-in_err-first.ensures (reply-two _ _ _ c.in_ok-field.ensures.fields c.in_err-first.ensures.fields, refl)

pub returns-in_err-distance-clause-puts : goal.returns-in_err-distance-clause-puts
returns-in_err-distance-clause-puts g c =
    rw c.from_residual-in_err-distance.ensures (reply-asked _ _ _ _ _ c.in_ok-field.ensures.fields c.in_ok-first.ensures.fields c.in_err-distance.ensures, refl)

pub returns-in_err-a-clause-puts : goal.returns-in_err-a-clause-puts
returns-in_err-a-clause-puts g c =
    let asked = reply-asked _ _ _ _ _ c.in_ok-field.ensures.fields c.in_ok-first.ensures.fields c.in_ok-distance.ensures in
    rw c.from_residual-in_err-a.ensures (asked ∙ from-hex-none _ _ c.in_err-a.ensures, refl)

pub returns-in_err-b-clause-puts : goal.returns-in_err-b-clause-puts
returns-in_err-b-clause-puts g c =
    let asked = reply-asked _ _ _ _ _ c.in_ok-field.ensures.fields c.in_ok-first.ensures.fields c.in_ok-distance.ensures in
    rw c.from_residual-in_err-b.ensures (asked ∙ measured-none _ _ _ c.in_err-b.ensures, refl)

pub returns-clause-puts : goal.returns-clause-puts
returns-clause-puts g c =
    let asked = reply-asked _ _ _ _ _ c.in_ok-field.ensures.fields c.in_ok-first.ensures.fields c.in_ok-distance.ensures in
    let blobs = from-hex-some _ _ c.in_ok-a.ensures ∙ from-hex-some _ _ c.in_ok-b.ensures in
    rw (asked ∙ blobs, ← c.vector_distance.ensures) c.put_answer.ensures.puts
