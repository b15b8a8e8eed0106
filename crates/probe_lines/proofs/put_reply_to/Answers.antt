-- A pattern and a blob are the last field of their lines.
use Rattle.probe_floats.proofs.Fields.{float-last}
use Rattle.probe_blobs.proofs.BlobTexts.{read-last}
use Rattle.probe_lines.specs.Line.{verb_reply}
use Rattle.probe_lines.proofs.put_reply_to.Goals as goal

pub returns-in-Float-clause-puts : goal.returns-in-Float-clause-puts
unfolding verb_reply
returns-in-Float-clause-puts g c = rw (c.in-Float.is, float-last c.in-Float.work c.args.rest.now) c.float_line.ensures.puts

pub returns-in-Read-clause-puts : goal.returns-in-Read-clause-puts
unfolding verb_reply
returns-in-Read-clause-puts g c = rw (c.in-Read.is, read-last c.in-Read.mode c.args.rest.now) c.read_line.ensures.puts
