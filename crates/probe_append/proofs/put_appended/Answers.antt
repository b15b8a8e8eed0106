-- The new fill and the buffer are put, or the refusal.
use Rattle.probe_append.specs.Appending.{append_text}
use Rattle.probe_append.proofs.put_appended.Goals as goal

pub returns-in-Ok-clause-puts : goal.returns-in-Ok-clause-puts
unfolding append_text
returns-in-Ok-clause-puts g c = rw (← c.in-Ok.ensures) c.put_filled.ensures.puts

pub returns-in-Err-clause-puts : goal.returns-in-Err-clause-puts
unfolding append_text
returns-in-Err-clause-puts g c = rw (← c.in-Err.ensures) c.put_refusal.ensures.puts
