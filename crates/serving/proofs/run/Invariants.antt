-- What stands in the buffer is what the pieces read so far leave.
use Rattle.lines.specs.Printed.{limited}
use Rattle.line_stream.specs.Inner.Rooms.{most_kept}
use Rattle.line_stream.proofs.InputRead.{InputRead}
use Rattle.serving.proofs.run.Given as goal

abbrev pub invariant-loop-text : goal.invariant-loop-text
invariant-loop-text g l = InputRead (limited g.R.Replies.LIMIT g.R.Replies.reply_to) (most_kept g.R.Replies.LIMIT) l.input l.at l.end l.before l.left 0x8000_0000_0000_0000

abbrev pub decreases-loop-text : goal.decreases-loop-text
decreases-loop-text g l = l.left
