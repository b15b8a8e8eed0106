-- The lines up to `at` are served, and the next one's end is looked for from `from` on.
use Rattle.std.proofs.Common.{◌-◌, length}
use Rattle.lines.specs.Printed.{limited}
use Rattle.line_stream.specs.Inner.Rooms.{numbered_room}
use Rattle.line_stream.proofs.Serving.{LookedUpTo, LinesServed}
use Rattle.serving.proofs.serve.Given as goal

abbrev pub invariant-loop-n : goal.invariant-loop-n
invariant-loop-n g l =
    LinesServed (limited g.R.Replies.LIMIT g.R.Replies.reply_to) (numbered_room g.R.Replies.ROOM) l.text l.initial.before g.row.N l.out l.at l.before
    × LookedUpTo l.text l.at l.from

abbrev pub decreases-loop-n : goal.decreases-loop-n
decreases-loop-n g l = length l.text - l.at
