-- What stands in the buffer is what the pieces read so far leave.
use Rattle.fvecs.proofs.FileRead.{FileRead}
use Rattle.fvecs.proofs.run.Given as goal

abbrev pub invariant-loop-piece : goal.invariant-loop-piece
invariant-loop-piece g l = FileRead l.input l.at l.end l.place l.before l.left 0x8000_0000_0000_0000

abbrev pub decreases-loop-piece : goal.decreases-loop-piece
decreases-loop-piece g l = l.left
