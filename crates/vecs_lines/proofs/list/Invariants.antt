-- The vectors before the rest are listed.
use Rattle.std.proofs.Common.{length}
use Rattle.vecs_lines.proofs.Listing.{ListedUpTo}
use Rattle.vecs_lines.proofs.list.Given as goal

abbrev pub invariant-loop-size : goal.invariant-loop-size
invariant-loop-size g l = ListedUpTo g.row.N l.text l.initial.before l.initial.out l.rest l.number l.out

abbrev pub decreases-loop-size : goal.decreases-loop-size
decreases-loop-size g l = length l.rest
