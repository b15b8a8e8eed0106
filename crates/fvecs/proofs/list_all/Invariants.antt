-- The vectors before the rest are listed.
use Rattle.std.proofs.Common.{length}
use Rattle.fvecs.proofs.ListingAll.{TextListedUpTo}
use Rattle.fvecs.proofs.list_all.Given as goal

abbrev pub invariant-loop-after : goal.invariant-loop-after
invariant-loop-after g l = TextListedUpTo l.text l.initial.number l.rest l.number

abbrev pub decreases-loop-after : goal.decreases-loop-after
decreases-loop-after g l = length l.rest
