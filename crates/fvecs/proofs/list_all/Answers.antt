-- Each turn lists vectors of the rest; where no more are left, all of the text are listed.
use Rattle.std.proofs.Common.{arith}
use borrow.Author.Tests.{not-true, not-false}
use Rattle.fvecs.proofs.ListingAll.{listed-within, more-listed, listing-shorter, all-listed}
use Rattle.fvecs.proofs.list_all.Goals as goal

pub split_at-requires : goal.split_at-requires
split_at-requires g c = listed-within c.list-listed.ensures

pub loop-after-preserved : goal.loop-after-preserved
loop-after-preserved g c = rw c.split_at.ensures.back (more-listed c.list-listed.ensures c.loop-after.invariant)

pub loop-after-smaller : goal.loop-after-smaller
loop-after-smaller g c = rw c.split_at.ensures.back (listing-shorter c.list-listed.ensures (rw c.clear.ensures (omega arith)) (not-false _ c.if-not-listed.false))

pub returns-then-not-listed-clause-lists_all : goal.returns-then-not-listed-clause-lists_all
returns-then-not-listed-clause-lists_all g c = rw c.split_at.ensures.back (all-listed c.list-listed.ensures c.loop-after.invariant (not-true _ c.if-not-listed.true))
