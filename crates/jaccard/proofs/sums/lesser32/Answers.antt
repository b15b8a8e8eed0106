-- Each branch is a case of the definition.
use Rattle.distance_sums.specs.Extremes.{lesser}
use Rattle.jaccard.proofs.sums.lesser32.Goals as goal

pub returns-then-y-x : goal.returns-then-y-x
unfolding lesser
returns-then-y-x c = rw (c.requires, c.if-y-x.true)

pub returns-else-y-x : goal.returns-else-y-x
unfolding lesser
returns-else-y-x c = rw (c.requires, c.if-y-x.false)
