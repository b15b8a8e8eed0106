-- Each branch is a case of the definition.
use Rattle.distance_sums.specs.Extremes.{greater}
use Rattle.jaccard.proofs.sums.greater64.Goals as goal

pub returns-then-x-y : goal.returns-then-x-y
unfolding greater
returns-then-x-y c = rw (c.requires, c.if-x-y.true)

pub returns-else-x-y : goal.returns-else-x-y
unfolding greater
returns-else-x-y c = rw (c.requires, c.if-x-y.false)
