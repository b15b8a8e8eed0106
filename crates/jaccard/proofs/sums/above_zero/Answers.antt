-- Each branch is a case of the definition.
use lib.Ieee.{of_bits}
use Rattle.jaccard.proofs.sums.above_zero.Goals as goal

pub returns-then-x : goal.returns-then-x
unfolding of_bits
returns-then-x c = rw c.if-x.true

pub returns-else-x : goal.returns-else-x
unfolding of_bits
returns-else-x c = rw c.if-x.false
