-- By the test the first is a number, or NaN.
use Rattle.jaccard.proofs.Tested.{nan-value}
use Rattle.jaccard.proofs.sums.JaccardSums64.step.Goals as goal

pub returns-else-x : goal.returns-else-x
returns-else-x c = rw (nan-value _ c.if-x.false) c.with_nan.ensures
