-- The lesser is added to one sum and the greater to the other.
use Rattle.distance_sums.specs.Dense.{shares_with}
use Rattle.jaccard.proofs.sums.JaccardSums64.with_number.Goals as goal

pub returns : goal.returns
unfolding shares_with
returns c = rw (c.lesser64.ensures, c.greater64.ensures)
