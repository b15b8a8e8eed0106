-- The lesser is added to one sum and the greater to the other.
use Rattle.distance_sums.specs.Dense.{shares_with}
use Rattle.jaccard.proofs.sums.JaccardSums32.with_number.Goals as goal

pub returns : goal.returns
unfolding shares_with
returns c = rw (c.lesser32.ensures, c.greater32.ensures)
