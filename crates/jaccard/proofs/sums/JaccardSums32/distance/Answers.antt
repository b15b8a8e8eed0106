-- A sum of 0 gives NaN; else the quotient, widened as it is, is taken from 1.
use lib.Ieee.{div, of_bits}
use Rattle.distance_sums.specs.Dense.{jaccard_by}
use Rattle.jaccard.proofs.sums.JaccardSums32.distance.Goals as goal

pub returns-then-self : goal.returns-then-self
unfolding jaccard_by div of_bits
returns-then-self c = rw c.if-self.true

pub returns : goal.returns
unfolding jaccard_by of_bits
returns c = rw (c.if-self.false, c.widen.ensures)
