-- Both sums are 0.0.
use mathlib.Core.Path.{refl}
use lib.Ieee.{of_bits}
use Rattle.jaccard.proofs.sums.JaccardSums64.new.Goals as goal

pub returns : goal.returns
unfolding of_bits
returns c = refl
