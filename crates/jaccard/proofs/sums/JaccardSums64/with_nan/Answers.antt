-- By the definition: a NaN does not equal itself.
use mathlib.Core.Path.{refl}
use lib.Ieee.{eq}
use Rattle.distance_sums.specs.Extremes.{lesser, greater}
use Rattle.distance_sums.specs.Dense.{shares_with}
use Rattle.jaccard.proofs.sums.JaccardSums64.with_nan.Goals as goal

pub returns : goal.returns
unfolding shares_with lesser greater eq
returns c = refl
