-- The three sums are those of the definition.
use mathlib.Core.Path.{refl}
use Rattle.distance_sums.specs.Dense.{products_with}
use Rattle.distance_cos.proofs.sums.CosSums64.step.Goals as goal

pub returns : goal.returns
unfolding products_with
returns c = refl
