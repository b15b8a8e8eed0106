-- The sum is that of the definition.
use mathlib.Core.Path.{refl}
use Rattle.distance_sums.specs.Dense.{dots_with}
use Rattle.distance_dot.proofs.dot_step.Goals as goal

pub returns : goal.returns
unfolding dots_with
returns c = refl
