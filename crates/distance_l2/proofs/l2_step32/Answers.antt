-- The contract is what the code computes.
use mathlib.Core.Path.{refl}
use Rattle.distance_sums.specs.Dense.{squares_with}
use Rattle.distance_l2.proofs.l2_step32.Goals as goal

pub returns : goal.returns
unfolding squares_with
returns c = refl
