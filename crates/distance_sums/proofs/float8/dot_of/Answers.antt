-- By computation: the code has the terms in the definition's order.
use mathlib.Core.Path.{refl}
use Rattle.distance_sums.specs.Float8.{scaled_dot}
use Rattle.distance_sums.proofs.float8.dot_of.Goals as goal

pub returns : goal.returns
unfolding scaled_dot
returns c = refl
