-- By computation: the code has the terms in the definition's order.
use mathlib.Core.Path.{refl}
use lib.Ieee.{of_bits}
use Rattle.distance_sums.specs.Float8.{scaled_norm}
use Rattle.distance_sums.proofs.float8.norm_of.Goals as goal

pub returns : goal.returns
unfolding scaled_norm of_bits
returns c = refl
