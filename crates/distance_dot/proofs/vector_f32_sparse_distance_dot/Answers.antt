-- The merge's sum, negated.
use mathlib.Core.Path.{ap}
use Rattle.distance_sums.specs.Dense.{dot_by}
use Rattle.distance_dot.proofs.vector_f32_sparse_distance_dot.Goals as goal

pub returns : goal.returns
returns c = ap dot_by c.sparse_sum-sum.ensures
