-- The root of the merge's sum.
use mathlib.Core.Path.{ap, ◌∙◌}
use Rattle.distance_sums.specs.Dense.{l2_by}
use Rattle.distance_l2.proofs.vector_f32_sparse_distance_l2.Goals as goal

pub returns : goal.returns
returns c = c.root_of.ensures ∙ ap l2_by (c.widen.ensures ∙ c.sparse_sum-sum.ensures)
