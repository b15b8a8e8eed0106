-- The distance of the merge's sums.
use mathlib.Core.Path.{ap, ◌∙◌}
use Rattle.distance_sums.specs.Sparse.{sparse_cosine}
use Rattle.distance_cos.proofs.vector_f32_sparse_distance_cos.Goals as goal

pub returns : goal.returns
returns c = c.sparse_distance.ensures ∙ ap sparse_cosine c.sparse_sums-sums.ensures
