-- The distance of the merge's sums.
use mathlib.Core.Path.{ap, ◌∙◌}
use lib.Ieee.{binary32}
use Rattle.distance_sums.specs.Dense.{jaccard_by}
use Rattle.jaccard.proofs.vector_f32_sparse_distance_jaccard.Goals as goal

pub returns : goal.returns
returns c = c.distance.ensures ∙ ap (jaccard_by binary32) c.sparse_sums-sums.ensures
