-- The distance of two bodies of one kind and dims, where there is one.
use Rattle.std.specs.Prelude.{ℕ, List, Float}
use Rattle.std.proofs.Math.Option.{Option, some}
use Rattle.vector_types.specs.declared.VectorType.{VectorType}
use Rattle.distance_sums.specs.Values.{cosine_of, l2_of, dot_of, jaccard_of}
use Rattle.distance.specs.declared.Distance.{Distance}
use Rattle.distance.specs.declared.Distance.TheVariants.{Cos, L2, Dot, Jaccard}

-- a formula: of a kind, dims and two bodies the value, or none
abbrev pub Formula : Type 0
Formula = VectorType → ℕ → List ℕ → List ℕ → Option Float

unfoldable pub value_of : Distance → Formula
unfolding cosine_of l2_of dot_of jaccard_of
value_of Cos k d a b = some (cosine_of k d a b)
value_of L2 k d a b = l2_of k d a b
value_of Dot k d a b = some (dot_of k d a b)
value_of Jaccard k d a b = some (jaccard_of k d a b)
