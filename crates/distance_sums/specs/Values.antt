-- The four distances of two bodies of one kind and dims: the section 'Distances' of docs/RULES.md, kind by kind.
use Rattle.std.specs.Prelude.{ℕ, List, Float}
use Rattle.std.proofs.Math.Option.{Option, none, some}
use Rattle.std.specs.Float.{binary32, binary64}
use Rattle.bodies.specs.Elements.{dense_element, float8_element}
use Rattle.vector_types.specs.declared.VectorType.{VectorType}
use Rattle.vector_types.specs.declared.VectorType.TheVariants.{Float32Dense, Float64Dense, Float32Sparse, Float1Bit, Float8}
use Rattle.distance_sums.specs.Extremes.{lesser, greater}
use Rattle.distance_sums.specs.Dense.{products, dense_cosine, squares, l2_by, dots, dot_by, shares_by, jaccard_by}
use Rattle.distance_sums.specs.Sparse.{sparse_products, sparse_cosine, sparse_squares, sparse_dots, sparse_shares_by}
use Rattle.distance_sums.specs.OneBit.{whole_bits, differing, overlap_of, bit_cosine, bit_dot, bit_jaccard}
use Rattle.distance_sums.specs.Float8.{wide_scale, totals_of, scaled_cosine, scaled_dot}

unfoldable pub cosine_of : VectorType → ℕ → List ℕ → List ℕ → Float
unfolding products dense_cosine sparse_products sparse_cosine differing bit_cosine totals_of scaled_cosine
cosine_of Float32Dense d a b = dense_cosine binary32 (products binary32 (dense_element binary32 a) (dense_element binary32 b) d)
cosine_of Float64Dense d a b = dense_cosine binary64 (products binary64 (dense_element binary64 a) (dense_element binary64 b) d)
cosine_of Float32Sparse d a b = sparse_cosine (sparse_products a b)
cosine_of Float1Bit d a b = bit_cosine (differing a b (whole_bits d))
cosine_of Float8 d a b = scaled_cosine (wide_scale d a) (wide_scale d b) (totals_of a b d) d

-- there is no L2 of 1-bit vectors
unfoldable pub l2_of : VectorType → ℕ → List ℕ → List ℕ → Option Float
unfolding squares sparse_squares
l2_of Float32Dense d a b = some (l2_by (squares binary32 (dense_element binary32 a) (dense_element binary32 b) d))
l2_of Float64Dense d a b = some (l2_by (squares binary64 (dense_element binary64 a) (dense_element binary64 b) d))
l2_of Float32Sparse d a b = some (l2_by (sparse_squares a b))
l2_of Float1Bit d a b = none
l2_of Float8 d a b = some (l2_by (squares binary64 (float8_element binary64 d a) (float8_element binary64 d b) d))

unfoldable pub dot_of : VectorType → ℕ → List ℕ → List ℕ → Float
unfolding dots sparse_dots differing bit_dot totals_of scaled_dot
dot_of Float32Dense d a b = dot_by (dots (dense_element binary32 a) (dense_element binary32 b) d)
dot_of Float64Dense d a b = dot_by (dots (dense_element binary64 a) (dense_element binary64 b) d)
dot_of Float32Sparse d a b = dot_by (sparse_dots a b)
dot_of Float1Bit d a b = bit_dot d (differing a b (whole_bits d))
dot_of Float8 d a b = dot_by (scaled_dot (wide_scale d a) (wide_scale d b) (totals_of a b d) d)

-- by any choice of the lesser and the greater, of which 1-bit vectors have none, and by ours
unfoldable pub jaccard_choosing : (Float → Float → Float) → (Float → Float → Float) → VectorType → ℕ → List ℕ → List ℕ → Float
unfolding shares_by jaccard_by sparse_shares_by overlap_of bit_jaccard
jaccard_choosing lo hi Float32Dense d a b = jaccard_by binary32 (shares_by lo hi binary32 (dense_element binary32 a) (dense_element binary32 b) d)
jaccard_choosing lo hi Float64Dense d a b = jaccard_by binary64 (shares_by lo hi binary64 (dense_element binary64 a) (dense_element binary64 b) d)
jaccard_choosing lo hi Float32Sparse d a b = jaccard_by binary32 (sparse_shares_by lo hi a b)
jaccard_choosing lo hi Float1Bit d a b = bit_jaccard (overlap_of a b (whole_bits d))
jaccard_choosing lo hi Float8 d a b = jaccard_by binary64 (shares_by lo hi binary64 (float8_element binary64 d a) (float8_element binary64 d b) d)

unfoldable pub jaccard_of : VectorType → ℕ → List ℕ → List ℕ → Float
unfolding jaccard_choosing
jaccard_of k d a b = jaccard_choosing lesser greater k d a b
