-- Sparse vectors: the four distances by the merge of their entries.
use Rattle.std.specs.Prelude.{ℕ, cond, ◌||◌, List, Float}
use Rattle.std.specs.Float.{nan, Format, binary32}
use Rattle.std.specs.Float.Ieee.{add}
use Rattle.float_laws.specs.Zero.{plus_zero}
use Rattle.bodies.specs.Entries.{entries_of}
use Rattle.bodies.specs.Merged.{Rule, merge, merged}
use Rattle.distance_sums.specs.Dense.{Products, no_products, products_with, square, angle, is_zero, squares_with, dots_with, Shares, no_shares, shares_with}

-- the norms go on where one vector has no element; the product does not
abbrev pub products_rule : Format → Rule Products
products_rule f = record {
  both = products_with f;
  left = λ s x. record { dot = s.dot; norm1 = add f s.norm1 (square f x); norm2 = s.norm2 };
  right = λ s y. record { dot = s.dot; norm1 = s.norm1; norm2 = add f s.norm2 (square f y) };
}

abbrev pub squares_rule : Format → Rule Float
squares_rule f = record { both = squares_with f; left = λ s x. add f s (square f x); right = λ s y. add f s (square f y) }

abbrev pub dots_rule : Rule Float
dots_rule = record { both = dots_with; left = λ s x. s; right = λ s y. s }

-- an absent element counts as 0
abbrev pub shares_rule_by : (Float → Float → Float) → (Float → Float → Float) → Format → Rule Shares
shares_rule_by lo hi f = record {
  both = shares_with lo hi f;
  left = λ s x. shares_with lo hi f s x plus_zero;
  right = λ s y. shares_with lo hi f s y plus_zero;
}

-- a zero norm gives NaN, and there is no other test
unfoldable pub sparse_cosine : Products → Float
unfolding angle
sparse_cosine s = cond (is_zero s.norm1 || is_zero s.norm2) nan (angle binary32 s)

-- the sums of two bodies, in the widths of dense f32
unfoldable pub sparse_products : List ℕ → List ℕ → Products
unfolding merged
sparse_products a b = merge (products_rule binary32) (entries_of a) (entries_of b) no_products

unfoldable pub sparse_squares : List ℕ → List ℕ → Float
unfolding merged
sparse_squares a b = merge (squares_rule binary32) (entries_of a) (entries_of b) plus_zero

unfoldable pub sparse_dots : List ℕ → List ℕ → Float
unfolding merged
sparse_dots a b = merge dots_rule (entries_of a) (entries_of b) plus_zero

unfoldable pub sparse_shares_by : (Float → Float → Float) → (Float → Float → Float) → List ℕ → List ℕ → Shares
unfolding merged
sparse_shares_by lo hi a b = merge (shares_rule_by lo hi binary32) (entries_of a) (entries_of b) no_shares
