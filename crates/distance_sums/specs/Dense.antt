-- Sums over two rows of elements, from +0.0 in index order, and what each distance answers by them: once over the width.
use Rattle.std.specs.Prelude.{ℕ, Bool, false, cond, ◌&&◌, pos, Float}
use Rattle.std.specs.Float.{nan, fin, Format, binary64}
use Rattle.std.specs.Float.Ieee.{add, sub, mul, div, neg, eq}
use Rattle.float_laws.specs.Zero.{plus_zero}
use Rattle.float_laws.specs.Running.{running}
use Rattle.rounding.specs.Root.{root}

-- 1.0, and whether a value is a zero of either sign
abbrev pub float_one : Float
float_one = fin false 1 (pos 0)

abbrev pub is_zero : Float → Bool
is_zero x = eq x plus_zero

-- x * x, and (x - y) * (x - y)
abbrev pub square : Format → Float → Float
square f x = mul f x x

abbrev pub apart : Format → Float → Float → Float
apart f x y = square f (sub f x y)

-- ---- cosine: the sum of products, and the two sums of squares
pub record Products : Type 0 where
  pub dot : Float
  pub norm1 : Float
  pub norm2 : Float

abbrev pub no_products : Products
no_products = record { dot = plus_zero; norm1 = plus_zero; norm2 = plus_zero }

unfoldable pub products : Format → (ℕ → Float) → (ℕ → Float) → ℕ → Products
products f x y n = record {
  dot = running f (λ i. mul f (x i) (y i)) n;
  norm1 = running f (λ i. square f (x i)) n;
  norm2 = running f (λ i. square f (y i)) n;
}

-- 1 - dot / root (norm1 * norm2)
unfoldable pub angle : Format → Products → Float
angle f s = sub f float_one (div f s.dot (root f (mul f s.norm1 s.norm2)))

-- both norms 0 give 0.0; else a dot of 0 gives 1.0
unfoldable pub dense_cosine : Format → Products → Float
unfolding angle
dense_cosine f s = cond (is_zero s.norm1 && is_zero s.norm2) plus_zero (cond (is_zero s.dot) float_one (angle f s))

-- ---- L2: the sum of squared differences; the root is taken in f64
unfoldable pub squares : Format → (ℕ → Float) → (ℕ → Float) → ℕ → Float
squares f x y n = running f (λ i. apart f (x i) (y i)) n

abbrev pub l2_by : Float → Float
l2_by sum = root binary64 sum

-- ---- dot: the sum of products in f64, negated
unfoldable pub dots : (ℕ → Float) → (ℕ → Float) → ℕ → Float
dots x y n = running binary64 (λ i. mul binary64 (x i) (y i)) n

abbrev pub dot_by : Float → Float
dot_by sum = neg sum

-- ---- Jaccard: the sums of the lesser and of the greater ones
pub record Shares : Type 0 where
  pub low : Float
  pub high : Float

abbrev pub no_shares : Shares
no_shares = record { low = plus_zero; high = plus_zero }

-- by any choice of the lesser and the greater
unfoldable pub shares_by : (Float → Float → Float) → (Float → Float → Float) → Format → (ℕ → Float) → (ℕ → Float) → ℕ → Shares
shares_by lo hi f x y n = record { low = running f (λ i. lo (x i) (y i)) n; high = running f (λ i. hi (x i) (y i)) n }

-- a sum of 0 of the greater ones gives NaN; else 1 - low / high, of which the difference is taken in f64
unfoldable pub jaccard_by : Format → Shares → Float
jaccard_by f s = cond (is_zero s.high) nan (sub binary64 float_one (div f s.low s.high))

-- ---- one pair more
unfoldable pub products_with : Format → Products → Float → Float → Products
products_with f s x y = record {
  dot = add f s.dot (mul f x y);
  norm1 = add f s.norm1 (square f x);
  norm2 = add f s.norm2 (square f y);
}

unfoldable pub squares_with : Format → Float → Float → Float → Float
squares_with f s x y = add f s (apart f x y)

unfoldable pub dots_with : Float → Float → Float → Float
dots_with s x y = add binary64 s (mul binary64 x y)

unfoldable pub shares_with : (Float → Float → Float) → (Float → Float → Float) → Format → Shares → Float → Float → Shares
shares_with lo hi f s x y = record { low = add f s.low (lo x y); high = add f s.high (hi x y) }
