-- The angle by its root, in either width, and each case of a dense and of a sparse cosine by its tests.
use mathlib.Core.Path.{◌≡◌}
use mathlib.Core.Bool.{true, false, ◌&&◌, ◌||◌}
use lib.Ieee.{Float, nan, Format, binary32, sub, mul, div}
use Rattle.float_laws.specs.Zero.{plus_zero}
use Rattle.rounding.specs.Root.{IsRoot}
use Rattle.rounding.proofs.RootLaw.{root-unique}
use Rattle.distance_sums.specs.Dense.{Products, float_one, is_zero, angle, dense_cosine}
use Rattle.distance_sums.specs.Sparse.{sparse_cosine}

module _ (f : Format) (s : Products) where
  pub angle-by : (r : Float) → IsRoot f (mul f s.norm1 s.norm2) r → sub f float_one (div f s.dot r) ≡ angle f s
  unfolding angle
  angle-by r h = rw (root-unique f (mul f s.norm1 s.norm2) r h)

  pub dense-zero : (is_zero s.norm1 && is_zero s.norm2) ≡ true → plus_zero ≡ dense_cosine f s
  unfolding dense_cosine
  dense-zero p = rw p

  module _ (p : (is_zero s.norm1 && is_zero s.norm2) ≡ false) where
    pub dense-one : is_zero s.dot ≡ true → float_one ≡ dense_cosine f s
    unfolding dense_cosine
    dense-one q = rw (p, q)

    pub dense-angle : is_zero s.dot ≡ false → angle f s ≡ dense_cosine f s
    unfolding dense_cosine
    dense-angle q = rw (p, q)

module _ (s : Products) where
  pub sparse-nan : (is_zero s.norm1 || is_zero s.norm2) ≡ true → nan ≡ sparse_cosine s
  unfolding sparse_cosine
  sparse-nan p = rw p

  pub sparse-angle : (is_zero s.norm1 || is_zero s.norm2) ≡ false → angle binary32 s ≡ sparse_cosine s
  unfolding sparse_cosine
  sparse-angle p = rw p
