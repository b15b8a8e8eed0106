-- Sums over two rows with the rows exchanged: each term is the same the other way round, or, for Jaccard, may be the other zero, which no
-- sum shows; the two norms of cosine change places, and the answer takes them in either order.
use mathlib.Core.Path.{◌≡◌, refl, sym, ◌∙◌}
use mathlib.Core.Logic.{inl, inr}
use mathlib.Core.Bool.{Bool, true, false, and_comm, or_comm}
use Prim.Native.Nat.{ℕ}
use lib.Ieee.{Float, nan, Format, binary32, binary64, mul, lt, ne, is_nan}
use lib.Ieee.Compare.{differs_from_itself}
use Rattle.float_laws.specs.Running.{AllFit}
use Rattle.float_laws.proofs.Order.{nan-self}
use Rattle.float_laws.proofs.Running.{running-same}
use Rattle.float_laws.proofs.Squared.{sub-squared}
use Rattle.float_laws.proofs.Swap.{mul_comm}
use Rattle.distance_sums.specs.Extremes.{lesser, greater, Chosen, AreChoices}
use Rattle.distance_sums.specs.Dense.{Products, products, is_zero, angle, dense_cosine, squares, dots, shares_by}
use Rattle.distance_sums.specs.Inner.Shares.{shares}
use Rattle.distance_sums.specs.Sparse.{sparse_cosine}
use Rattle.distance_sums.proofs.EitherZero.{lesser-is, greater-is, shares-either-zero}

-- ---- L2 and dot
pub squares-swap : (f : Format) (x y : ℕ → Float) (n : ℕ) → squares f x y n ≡ squares f y x n
unfolding squares
squares-swap f x y n = running-same f _ _ n (λ i l. sub-squared f (x i) (y i))

pub dots-swap : (x y : ℕ → Float) (n : ℕ) → dots x y n ≡ dots y x n
unfolding dots
dots-swap x y n = running-same binary64 _ _ n (λ i l. mul_comm binary64 (x i) (y i))

-- ---- cosine
abbrev pub crossed : Products → Products
crossed s = record { dot = s.dot; norm1 = s.norm2; norm2 = s.norm1 }

pub products-swap : (f : Format) (x y : ℕ → Float) (n : ℕ) → crossed (products f x y n) ≡ products f y x n
unfolding products
products-swap f x y n = rw (running-same f (λ i. mul f (x i) (y i)) (λ i. mul f (y i) (x i)) n (λ i l. mul_comm f (x i) (y i)))

module _ (s : Products) where
  angle-crossed : (f : Format) → angle f (crossed s) ≡ angle f s
  unfolding angle
  angle-crossed f = rw (mul_comm f s.norm2 s.norm1)

  pub dense-crossed : (f : Format) → dense_cosine f (crossed s) ≡ dense_cosine f s
  unfolding dense_cosine
  dense-crossed f = rw (and_comm (is_zero s.norm2) (is_zero s.norm1), angle-crossed f)

  pub sparse-crossed : sparse_cosine (crossed s) ≡ sparse_cosine s
  unfolding sparse_cosine
  sparse-crossed = rw (or_comm (is_zero s.norm2) (is_zero s.norm1), angle-crossed binary32)

-- ---- Jaccard: what is chosen of y and x is chosen of x and y
is-nan : (x : Float) → is_nan x ≡ true → x ≡ nan
unfolding ne
is-nan x e = differs_from_itself x (rw (nan-self x e) tt)

chosen-swap : (before : Float → Float → Bool) (x y m : Float) → Chosen before y x m → Chosen before x y m
chosen-swap before x y m (first, second, neither) =
    (λ p. go (is_nan y) p refl, λ p q. first q, λ p q. elim (neither q p) [ inl h ↦ inr h | inr h ↦ inl h ])
  where
    go : (b : Bool) → is_nan x ≡ true → is_nan y ≡ b → m ≡ y
    go true p q = first q ∙ is-nan x p ∙ sym (is-nan y q)
    go false p q = second q p

pub exchanged-are-choices : (f : Format) → AreChoices f (λ x y. lesser y x) (λ x y. greater y x)
exchanged-are-choices f = record {
  low = λ x y h k. chosen-swap lt x y (lesser y x) (lesser-is y x);
  high = λ x y h k. chosen-swap (λ u v. lt v u) x y (greater y x) (greater-is y x);
}

pub shares-swap : (f : Format) (x y : ℕ → Float) (n : ℕ) → AllFit f x n → AllFit f y n → shares f x y n ≡ shares f y x n
unfolding shares_by
shares-swap f x y n h k = sym (shares-either-zero f (λ x y. lesser y x) (λ x y. greater y x) (exchanged-are-choices f) x y n h k)
