-- A sum over no pair, and over one pair more: what the loops over two rows of elements cite.
use mathlib.Core.Path.{◌≡◌, refl}
use Prim.Native.Nat.{ℕ, ◌+◌}
use native.Mathlib.Numerals.{add-one}
use lib.Ieee.{Float, Format}
use Rattle.float_laws.specs.Zero.{plus_zero}
use Rattle.float_laws.specs.Running.{running}
use Rattle.distance_sums.specs.Dense.{Products, no_products, products, products_with, squares, squares_with, dots, dots_with, Shares, no_shares, shares_by, shares_with}

module _ (x y : ℕ → Float) where
  pub products-none : (f : Format) → no_products ≡ products f x y 0
  unfolding products running
  products-none f = refl

  pub squares-none : (f : Format) → plus_zero ≡ squares f x y 0
  unfolding squares running
  squares-none f = refl

  pub dots-none : plus_zero ≡ dots x y 0
  unfolding dots running
  dots-none = refl

  pub shares-none : (lo hi : Float → Float → Float) (f : Format) → no_shares ≡ shares_by lo hi f x y 0
  unfolding shares_by running
  shares-none lo hi f = refl

  -- u and v are the elements at n
  module _ (n : ℕ) (u v : Float) (p : u ≡ x n) (q : v ≡ y n) where
    pub products-more : (f : Format) (s t : Products) → s ≡ products f x y n → t ≡ products_with f s u v → t ≡ products f x y (n + 1)
    unfolding products products_with running
    products-more f s t e g = rw (g, e, p, q, add-one n)

    pub squares-more : (f : Format) (s t : Float) → s ≡ squares f x y n → t ≡ squares_with f s u v → t ≡ squares f x y (n + 1)
    unfolding squares squares_with running
    squares-more f s t e g = rw (g, e, p, q, add-one n)

    pub dots-more : (s t : Float) → s ≡ dots x y n → t ≡ dots_with s u v → t ≡ dots x y (n + 1)
    unfolding dots dots_with running
    dots-more s t e g = rw (g, e, p, q, add-one n)

    pub shares-more : (lo hi : Float → Float → Float) (f : Format) (s t : Shares)
        → s ≡ shares_by lo hi f x y n → t ≡ shares_with lo hi f s u v → t ≡ shares_by lo hi f x y (n + 1)
    unfolding shares_by shares_with running
    shares-more lo hi f s t e g = rw (g, e, p, q, add-one n)
