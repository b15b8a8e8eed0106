-- The sums of two sparse bodies with rising indices are those of the dense bodies that they are spread to: each rule adds for one entry what
-- it adds for that entry and +0.0, and nothing for two zeros, because no sum on the way is -0.0.
use mathlib.Core.Path.{◌≡◌, refl, sym, ap, ◌∙◌}
use mathlib.Core.Bool.{false}
use mathlib.Core.List.{List}
use Prim.Native.Nat.{ℕ, suc, ◌*◌}
use lib.Dec.{T}
use lib.Ieee.{Float, Format, binary32, binary64, add, sub, mul, lt, eq, fits}
use lib.Ieee.Fits.{mul-fits}
use lib.Ieee.Scale.{finite}
use Rattle.float_laws.specs.Zero.{plus_zero, FromZero}
use Rattle.float_laws.specs.Running.{running}
use Rattle.float_laws.proofs.Zero.{sub-plus_zero-squared, plus_zero-sub-squared}
use Rattle.float_laws.proofs.Running.{plus_zero-from_zero, add-from_zero, add-zero-term, add-mul-zero, add-zero-mul}
use Rattle.little_endian.proofs.Floats.{float_at-fits}
use Rattle.vector_types.specs.Layout.{has_index_outside}
use Rattle.vector_types.specs.declared.VectorType.TheVariants.{Float32Sparse}
use Rattle.convert_parts.specs.Spread.{spread_body}
use Rattle.distance_sums.specs.Dense.{Products, products, products_with, squares, squares_with, dots, dots_with, shares_by, shares_with}
use Rattle.distance_sums.specs.Extremes.{lesser, greater}
use Rattle.bodies.specs.Merged.{Rule, merge}
use Rattle.distance_sums.specs.Sparse.{products_rule, squares_rule, dots_rule, sparse_products, sparse_squares, sparse_dots, sparse_shares_by}
use Rattle.distance_sums.specs.Inner.Shares.{shares, shares_rule, sparse_shares}
use Rattle.distance_sums.proofs.EitherZero.{BothFromZero, one_more, ours-are-choices}
use Rattle.bodies.specs.Entries.{Rising, entries_of}
use Rattle.bodies.specs.Elements.{dense_element}
use Rattle.vector_laws.specs.DenseForm.{AllFinite}
use Rattle.vector_laws.proofs.SwappedSums.{exchanged-are-choices}
use Rattle.vector_laws.proofs.Summed.{AbsentIsZero, AllValues, merged-summed}
use Rattle.vector_laws.proofs.Spreading.{below, spread-elements}

-- ---- the rules
abbrev Finite : Float → Type 0
Finite x = T (finite x)

abbrev FitsIn : Format → Float → Type 0
FitsIn f x = T (fits f x)

-- a product added to a sum; that of two zeros adds nothing
module _ (f : Format) where
  product-from_zero : (s x y : Float) → FromZero f s → FromZero f (add f s (mul f x y))
  product-from_zero s x y k = add-from_zero f s (mul f x y) k (mul-fits f x y)

  add-zero-product : (s : Float) → FromZero f s → s ≡ add f s (mul f plus_zero plus_zero)
  add-zero-product s k = sym (add-mul-zero f s plus_zero false k tt)

squares-absent-is-zero : (f : Format) → AbsentIsZero (squares_rule f) (FromZero f) (FitsIn f)
unfolding squares_with
squares-absent-is-zero f =
    let z = (plus_zero-from_zero f).fitting in
    record {
      zero_has = z;
      keeps = λ s x y k p q. product-from_zero f s (sub f x y) (sub f x y) k;
      on_none = λ s k. add-zero-product f s k ∙ ap (add f s) (sym (sub-plus_zero-squared f plus_zero z));
      on_left = λ s x k p. ap (add f s) (sym (sub-plus_zero-squared f x p));
      on_right = λ s y k q. ap (add f s) (sym (plus_zero-sub-squared f y q));
    }

dots-absent-is-zero : AbsentIsZero dots_rule (FromZero binary64) Finite
unfolding dots_with
dots-absent-is-zero = record {
  zero_has = tt;
  keeps = λ s x y k p q. product-from_zero binary64 s x y k;
  on_none = add-zero-product binary64;
  on_left = λ s x k p. sym (add-mul-zero binary64 s x false k p);
  on_right = λ s y k q. sym (add-zero-mul binary64 s false y k q);
}

abbrev AllFromZero : Format → Products → Type 0
AllFromZero f s = FromZero f s.dot × FromZero f s.norm1 × FromZero f s.norm2

products-same : {s t : Products} → s.dot ≡ t.dot → s.norm1 ≡ t.norm1 → s.norm2 ≡ t.norm2 → s ≡ t
products-same p q r i = record { dot = p i; norm1 = q i; norm2 = r i }

products-absent-is-zero : (f : Format) → AbsentIsZero (products_rule f) (AllFromZero f) Finite
unfolding products_with
products-absent-is-zero f = record {
  zero_has = tt;
  keeps = λ s x y (k, l, m) p q. (product-from_zero f s.dot x y k, product-from_zero f s.norm1 x x l, product-from_zero f s.norm2 y y m);
  on_none = λ s (k, l, m). products-same (add-zero-product f s.dot k) (add-zero-product f s.norm1 l) (add-zero-product f s.norm2 m);
  on_left = λ s x (k, l, m) p. products-same (sym (add-mul-zero f s.dot x false k p)) refl (add-zero-product f s.norm2 m);
  on_right = λ s y (k, l, m) q. products-same (sym (add-zero-mul f s.dot false y k q)) (add-zero-product f s.norm1 l) refl;
}

lesser-zeros : lesser plus_zero plus_zero ≡ plus_zero
unfolding lesser lt eq
lesser-zeros = refl

greater-zeros : greater plus_zero plus_zero ≡ plus_zero
unfolding greater lt eq
greater-zeros = refl

-- the lesser of a value and +0.0, and the greater, are the same the other way round, up to the sign of a zero
shares-absent-is-zero : (f : Format) → AbsentIsZero (shares_rule f) (BothFromZero f) (FitsIn f)
unfolding shares_with
shares-absent-is-zero f =
    let z = (plus_zero-from_zero f).fitting in
    record {
      zero_has = z;
      keeps = λ s x y k p q. (one_more f lesser greater (ours-are-choices f) x y p q s k).0;
      on_none = λ s (k, l). rw (lesser-zeros, greater-zeros, add-zero-term f s.low false k, add-zero-term f s.high false l);
      on_left = λ s x k p. refl;
      on_right = λ s y k q. (one_more f (λ x y. lesser y x) (λ x y. greater y x) (exchanged-are-choices f) plus_zero y z q s k).1;
    }

-- ---- the sums
abbrev spread_element : ℕ → List ℕ → ℕ → Float
spread_element d body = dense_element binary32 (spread_body binary32 d body)

module _ (d : ℕ) (a b : List ℕ) (au : Rising (entries_of a)) (bu : Rising (entries_of b))
    (ai : has_index_outside Float32Sparse d a ≡ false) (bi : has_index_outside Float32Sparse d b ≡ false) where
  spread-sums : {S : Type 0} {r : Rule S} {K : S → Type 0} {Q : Float → Type 0} → AbsentIsZero r K Q → AllValues Q (entries_of a) → AllValues Q (entries_of b)
      → (sum : ℕ → S) → K (sum 0) → ((n : ℕ) → sum (suc n) ≡ r.both (sum n) (spread_element d a n) (spread_element d b n))
      → merge r (entries_of a) (entries_of b) (sum 0) ≡ sum d
  spread-sums {r = r} {K} {Q} law qa qb sum begins more =
      merged-summed r K Q law (entries_of a) (entries_of b) qa qb (spread_element d a) (spread_element d b) sum begins more d au bu (below d a ai) (below d b bi)
      (spread-elements d a ai) (spread-elements d b bi)

  pub dense-form-same-squares : sparse_squares a b ≡ squares binary32 (spread_element d a) (spread_element d b) d
  unfolding sparse_squares squares squares_with running
  dense-form-same-squares =
      spread-sums (squares-absent-is-zero binary32) (λ i h. float_at-fits binary32 a (4 * i)) (λ i h. float_at-fits binary32 b (4 * i))
      (squares binary32 (spread_element d a) (spread_element d b)) (plus_zero-from_zero binary32) (λ n. refl)

  pub dense-form-same-shares : sparse_shares a b ≡ shares binary32 (spread_element d a) (spread_element d b) d
  unfolding sparse_shares_by shares_by shares_with running
  dense-form-same-shares =
      let z = plus_zero-from_zero binary32 in
      spread-sums (shares-absent-is-zero binary32) (λ i h. float_at-fits binary32 a (4 * i)) (λ i h. float_at-fits binary32 b (4 * i))
      (shares binary32 (spread_element d a) (spread_element d b)) (z, z) (λ n. refl)

  module _ (af : AllFinite a) (bf : AllFinite b) where
    pub dense-form-same-dots : sparse_dots a b ≡ dots (spread_element d a) (spread_element d b) d
    unfolding sparse_dots dots dots_with running
    dense-form-same-dots = spread-sums dots-absent-is-zero af bf (dots (spread_element d a) (spread_element d b)) (plus_zero-from_zero binary64) (λ n. refl)

    pub dense-form-same-products : sparse_products a b ≡ products binary32 (spread_element d a) (spread_element d b) d
    unfolding sparse_products products products_with running
    dense-form-same-products =
        let z = plus_zero-from_zero binary32 in
        spread-sums (products-absent-is-zero binary32) af bf (products binary32 (spread_element d a) (spread_element d b)) (z, z, z) (λ n. refl)
