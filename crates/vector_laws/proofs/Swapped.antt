-- Exchanging the two vectors changes no bit of a distance, cosine and dot of Float8 apart (specs/SwapExamples.antt), and exchanges the counts; a pair
-- refused is refused either way: kind by kind, over the sums and bit counts with their arguments exchanged.
use mathlib.Core.Path.{◌≡◌, refl, sym, ap, ap₂, ◌∙◌}
use mathlib.Core.Bool.{Bool, true, false, not, false≢true}
use mathlib.Core.List.{List}
use mathlib.Core.Option.{some}
use Prim.Native.Nat.{ℕ}
use lib.Dec.{eqb}
use borrow.Author.Tests.{eqb-true, eqb-false, eq-eqb, ne_eqb}
use lib.Ieee.{Format, binary32, binary64}
use Rattle.float_laws.specs.Running.{AllFit}
use Rattle.vector_types.specs.Layout.{byte_of, has_byte}
use Rattle.vector_types.specs.Read.{read_of}
use Rattle.vector_types.specs.Parts.{body_of}
use Rattle.vector_types.specs.declared.VectorType.{VectorType}
use Rattle.vector_types.specs.declared.VectorType.TheVariants.{Float32Dense, Float64Dense, Float32Sparse, Float1Bit, Float8}
use Rattle.vector_types.specs.declared.View.{View}
use Rattle.std.specs.Prelude.{Ok}
use Rattle.vector_types.specs.declared.Mode.TheVariants.{Plain}
use Rattle.bodies.specs.Elements.{dense_element, float8_element}
use Rattle.bodies.proofs.Elements.{dense-fits, float8-fits}
use Rattle.distance_sums.specs.Dense.{dense_cosine, dot_by, l2_by, jaccard_by}
use Rattle.distance_sums.specs.OneBit.{whole_bits, bit_cosine, bit_dot, bit_jaccard}
use Rattle.distance_sums.specs.Sparse.{sparse_cosine, sparse_products}
use Rattle.distance_sums.specs.Values.{cosine_of, l2_of, dot_of, jaccard_of}
use Rattle.distance.specs.Values.{value_of}
use Rattle.distance.specs.Answer.{pairing_of, distance_of}
use Rattle.distance.specs.declared.Distance.{Distance}
use Rattle.distance.specs.declared.Distance.TheVariants.{Cos, L2, Dot, Jaccard}
use Rattle.vector_laws.specs.Symmetric.{symmetric, exchanged}
use Rattle.vector_laws.proofs.Measured.{views-related}
use Rattle.vector_laws.proofs.SwappedSums.{products-swap, dense-crossed, sparse-crossed, squares-swap, dots-swap, shares-swap}
use Rattle.vector_laws.proofs.SwappedMerge.{sparse-products-swap, sparse-squares-swap, sparse-dots-swap, sparse-shares-swap}
use Rattle.vector_laws.proofs.SwappedBits.{differing-swap, overlap-swap}

-- ---- two bodies of one kind
module _ (d : ℕ) (a b : List ℕ) where
  cosine-swap : (k : VectorType) → not (has_byte 4 k) ≡ true → cosine_of k d a b ≡ cosine_of k d b a
  unfolding cosine_of
  cosine-swap Float32Dense o = sym (dense-crossed _ binary32) ∙ ap (dense_cosine binary32) (products-swap binary32 _ _ d)
  cosine-swap Float64Dense o = sym (dense-crossed _ binary64) ∙ ap (dense_cosine binary64) (products-swap binary64 _ _ d)
  cosine-swap Float32Sparse o = sym (sparse-crossed (sparse_products a b)) ∙ ap sparse_cosine (sparse-products-swap a b)
  cosine-swap Float1Bit o = ap bit_cosine (differing-swap a b (whole_bits d))
  cosine-swap Float8 o = absurd (false≢true o)

  l2-swap : (k : VectorType) → l2_of k d a b ≡ l2_of k d b a
  unfolding l2_of
  l2-swap Float32Dense = ap (λ s. some (l2_by s)) (squares-swap binary32 _ _ d)
  l2-swap Float64Dense = ap (λ s. some (l2_by s)) (squares-swap binary64 _ _ d)
  l2-swap Float32Sparse = ap (λ s. some (l2_by s)) (sparse-squares-swap a b)
  l2-swap Float1Bit = refl
  l2-swap Float8 = ap (λ s. some (l2_by s)) (squares-swap binary64 _ _ d)

  dot-swap : (k : VectorType) → not (has_byte 4 k) ≡ true → dot_of k d a b ≡ dot_of k d b a
  unfolding dot_of
  dot-swap Float32Dense o = ap dot_by (dots-swap _ _ d)
  dot-swap Float64Dense o = ap dot_by (dots-swap _ _ d)
  dot-swap Float32Sparse o = ap dot_by (sparse-dots-swap a b)
  dot-swap Float1Bit o = ap (bit_dot d) (differing-swap a b (whole_bits d))
  dot-swap Float8 o = absurd (false≢true o)

  dense-fit : (f : Format) (body : List ℕ) → AllFit f (dense_element f body) d
  dense-fit f body i l = dense-fits f body i

  float8-fit : (body : List ℕ) → AllFit binary64 (float8_element binary64 d body) d
  float8-fit body i l = float8-fits binary64 d body i

  jaccard-swap : (k : VectorType) → jaccard_of k d a b ≡ jaccard_of k d b a
  unfolding jaccard_of
  jaccard-swap Float32Dense = ap (jaccard_by binary32) (shares-swap binary32 _ _ d (dense-fit binary32 a) (dense-fit binary32 b))
  jaccard-swap Float64Dense = ap (jaccard_by binary64) (shares-swap binary64 _ _ d (dense-fit binary64 a) (dense-fit binary64 b))
  jaccard-swap Float32Sparse = ap (jaccard_by binary32) (sparse-shares-swap a b)
  jaccard-swap Float1Bit = ap bit_jaccard (overlap-swap a b (whole_bits d))
  jaccard-swap Float8 = ap (jaccard_by binary64) (shares-swap binary64 _ _ d (float8-fit a) (float8-fit b))

pub value-swap : (m : Distance) (k : VectorType) (d : ℕ) (a b : List ℕ) → symmetric m k ≡ true → value_of m k d a b ≡ value_of m k d b a
unfolding value_of
value-swap Cos k d a b o = ap some (cosine-swap d a b k o)
value-swap L2 k d a b o = l2-swap d a b k
value-swap Dot k d a b o = ap some (dot-swap d a b k o)
value-swap Jaccard k d a b o = ap some (jaccard-swap d a b k)

-- ---- two views: what refuses the pair refuses it either way
eqb_swap : (x y : ℕ) → eqb x y ≡ eqb y x
eqb_swap x y = go (eqb x y) refl
  where
    go : (b : Bool) → eqb x y ≡ b → b ≡ eqb y x
    go true e = sym (eq-eqb y x (sym (eqb-true x y e)))
    go false e = sym (ne_eqb y x (λ z. eqb-false x y e (sym z)))

pairing-swap : (v w : View) → pairing_of v w ≡ pairing_of w v
pairing-swap v w = rw (eqb_swap v.dims.0 w.dims.0, eqb_swap (byte_of v.kind) (byte_of w.kind))

-- ---- two blobs
pub distance-swap : (m : Distance) (s t : List ℕ) (v w : View) → read_of Plain s ≡ Ok v → read_of Plain t ≡ Ok w → symmetric m v.kind ≡ true
    → distance_of m s t ≡ exchanged (distance_of m t s)
unfolding distance_of
distance-swap m s t v w e g o =
    let a = body_of s in
    let b = body_of t in
    rw (e, g)
    (views-related (λ x y. x ≡ exchanged y) (λ r. refl) (value_of m) (value_of m) v w w v a b b a (λ x. refl) (pairing-swap v w)
    (λ same. value-swap m v.kind v.dims.0 a b o ∙ ap₂ (λ l d. value_of m l d b a) same.kind same.dims))
