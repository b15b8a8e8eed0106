-- The dot of two 1-bit bodies is that of the dense bodies that they are converted to, of either width: the product of two elements is 1 where their
-- bits agree and -1 where they differ, the f64 sum of so few is exact, and unused bits that agree add nothing to the count of bits that differ.
use mathlib.Core.Path.{◌≡◌, refl, sym, ap, ap₂, ◌∙◌}
use mathlib.Core.List.{List}
use Prim.Native.Nat.{ℕ, zero, suc, ◌+◌, ◌-◌, ◌*◌, ◌≤◌, ◌<◌}
use native.Mathlib.Nat.{add-zero, add-suc}
use native.Mathlib.Numerals.{add-one}
use native.Mathlib.Omega.{arith}
use lib.Bits.{differ}
use lib.Dec.{eqb}
use lib.IntN.{ℤ, pos, nat_abs, neg_ℤ, ◌+ℤ◌, ◌-ℤ◌, +ℤ_assoc, +ℤ_comm, neg_ℤ-+ℤ}
use lib.Ieee.{Format, binary32, binary64, mul, of_int}
use Rattle.float_laws.specs.Running.{total, totalℤ}
use Rattle.float_laws.proofs.Running.{running-same}
use Rattle.float_laws.proofs.Whole.{running-int}
use Rattle.vector_types.specs.Layout.{max_dims, bit_at}
use Rattle.vector_types.specs.declared.VectorType.TheVariants.{Float1Bit}
use Rattle.bodies.specs.Elements.{dense_element, unit, bit_element}
use Rattle.bodies.proofs.Elements.{bit-fits}
use Rattle.convert_parts.specs.Dense.{floats_of}
use Rattle.convert_parts.specs.Result.{result_of}
use Rattle.convert_parts.proofs.Through.{float-at}
use Rattle.distance_sums.specs.Dense.{dots, dot_by}
use Rattle.distance_sums.specs.OneBit.{whole_bits, differing, bit_dot}
use Rattle.distance_sums.specs.Values.{dot_of}
use Rattle.vector_laws.specs.DenseForm.{dense_kind}
use Rattle.vector_laws.proofs.OneBitLaws.{differ_self}

-- ---- differences of natural numbers: k more taken away, and two added
subtract-more : (k p q : ℕ) → neg_ℤ (pos k) +ℤ (pos p -ℤ pos q) ≡ pos p -ℤ pos (q + k)
subtract-more k p q =
    +ℤ_comm (neg_ℤ (pos k)) (pos p -ℤ pos q)
    ∙ +ℤ_assoc (pos p) (neg_ℤ (pos q)) (neg_ℤ (pos k))
    ∙ ap (λ (z : ℤ). pos p +ℤ z) (sym (neg_ℤ-+ℤ (pos q) (pos k)))

add-differences : (m k p q : ℕ) → (pos m -ℤ pos k) +ℤ (pos p -ℤ pos q) ≡ pos (m + p) -ℤ pos (q + k)
add-differences m k p q =
    +ℤ_assoc (pos m) (neg_ℤ (pos k)) (pos p -ℤ pos q)
    ∙ ap (λ (z : ℤ). pos m +ℤ z) (subtract-more k p q)
    ∙ sym (+ℤ_assoc (pos m) (pos p) (neg_ℤ (pos (q + k))))

-- ---- two bits: 1 where they agree, -1 where they differ
abbrev agreement : ℕ → ℕ → ℤ
agreement x y = pos 1 -ℤ pos (2 * differ x y)

-- that is the product of their elements, exactly
record ProductOfBits (x y : ℕ) : Type 0 where
  exact : mul binary64 (unit (eqb x 0)) (unit (eqb y 0)) ≡ of_int binary64 (agreement x y)
  absolute : nat_abs (agreement x y) ≡ 1

product-of-bits : (x y : ℕ) → x < 2 → y < 2 → ProductOfBits x y
unfolding mul of_int
product-of-bits zero zero h k = record { exact = refl; absolute = refl }
product-of-bits zero (suc zero) h k = record { exact = refl; absolute = refl }
product-of-bits zero (suc (suc y)) h k = absurd (omega arith)
product-of-bits (suc zero) zero h k = record { exact = refl; absolute = refl }
product-of-bits (suc zero) (suc zero) h k = record { exact = refl; absolute = refl }
product-of-bits (suc zero) (suc (suc y)) h k = absurd (omega arith)
product-of-bits (suc (suc x)) y h k = absurd (omega arith)

-- ---- two bodies
module _ (a b : List ℕ) where
  abbrev term : ℕ → ℤ
  term i = agreement (bit_at a i) (bit_at b i)

  products : (i : ℕ) → ProductOfBits (bit_at a i) (bit_at b i)
  products i = product-of-bits (bit_at a i) (bit_at b i) (omega arith) (omega arith)

  terms-total : (n : ℕ) → totalℤ term n ≡ pos n -ℤ pos (2 * differing a b n)
  unfolding totalℤ differing total
  terms-total zero = refl
  terms-total (suc n) =
      let h = differing a b n in
      let g = differ (bit_at a n) (bit_at b n) in
      let twice : 2 * g + 2 * h ≡ 2 * (h + g) = omega arith in
      rw (terms-total n) (rw (add-one n, twice) at (add-differences n (2 * h) 1 (2 * g)))

  absolute-total : (n : ℕ) → total (λ i. nat_abs (term i)) n ≡ n
  unfolding total
  absolute-total zero = refl
  absolute-total (suc n) = omega (arith, absolute-total n, (products n).absolute)

  -- no sum on the way is rounded, and a sum of 0 is +0.0
  unit-dots : (n : ℕ) → n ≤ max_dims → dots (bit_element a) (bit_element b) n ≡ of_int binary64 (pos n -ℤ pos (2 * differing a b n))
  unfolding dots
  unit-dots n few =
      running-same binary64 _ _ n (λ i l. (products i).exact)
      ∙ running-int binary64 term n (omega (arith, absolute-total n))
      ∙ ap (of_int binary64) (terms-total n)

  -- the elements are read back from either dense body
  dense-dots : (f : Format) (n : ℕ) → dots (dense_element f (floats_of f (bit_element a) n)) (dense_element f (floats_of f (bit_element b) n)) n ≡ dots (bit_element a) (bit_element b) n
  unfolding dots
  dense-dots f n =
      running-same binary64 _ _ n
      (λ i l. ap₂ (mul binary64) (float-at f (bit_element a) n i l (bit-fits f a i)) (float-at f (bit_element b) n i l (bit-fits f b i)))

  -- bits that agree add nothing
  differing-rest : (d k : ℕ) → ((i : ℕ) → d ≤ i → i < d + k → bit_at a i ≡ bit_at b i) → differing a b (d + k) ≡ differing a b d
  unfolding differing total
  differing-rest d zero h = rw (add-zero d)
  differing-rest d (suc k) h =
      let same = h (d + k) (omega arith) (omega arith) in
      rw (add-suc d k, same, differ_self (bit_at b (d + k))) (omega (arith, differing-rest d k (λ i l m. h i l (omega arith))))

-- ---- the dot of the dense bodies
one-bit-floats : (f : Format) (d : ℕ) (body : List ℕ) → result_of Float1Bit (dense_kind f) d body ≡ floats_of f (bit_element body) d
unfolding result_of
one-bit-floats binary32 d body = refl
one-bit-floats binary64 d body = refl

dense-dot : (f : Format) (d : ℕ) (a b : List ℕ) → dot_of (dense_kind f) d a b ≡ dot_by (dots (dense_element f a) (dense_element f b) d)
unfolding dot_of
dense-dot binary32 d a b = refl
dense-dot binary64 d a b = refl

-- where the unused bits of the two agree, zero or not
pub dot-real-bodies : (f : Format) (d : ℕ) (a b : List ℕ) → d ≤ max_dims → ((i : ℕ) → d ≤ i → i < whole_bits d → bit_at a i ≡ bit_at b i)
    → dot_of (dense_kind f) d (result_of Float1Bit (dense_kind f) d a) (result_of Float1Bit (dense_kind f) d b) ≡ dot_of Float1Bit d a b
unfolding dot_of bit_dot
dot-real-bodies f d a b few agree =
    let whole : d + (whole_bits d - d) ≡ whole_bits d = omega arith in
    let rest = rw whole at (differing-rest a b d (whole_bits d - d) (λ i l m. agree i l (omega arith))) in
    rw (dense-dot f, one-bit-floats f d a, one-bit-floats f d b, dense-dots a b f d, unit-dots a b d few, rest)
