-- The five whole-number sums of two Float8 bodies, over no pair and over one pair more. Each term is at most 65,025, so n terms are at most n * 65,025.
use mathlib.Core.Path.{◌≡◌, refl, ◌∙◌}
use Prim.Native.Nat.{ℕ, zero, suc, ◌+◌, ◌*◌, ◌≤◌, ◌<◌, zero-le}
use native.Mathlib.Nat.{mul-le-mul, le_of_suc-le-suc}
use native.Mathlib.Numerals.{add-one}
use native.Mathlib.Omega.{arith}
use mathlib.Core.List.{List}
use Rattle.float_laws.specs.Running.{total}
use Rattle.little_endian.specs.Bytes.{AreBytes}
use Rattle.distance_sums.specs.Float8.{byte_at, totals_of}
use Rattle.distance_sums.specs.declared.float8.Totals.{Totals}

total-more : (term : ℕ → ℕ) (n : ℕ) → total term (n + 1) ≡ total term n + term n
unfolding total
total-more term n = rw add-one

pub total_at_most : {term : ℕ → ℕ} (c n : ℕ) → ((i : ℕ) → term i ≤ c) → total term n ≤ n * c
unfolding total
total_at_most c zero h = zero-le
total_at_most c (suc n) h = omega (arith, total_at_most c n h, h n)

pub product-at-most : {p q : ℕ} → p < 256 → q < 256 → p * q ≤ 65025
product-at-most h k = mul-le-mul (le_of_suc-le-suc h) (le_of_suc-le-suc k)

-- ---- the sums
abbrev no_totals : Totals
no_totals = record { sum1 = 0; sum2 = 0; squares1 = 0; squares2 = 0; products = 0 }

totals-none : (a b : List ℕ) → no_totals ≡ totals_of a b 0
unfolding totals_of total
totals-none a b = refl

-- t with one pair more
abbrev totals_with : Totals → ℕ → ℕ → Totals
totals_with t p q = record {
  sum1 = t.sum1 + p;
  sum2 = t.sum2 + q;
  squares1 = t.squares1 + p * p;
  squares2 = t.squares2 + q * q;
  products = t.products + p * q;
}

totals-more : (a b : List ℕ) (n : ℕ) (t : Totals) → t ≡ totals_of a b n → totals_with t (byte_at a n) (byte_at b n) ≡ totals_of a b (n + 1)
unfolding totals_of
totals-more a b n t e = rw e (simp total-more)

-- each is at most m
pub record AtMost (m : ℕ) (t : Totals) : Type 0 where
  pub sum1 : t.sum1 ≤ m
  pub sum2 : t.sum2 ≤ m
  pub squares1 : t.squares1 ≤ m
  pub squares2 : t.squares2 ≤ m
  pub products : t.products ≤ m

pub totals-at-most : (a b : List ℕ) → AreBytes a → AreBytes b → (n : ℕ) → AtMost (n * 65025) (totals_of a b n)
unfolding totals_of
totals-at-most a b A B n = record {
  sum1 = total_at_most 65025 n (λ i. omega (arith, A i));
  sum2 = total_at_most 65025 n (λ i. omega (arith, B i));
  squares1 = total_at_most 65025 n (λ i. product-at-most (A i) (A i));
  squares2 = total_at_most 65025 n (λ i. product-at-most (B i) (B i));
  products = total_at_most 65025 n (λ i. product-at-most (A i) (B i));
}

-- t has the sums over n pairs of bytes, with room for one pair more
pub record Totalled (a b : List ℕ) (n : ℕ) (t : Totals) : Type 0 where
  pub first_bytes : AreBytes a
  pub second_bytes : AreBytes b
  pub sums : t ≡ totals_of a b n
  pub room : AtMost ((n + 1) * 65025) (totals_with t (byte_at a n) (byte_at b n))

totalled : (a b : List ℕ) (n : ℕ) (t : Totals) → AreBytes a → AreBytes b → t ≡ totals_of a b n → Totalled a b n t
totalled a b n t A B e = record { first_bytes = A; second_bytes = B; sums = e; room = rw (totals-more a b n t e) (totals-at-most a b A B (n + 1)) }

pub totalled_none : {a b : List ℕ} {t : Totals} → AreBytes a → AreBytes b → t ≡ no_totals → Totalled a b 0 t
totalled_none A B e = totalled _ _ 0 _ A B (e ∙ totals-none _ _)

pub totalled_more : {a b : List ℕ} {n : ℕ} {t : Totals} → Totalled a b n t → Totalled a b (n + 1) (totals_with t (byte_at a n) (byte_at b n))
totalled_more {a} {b} {n} {t} k = totalled a b (n + 1) _ k.first_bytes k.second_bytes (totals-more a b n t k.sums)
