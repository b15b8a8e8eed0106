-- An operation on numbers that works digit by digit, and the tally of its digit rule over two bodies, some bytes more: once for xor, and, or.
use mathlib.Core.Path.{◌≡◌, refl, sym}
use mathlib.Core.List.{List}
use Prim.Native.Nat.{ℕ, zero, suc, ◌+◌, ◌*◌, ◌/◌, ◌%◌, ◌^◌, ◌≤◌, ◌<◌, min, max}
use native.Mathlib.Nat.{div-one, div-eq_of_lt, add-zero, add-suc, add_comm, mul-suc, pow-suc, min-le_left}
use native.Mathlib.Numerals.{add-one}
use native.Mathlib.Omega.{arith}
use lib.Arith.{digits_div, digits_mod, le-zero}
use lib.Bits.{differ, bit_and, bit_or, bit_xor, and_step, or_step, xor_step, and_block, or_block, xor_block, and_lt, or_lt, xor_lt}
use lib.Count.{ones, ones_step, ones_cat, ones-le}
use lib.ListN.{get_or}
use lib.Pow.{pow-add, shr-shr}
use Rattle.little_endian.specs.Bytes.{number_at, AreBytes}
use Rattle.little_endian.proofs.Numbers.{number_at-lt}
use Rattle.float_laws.specs.Running.{total}
use Rattle.vector_types.specs.Layout.{bit_at}
use Rattle.distance_sums.specs.OneBit.{tally}

-- op works digit by digit, by the rule f
pub record Digitwise (op f : ℕ → ℕ → ℕ) : Type 0 where
  pub step : (a b : ℕ) → op a b ≡ op (a / 2) (b / 2) * 2 + f (a % 2) (b % 2)
  pub small : (x y : ℕ) → x < 2 → y < 2 → f x y < 2
  pub block : (k a b r s : ℕ) → r < 2 ^ k → s < 2 ^ k → op (a * 2 ^ k + r) (b * 2 ^ k + s) ≡ op a b * 2 ^ k + op r s
  pub bound : (k a b : ℕ) → a < 2 ^ k → b < 2 ^ k → op a b < 2 ^ k

differ-small : (x y : ℕ) → x < 2 → y < 2 → differ x y < 2
differ-small zero y h k = k
differ-small (suc x) zero h k = h
differ-small (suc x) (suc y) h k = differ-small x y (omega arith) (omega arith)

pub xor-digits : Digitwise bit_xor differ
xor-digits = record { step = xor_step; small = differ-small; block = xor_block; bound = xor_lt }

pub and-digits : Digitwise bit_and min
and-digits = record { step = and_step; small = λ x y h k. omega (arith, min-le_left x y); block = and_block; bound = and_lt }

pub or_digits : Digitwise bit_or max
or_digits = record { step = or_step; small = λ x y h k. omega arith; block = or_block; bound = or_lt }

-- ---- bits and bytes of numbers
bit-of : (s : List ℕ) (n k : ℕ) → k < 8 → bit_at s (8 * n + k) ≡ get_or s n 0 / 2 ^ k % 2
bit-of s n k h =
    let byte : (8 * n + k) / 8 ≡ n = omega arith in
    let place : (8 * n + k) % 8 ≡ k = omega arith in
    rw (byte, place)

pow-bytes : (w : ℕ) → 256 ^ w ≡ 2 ^ (8 * w)
pow-bytes zero = refl
pow-bytes (suc w) = rw (pow-suc 256 w, mul-suc 8 w, pow-add, pow-bytes w)

number_lt : (w : ℕ) (s : List ℕ) (n : ℕ) → AreBytes s → number_at w s n < 2 ^ (8 * w)
number_lt w s n B = rw (← pow-bytes w) (number_at-lt w s n B)

one_byte : (s : List ℕ) (n : ℕ) → get_or s n 0 ≡ number_at 1 s n
unfolding number_at
one_byte s n = rw (add-zero n) (omega arith)

module _ {op f : ℕ → ℕ → ℕ} (d : Digitwise op f) where
  low : (a b : ℕ) → f (a % 2) (b % 2) < 2
  low a b = d.small (a % 2) (b % 2) (omega arith) (omega arith)

  -- ---- the set digits of op: of nothing, one digit taken off, and of blocks
  ones_none : ones (op 0 0) ≡ 0
  ones_none = le-zero (ones-le 0 (op 0 0) (d.bound 0 0 0 (omega arith) (omega arith)))

  ones-one : (a b : ℕ) → ones (op a b) ≡ f (a % 2) (b % 2) + ones (op (a / 2) (b / 2))
  ones-one a b =
      let rest = op (a / 2) (b / 2) in
      rw (d.step a b, ones_step (rest * 2 + f (a % 2) (b % 2)), digits_mod rest (low a b), digits_div rest (low a b))

  ones-block : (k x y a b : ℕ) → x < 2 ^ k → y < 2 ^ k → ones (op (x + a * 2 ^ k) (y + b * 2 ^ k)) ≡ ones (op x y) + ones (op a b)
  ones-block k x y a b h l =
      rw (add_comm x, add_comm y, d.block k a b x y h l, ones_cat k (op a b) (op x y) (d.bound k x y h l))
      (add_comm (ones (op a b)) (ones (op x y)))

  -- ---- tallies
  pub tally-le : (s t : List ℕ) (m : ℕ) → tally f s t m ≤ m
  unfolding total
  tally-le s t zero = omega arith
  tally-le s t (suc m) =
      omega (arith, tally-le s t m, low (get_or s (m / 8) 0 / 2 ^ (m % 8)) (get_or t (m / 8) 0 / 2 ^ (m % 8)))

  -- k bits of byte n, and those that are left of it
  bits-more : (s t : List ℕ) (n k : ℕ) → k ≤ 8
      → tally f s t (8 * n + k) + ones (op (get_or s n 0 / 2 ^ k) (get_or t n 0 / 2 ^ k)) ≡ tally f s t (8 * n) + ones (op (get_or s n 0) (get_or t n 0))
  unfolding total
  bits-more s t n zero h = rw (add-zero (8 * n), div-one (get_or s n 0), div-one (get_or t n 0))
  bits-more s t n (suc k) h =
      let x = get_or s n 0 / 2 ^ k in
      let y = get_or t n 0 / 2 ^ k in
      rw (add-suc, bit-of s n k h, bit-of t n k h, ← add-one k, ← shr-shr (get_or s n 0) k 1, ← shr-shr (get_or t n 0) k 1)
      (omega (arith, bits-more s t n k (omega arith), ones-one x y))

  -- byte n, and the number of the w bytes from n on
  module _ (s t : List ℕ) (B : AreBytes s) (C : AreBytes t) where
    pub byte_more : (n : ℕ) → tally f s t (8 * suc n) ≡ tally f s t (8 * n) + ones (op (get_or s n 0) (get_or t n 0))
    byte_more n =
        let all = rw (div-eq_of_lt (B n), div-eq_of_lt (C n), ones_none) at (bits-more s t n 8 (omega arith)) in
        rw (mul-suc 8 n) (omega arith)

    bytes-more : (w n : ℕ) → tally f s t (8 * (n + w)) ≡ tally f s t (8 * n) + ones (op (number_at w s n) (number_at w t n))
    unfolding number_at
    bytes-more zero n = rw (ones_none, add-zero n, add-zero (tally f s t (8 * n)))
    bytes-more (suc w) n =
        let lower = bytes-more w n in
        let highest = byte_more (n + w) in
        rw (add-suc n w, pow-bytes w, ones-block (8 * w) _ _ _ _ (number_lt w s n B) (number_lt w t n C)) (omega arith)

-- ---- what a loop keeps: h is the tally of the first n bytes
pub record Counted (f : ℕ → ℕ → ℕ) (s t : List ℕ) (n h : ℕ) : Type 0 where
  pub first_bytes : AreBytes s
  pub second_bytes : AreBytes t
  pub count : h ≡ tally f s t (8 * n)

pub counted_none : (f : ℕ → ℕ → ℕ) (s t : List ℕ) → AreBytes s → AreBytes t → Counted f s t 0 0
unfolding total
counted_none f s t B C = record { first_bytes = B; second_bytes = C; count = refl }

module _ {op f : ℕ → ℕ → ℕ} (d : Digitwise op f) {s t : List ℕ} where
  pub counted-le : {n h : ℕ} → Counted f s t n h → h ≤ 8 * n
  counted-le {n} c = omega (arith, c.count, tally-le d s t (8 * n))

  counted-more : (w n h : ℕ) → Counted f s t n h → Counted f s t (n + w) (h + ones (op (number_at w s n) (number_at w t n)))
  counted-more w n h c =
      record { first_bytes = c.first_bytes; second_bytes = c.second_bytes; count = rw c.count (sym (bytes-more d s t c.first_bytes c.second_bytes w n)) }

  -- a byte more, and eight bytes more, of which x and y are the numbers
  pub counted-byte : {n h : ℕ} → Counted f s t n h → Counted f s t (n + 1) (h + ones (op (get_or s n 0) (get_or t n 0)))
  counted-byte {n} {h} c = rw (one_byte s n, one_byte t n) (counted-more 1 n h c)

  pub counted-word : (k : ℕ) {h x y : ℕ} → x ≡ number_at 8 s (8 * k) → y ≡ number_at 8 t (8 * k)
      → Counted f s t (8 * k) h → Counted f s t (8 * (k + 1)) (h + ones (op x y))
  counted-word k {h} p q c =
      let next : 8 * (k + 1) ≡ 8 * k + 8 = omega arith in
      rw (p, q, next) (counted-more 8 (8 * k) h c)
