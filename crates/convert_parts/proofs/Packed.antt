-- Bits packed into bytes: how long a 1-bit body is, which bit stands where, and what a loop has that packs a byte.
use mathlib.Core.Path.{◌≡◌, refl, ◌∙◌}
use mathlib.Core.Bool.{Bool, true, false, cond, ◌&&◌}
use Prim.Native.Nat.{ℕ, zero, suc, ◌+◌, ◌-◌, ◌*◌, ◌/◌, ◌%◌, ◌^◌, ◌<◌, ◌≤◌}
use native.Mathlib.Omega.{arith}
use native.Mathlib.Nat.{add-zero}
use native.Mathlib.Numerals.{add-one}
use lib.Dec.{ltb}
use lib.ListN.{length}
use lib.Pow.{pow_mono, pow-add, high}
use borrow.Author.Tests.{lt-ltb, le-ltb}
use Rattle.vector_types.specs.Layout.{ceil, bit_at}
use Rattle.convert_parts.specs.Bits.{packed_byte, packed_bits}
use Rattle.convert_parts.proofs.Pieces.{length-bytes, get_d-bytes}

cond-le : (t : Bool) (w : ℕ) → cond t w 0 ≤ w
cond-le true w = omega arith
cond-le false w = omega arith

cond-times : (t : Bool) (w : ℕ) → cond t w 0 ≡ cond t 1 0 * w
cond-times true w = omega arith
cond-times false w = omega arith

module _ (p : ℕ → Bool) (d : ℕ) where
  -- bit i: p i, where i is below d
  abbrev bit : ℕ → Bool
  bit i = ltb i d && p i

  packed-next : (m j : ℕ) → packed_byte p d m (j + 1) ≡ packed_byte p d m j + cond (bit (8 * m + j)) (2 ^ j) 0
  unfolding packed_byte
  packed-next m j = rw add-one

  packed-small : (m n : ℕ) → packed_byte p d m n < 2 ^ n
  unfolding packed_byte
  packed-small m zero = omega arith
  packed-small m (suc j) = omega (arith, packed-small m j, cond-le (bit (8 * m + j)) (2 ^ j))

  -- the first bits of a byte, and those from j on
  packed-parts : (m j k : ℕ) → (q : ℕ) × (packed_byte p d m (j + k) ≡ q * 2 ^ j + packed_byte p d m j)
  packed-parts m j zero = (0, rw add-zero (omega arith))
  packed-parts m j (suc k) =
      let (q, e) = packed-parts m j k in
      let on = bit (8 * m + (j + k)) in
      let same : j + suc k ≡ j + k + 1 = omega arith in
      (q + cond on 1 0 * 2 ^ k, rw (same, packed-next, e, cond-times on (2 ^ (j + k)), pow-add 2 j k) (omega arith))

  packed-digit : (m j n : ℕ) → j < n → packed_byte p d m n / 2 ^ j % 2 ≡ cond (bit (8 * m + j)) 1 0
  packed-digit m j n h =
      let on = bit (8 * m + j) in
      let (q, e) = packed-parts m (j + 1) (n - j - 1) in
      let same : j + 1 + (n - j - 1) ≡ n = omega arith in
      let whole = rw (same, packed-next, cond-times on (2 ^ j), pow-add 2 j 1) at e in
      let parts : packed_byte p d m n ≡ (q * 2 + cond on 1 0) * 2 ^ j + packed_byte p d m j = omega (arith, whole) in
      rw (parts, high (q * 2 + cond on 1 0) j (packed-small m j)) (omega (arith, cond-le on 1))

  pub length-packed : length (packed_bits p d) ≡ ceil d 8
  unfolding packed_bits
  length-packed = length-bytes (λ m. packed_byte p d m 8) (ceil d 8)

  packed-at : (i : ℕ) → i < 8 * ceil d 8 → bit_at (packed_bits p d) i ≡ cond (bit i) 1 0
  unfolding packed_bits
  packed-at i h =
      let place : 8 * (i / 8) + i % 8 ≡ i = omega arith in
      rw (get_d-bytes (λ m. packed_byte p d m 8) (ceil d 8) (i / 8) (omega arith)) (rw place at (packed-digit (i / 8) (i % 8) 8 (omega arith)))

  -- a bit is 1 exactly if p holds there, and each bit that is not used is 0
  pub packed-bit : (i : ℕ) → i < d → bit_at (packed_bits p d) i ≡ cond (p i) 1 0
  packed-bit i h = packed-at i (omega arith) ∙ simp (lt-ltb i d h)

  pub packed-unused : (i : ℕ) → d ≤ i → i < 8 * ceil d 8 → bit_at (packed_bits p d) i ≡ 0
  packed-unused i h le = packed-at i le ∙ simp (le-ltb i d h)

-- what the loop over the bits of byte m has after j of them
pub record Packing (p : ℕ → Bool) (d m byte weight j : ℕ) : Type 0 where
  pub within : j ≤ 8
  pub worth : weight ≡ 2 ^ j
  pub most : weight ≤ 256
  pub small : byte < weight
  pub sum : byte ≡ packed_byte p d m j

pub pack-none : (p : ℕ → Bool) (d m : ℕ) → Packing p d m 0 1 0
unfolding packed_byte
pack-none p d m = record { within = omega arith; worth = refl; most = omega arith; small = omega arith; sum = refl }

pub pack-next : {p : ℕ → Bool} {d m byte weight j r : ℕ} {on : Bool} → Packing p d m byte weight j → j < 8
    → on ≡ (ltb (8 * m + j) d && p (8 * m + j)) → r ≡ cond on weight 0 → Packing p d m (byte + r) (weight * 2) (j + 1)
pack-next {p} {d} {m} {byte} {weight} {j} {r} {on} s h t e =
    record {
      within = omega arith;
      worth = rw add-one (omega arith);
      most = omega (arith, pow_mono {i = suc j} {j = 8} (omega arith));
      small = omega (arith, cond-le on weight);
      sum = rw (packed-next p d m j, ← s.worth, ← s.sum, ← t, e);
    }

pub pack-all : {p : ℕ → Bool} {d m byte weight j : ℕ} → Packing p d m byte weight j → 8 ≤ j → byte ≡ packed_byte p d m 8
pack-all {j = j} s h = let e : j ≡ 8 = omega arith in rw e at s.sum
