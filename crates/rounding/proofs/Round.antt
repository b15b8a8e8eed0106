-- A fraction rounded to nearest, for both formats at once: the value nearest to a / d * 2 ^ k smallest values is `closest a d` of them, 2 ^ k times, by the law of the two neighbours (`floor-nearest`). So `round`, by which sums and products round, gives the nearest value.
use Rattle.std.proofs.Common.{◌≡◌, ℕ, suc, ◌+◌, ◌-◌, ◌*◌, ◌/◌, ◌%◌, ◌^◌, ◌<◌, ◌≤◌, Bool, cond, T, ◌⊎◌, sym, ap, ◌∙◌, subst, inl, inr, le_trans, le_refl, le_of_suc-le-suc, lt_of_le_of_lt, le_of_lt, add-le-add, add-suc, mul-le-mul_right, mod-lt, lt-suc_self, eq-zero-or-pos, le_antisymm, lt_of_mul-lt-mul_right, mul-lt-mul_of_pos_right, mul-pos, lt_of_not-le, div-add-mod', le-div_iff_mul-le, le_of_mul-le-mul_right, arith, pow_pos, pow-add, le-ltb, lt-ltb}
use Prim.Native.Nat.{compare, Ordering}
use native.Mathlib.Nat.{div-div-eq-div-mul}
use native.Mathlib.Decide.{dec_lt}
use lib.Pow.{pow-lt}
use lib.Ieee.{Float, inf, Format, prec, emax, low, size, nearest, units, round, hid, ones, top, fits}
use lib.Ieee.Bits.{of_bits-fits}
use lib.Ieee.Digits.{size_reaches}
use lib.Ieee.Exact.{units_val}
use lib.Ieee.Fits.{two, kept-lt, nearest-le, odd-fits, round_is}
use lib.Ieee.Nearest.{closest, nearest-ge}
use Rattle.float_laws.proofs.Value.{value-unique}
use Rattle.rounding.specs.Nearest.{Nearest, IsRounded}
use Rattle.rounding.specs.Inner.Pick.{count}
use Rattle.rounding.proofs.Compare.{Compared, compared, compare-lt, compare-eq, compare-gt, compare-scale}
use Rattle.rounding.proofs.Closest.{nearest-add-even}
use Rattle.rounding.proofs.Patterns.{Full, full-suc, signed, signed-infinity, signed-value, hid-even, twice_hid, count_at, count-top, count-lt, count-le}
use Rattle.rounding.proofs.Nearest.{Increasing, floor-nearest, top-nearest}

-- ---- q * 2 ^ k smallest values are the pattern k * hid + q; from an infinity's pattern on, the infinity
module _ (f : Format) (s : Bool) (q k : ℕ) (full : Full (hid f) k q) (most : q ≤ 2 * hid f) where
  signed_units : k * hid f + q < ones f * hid f → signed f s (k * hid f + q) ≡ units f s q k
  unfolding units
  signed_units l =
      let fine : q * 2 ^ k < 2 ^ (low f + suc (emax f)) = rw (← count_at f k q full most, ← count-top f) (count-lt f (k * hid f + q) (ones f * hid f) l) in
      let q-le : q ≤ 2 ^ prec f = rw (← twice_hid f) most in
      let holds : T (fits f (units f s q k)) = rw (lt-ltb (q * 2 ^ k) (2 ^ (low f + suc (emax f))) fine) (odd-fits f (suc (prec f)) s q k (lt_of_le_of_lt q-le (pow-lt (lt-suc_self (prec f)))) q-le fine) in
      value-unique f (signed f s (k * hid f + q)) (units f s q k) s (q * 2 ^ k) (2 ^ low f) (pow_pos (low f))
      (of_bits-fits f (cond s (top f) 0 + (k * hid f + q))) holds (rw (← count_at f k q full most) (signed-value f s (k * hid f + q) l)) (units_val f s q k fine)

  overflow-units : ones f * hid f ≤ k * hid f + q → inf s ≡ units f s q k
  unfolding units
  overflow-units h =
      let over : 2 ^ (low f + suc (emax f)) ≤ q * 2 ^ k = rw (← count_at f k q full most, ← count-top f) (count-le f (ones f * hid f) (k * hid f + q) h) in
      rw (le-ltb (q * 2 ^ k) (2 ^ (low f + suc (emax f))) over)

full-nearest : (h k w : ℕ) (o : Ordering) → Full h k w → Full h k (nearest w o)
full-nearest h k w o (inl z) = inl z
full-nearest h k w o (inr a) = inr (le_trans a (nearest-ge w o))

-- ---- N / C is a / d * 2 ^ k smallest values, and a / d has no more whole digits than the format keeps
module _ (f : Format) (s : Bool) (N C a d k : ℕ) (pC : 0 < C) (pd : 0 < d) (same : N * d ≡ a * 2 ^ k * C) (less : a / d < 2 * hid f) (full : Full (hid f) k (a / d)) where
  abbrev U : ℕ
  U = 2 ^ k

  -- the pattern of the largest value that is not above N / C
  abbrev floor : ℕ
  floor = k * hid f + a / d

  count-floor : count f floor ≡ a / d * U
  count-floor = count_at f k (a / d) full (le_of_lt less)

  count_next : count f (suc floor) ≡ suc (a / d) * U
  count_next = rw (← add-suc (k * hid f) (a / d)) (count_at f k (suc (a / d)) (full-suc (hid f) k (a / d) full) less)

  abbrev mid : ℕ → ℕ
  mid M = M * C

  rising : Increasing mid
  rising x y l = mul-lt-mul_of_pos_right l pC

  -- everything over the common d * (U * C)
  scale-pos : 0 < U * C
  scale-pos = mul-pos (pow_pos k) pC

  number-scaled : 2 * N * d ≡ 2 * a * (U * C)
  number-scaled = omega arith

  double-scaled : (x : ℕ) → mid (x * U + x * U) * d ≡ 2 * (x * d) * (U * C)
  double-scaled x = omega arith

  midway-scaled : (x : ℕ) → mid (x * U + suc x * U) * d ≡ (2 * (x * d) + d) * (U * C)
  midway-scaled x = omega arith

  floor-le : mid (count f floor + count f floor) ≤ 2 * N
  floor-le = rw count-floor (le_of_mul-le-mul_right {k = d} (rw (double-scaled (a / d), number-scaled) (mul-le-mul_right (U * C) (part (a / d) (a % d) (div-add-mod' a d)))) pd)
    where
      part : (w r : ℕ) → w * d + r ≡ a → 2 * (w * d) ≤ 2 * a
      part w r e = omega arith

  lt-next : 2 * N < mid (count f (suc floor) + count f (suc floor))
  lt-next = rw count_next (lt_of_mul-lt-mul_right d (rw (double-scaled (suc (a / d)), number-scaled) (mul-lt-mul_of_pos_right (part (a / d) (a % d) (div-add-mod' a d) (mod-lt a pd)) scale-pos)))
    where
      part : (w r : ℕ) → w * d + r ≡ a → r < d → 2 * a < 2 * (suc w * d)
      part w r e l = omega arith

  compare-midway : compare (2 * N) (mid (count f floor + count f (suc floor))) ≡ compare (a % d * 2) d
  compare-midway =
      rw (count-floor, count_next)
      (compare-scale (2 * a) (2 * (a / d * d) + d) (2 * N) (mid (a / d * U + suc (a / d) * U)) d (U * C) pd scale-pos number-scaled (midway-scaled (a / d))
      ∙ compare-remainder (a / d) (a % d) (div-add-mod' a d))
    where
      compare-remainder : (w r : ℕ) → w * d + r ≡ a → compare (2 * a) (2 * (w * d) + d) ≡ compare (r * 2) d
      compare-remainder w r e = go (compare (r * 2) d) (compared (r * 2) d)
        where
          go : (o : Ordering) → Compared o (r * 2) d → compare (2 * a) (2 * (w * d) + d) ≡ o
          go Ordering.lt c = compare-lt (2 * a) (2 * (w * d) + d) (omega arith)
          go Ordering.eq c = compare-eq (2 * a) (2 * (w * d) + d) (omega arith)
          go Ordering.gt c = compare-gt (2 * a) (2 * (w * d) + d) (omega arith)

  -- the field's weight is even
  nearest-floor : (o : Ordering) → nearest floor o ≡ k * hid f + nearest (a / d) o
  nearest-floor o = let even : k * hid f ≡ 2 * (k * 2 ^ (prec f - 2)) = rw (hid-even f) (turn k (2 ^ (prec f - 2))) in rw even (nearest-add-even (k * 2 ^ (prec f - 2)) (a / d) o)
    where
      turn : (k p : ℕ) → k * (2 * p) ≡ 2 * (k * p)
      turn k p = omega arith

  -- the pattern of the nearest value; from an infinity's pattern on it stands for the infinity
  abbrev pub nearest_pattern : ℕ
  nearest_pattern = k * hid f + closest a d

  nearest-signed : floor < ones f * hid f → Nearest f s (2 * N) mid (signed f s nearest_pattern)
  nearest-signed l =
      subst (λ (x : ℕ). Nearest f s (2 * N) mid (signed f s x)) (ap (nearest floor) compare-midway ∙ nearest-floor (compare (a % d * 2) d))
      (floor-nearest f s (2 * N) mid rising floor l floor-le lt-next)

  pub nearest_finite : nearest_pattern < ones f * hid f → Nearest f s (2 * N) mid (signed f s nearest_pattern)
  nearest_finite l = nearest-signed (lt_of_le_of_lt (add-le-add (le_refl (k * hid f)) (nearest-ge (a / d) (compare (a % d * 2) d))) l)

  pub nearest-overflow : ones f * hid f ≤ nearest_pattern → Nearest f s (2 * N) mid (inf s)
  nearest-overflow h = go (dec_lt floor (ones f * hid f))
    where
      go : Dec (floor < ones f * hid f) → Nearest f s (2 * N) mid (inf s)
      go (yes l) =
          let most : nearest_pattern ≤ suc floor = rw (← add-suc (k * hid f) (a / d)) (add-le-add (le_refl (k * hid f)) (nearest-le (a / d) (compare (a % d * 2) d))) in
          subst (λ (y : Float). Nearest f s (2 * N) mid y) (ap (signed f s) (le_antisymm (le_trans most l) h) ∙ signed-infinity f s) (nearest-signed l)
      go (no n) =
          let high = count-le f (ones f * hid f) floor (le_of_suc-le-suc (lt_of_not-le n)) in
          top-nearest f s (2 * N) mid rising (le_trans (mul-le-mul_right C (add-le-add high high)) floor-le)

  units-nearest : Nearest f s (2 * N) mid (units f s (closest a d) k)
  units-nearest = go (dec_lt nearest_pattern (ones f * hid f))
    where
      closest-full : Full (hid f) k (closest a d)
      closest-full = full-nearest (hid f) k (a / d) (compare (a % d * 2) d) full

      most : closest a d ≤ 2 * hid f
      most = le_trans (nearest-le (a / d) (compare (a % d * 2) d)) less

      go : Dec (nearest_pattern < ones f * hid f) → Nearest f s (2 * N) mid (units f s (closest a d) k)
      go (yes l) = subst (λ (y : Float). Nearest f s (2 * N) mid y) (signed_units f s (closest a d) k closest-full most l) (nearest_finite l)
      go (no n) = let h = le_of_suc-le-suc (lt_of_not-le n) in subst (λ (y : Float). Nearest f s (2 * N) mid y) (overflow-units f s (closest a d) k closest-full most h) (nearest-overflow h)

-- ---- `round` drops as many digits as the whole part has too many
pub round-nearest : (f : Format) (s : Bool) (a c : ℕ) → 0 < c → IsRounded f s a c (round f s a c)
round-nearest f s a c pc =
    let n = a * 2 ^ low f in
    let z = size (n / c) in
    let k = z - prec f in
    let whole : n / c / 2 ^ k ≡ n / (c * 2 ^ k) = div-div-eq-div-mul n c (2 ^ k) in
    subst (λ (y : Float). IsRounded f s a c y) (sym (round_is f s a c))
    (units-nearest f s n c n (c * 2 ^ k) k pc (mul-pos pc (pow_pos k)) (turn n c (2 ^ k))
    (rw (← whole, twice_hid f) (kept-lt (prec f) (n / c)))
    (rw (← whole) (full (n / c) (eq-zero-or-pos k))))
  where
    turn : (n c u : ℕ) → n * (c * u) ≡ n * u * c
    turn n c u = omega arith

    full : (x : ℕ) → (size x - prec f ≡ 0) ⊎ (0 < size x - prec f) → Full (hid f) (size x - prec f) (x / 2 ^ (size x - prec f))
    full x (inl e) = inl e
    full x (inr g) =
        let all : prec f - 1 + (size x - prec f) < size x = omega (arith, two f) in
        inr ((le-div_iff_mul-le (pow_pos (size x - prec f))).1 (rw (← pow-add 2 (prec f - 1) (size x - prec f)) (size_reaches x (prec f - 1 + (size x - prec f)) all)))
