-- `closest`, a fraction's nearest whole number, in whole numbers only: it is one division (`closest-by-division`), an even whole part may be taken off, and it has an upper bound. By cases of the comparison with one half.
use Rattle.std.proofs.Common.{◌≡◌, ℕ, zero, suc, ◌+◌, ◌-◌, ◌*◌, ◌/◌, ◌%◌, ◌<◌, ◌≤◌, sym, refl, ap, ◌∙◌, le_trans, add-zero, add_assoc, add-suc, mod-lt, mod-eq_of_lt, mul_comm, div-lt_iff_lt-mul, div-add-mod', arith}
use Prim.Native.Nat.{compare, Ordering}
use native.Mathlib.Nat.{mul-add-div, mul-add-mod_self_left, div-eq_of_lt, div-eq_of_lt-le}
use lib.Ieee.{nearest}
use lib.Ieee.Fits.{nearest-le}
use lib.Ieee.Nearest.{closest}
use Rattle.rounding.proofs.Compare.{Compared, compared, compare-lt}

pub closest-le : (a d n : ℕ) → 0 < d → a < n * d → closest a d ≤ n
closest-le a d n p h = le_trans (nearest-le (a / d) (compare (a % d * 2) d)) ((div-lt_iff_lt-mul p).1 h)

pub closest-zero : (a d : ℕ) → a * 2 < d → closest a d ≡ 0
closest-zero a d h = let l : a < d = omega arith in rw (div-eq_of_lt l, mod-eq_of_lt l, compare-lt (a * 2) d h)

-- ---- adding an even number commutes with rounding
pub nearest-add-even : (n w : ℕ) (o : Ordering) → nearest (2 * n + w) o ≡ 2 * n + nearest w o
nearest-add-even n w Ordering.lt = refl
nearest-add-even n w Ordering.gt = sym (add-suc (2 * n) w)
nearest-add-even n w Ordering.eq = rw (mul-add-mod_self_left 2 n w) (add_assoc (2 * n) w (w % 2))

pub closest-add-even : (n a d : ℕ) → 0 < d → closest (d * (2 * n) + a) d ≡ 2 * n + closest a d
closest-add-even n a d p = rw (mul-add-div p (2 * n) a, mul-add-mod_self_left d (2 * n) a) (nearest-add-even n (a / d) (compare (a % d * 2) d))

-- ---- by one division: half of the divisor is added first, less one where the whole part is even
pub closest-by-division : (q h : ℕ) → 0 < h → (q + (h - 1) + q / (h * 2) % 2) / (h * 2) ≡ closest q (2 * h)
closest-by-division q h p =
    let d = h * 2 in
    go (q / d) (q % d) (q / d % 2) (div-add-mod' q d) (mod-lt q (omega arith)) refl (compare (q % d * 2) d) (compared (q % d * 2) d)
    ∙ ap (closest q) (mul_comm h 2)
  where
    go : (w r t : ℕ) → w * (h * 2) + r ≡ q → r < h * 2 → w % 2 ≡ t → (o : Ordering) → Compared o (r * 2) (h * 2) → (q + (h - 1) + t) / (h * 2) ≡ nearest w o
    go w r t e l b Ordering.lt c = div-eq_of_lt-le (h * 2) (omega arith) (omega arith)
    go w r t e l b Ordering.gt c = div-eq_of_lt-le (h * 2) (omega arith) (omega arith)
    go w r zero e l b Ordering.eq c = rw (b, add-zero w) (div-eq_of_lt-le (h * 2) (omega arith) (omega arith))
    go w r (suc zero) e l b Ordering.eq c = rw b (div-eq_of_lt-le (h * 2) (omega arith) (omega arith))
    go w r (suc (suc t)) e l b Ordering.eq c = absurd (none w t b)
      where
        none : (w t : ℕ) → w % 2 ≡ suc (suc t) → ⊥
        none w t b = omega arith
