-- What `IsWholeRoot` says: w * w ≤ n < (w + 1) * (w + 1), and what bounds w. By arithmetic. What lies outside of `whole` cites these laws, and of `Digits.antt` only `no_tie`.
use Rattle.std.proofs.Common.{ℕ, suc, ◌*◌, ◌<◌, ◌≤◌, le_trans, le_of_suc-le-suc, mul-le-mul, lt_of_not-le, not-le_of_lt, arith}
use Rattle.rounding.specs.Inner.Parts.{IsWholeRoot}

pub square_le : {n w r : ℕ} → IsWholeRoot n w r → w * w ≤ n
square_le u = omega (arith, u.is)

pub lt-next-square : {n w r : ℕ} → IsWholeRoot n w r → n < suc w * suc w
lt-next-square u = omega (arith, u.is, u.small)

-- the root is at least p if p * p ≤ n, and below p if n < p * p
pub root_ge : {n w r : ℕ} (p : ℕ) → IsWholeRoot n w r → p * p ≤ n → p ≤ w
root_ge p u h = le_of_suc-le-suc (lt_of_not-le (λ g. not-le_of_lt (lt-next-square u) (le_trans (mul-le-mul g g) h)))

pub root-lt : {n w r : ℕ} (p : ℕ) → IsWholeRoot n w r → n < p * p → w < p
root-lt p u h = lt_of_not-le (λ g. not-le_of_lt h (le_trans (mul-le-mul g g) (square_le u)))
