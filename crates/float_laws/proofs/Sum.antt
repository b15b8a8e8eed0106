-- ±a / c + ±b / c, before it is rounded: like signs add the sizes, opposite ones leave the difference with the larger's sign,
-- and opposite ones of equal size leave +0. `sum-case` decides, by comparing a and b.
use mathlib.Core.Path.{◌≡◌, refl, subst}
use Prim.Native.Nat.{ℕ, ◌+◌, ◌-◌, ◌<◌}
use native.Mathlib.Nat.{sub_self, le_refl, le_of_lt}
use native.Mathlib.Omega.{arith}
use mathlib.Core.Bool.{Bool, true, false, and-true, and-false}
use lib.Dec.{ltb}
use borrow.Author.Tests.{lt-ltb, le-ltb, ltb-true, ltb-false}
use lib.Ieee.{Format, round, sum}
use Rattle.float_laws.proofs.Sign.{Opposite, plus_minus, minus_plus, beq-opposite, beq-self}

-- the cases of ±a + ±b
pub data SumCase : Bool → ℕ → Bool → ℕ → Type 0 where
  same_sign : {s : Bool} {a b : ℕ} → SumCase s a s b
  right_larger : {s t : Bool} {a b : ℕ} → Opposite s t → a < b → SumCase s a t b
  left_larger : {s t : Bool} {a b : ℕ} → Opposite s t → b < a → SumCase s a t b
  cancelling : {s t : Bool} {a : ℕ} → Opposite s t → SumCase s a t a

opposite-case : {s t : Bool} → Opposite s t → (a b : ℕ) (p q : Bool) → ltb a b ≡ p → ltb b a ≡ q → SumCase s a t b
opposite-case o a b true q x y = right_larger o (ltb-true a b x)
opposite-case o a b false true x y = left_larger o (ltb-true b a y)
opposite-case {s} {t} o a b false false x y =
    subst (λ (b : ℕ). SumCase s a t b) (omega (arith, ltb-false a b x, ltb-false b a y)) (cancelling o)

pub sum-case : (s : Bool) (a : ℕ) (t : Bool) (b : ℕ) → SumCase s a t b
sum-case true a true b = same_sign
sum-case false a false b = same_sign
sum-case true a false b = opposite-case minus_plus a b (ltb a b) (ltb b a) refl refl
sum-case false a true b = opposite-case plus_minus a b (ltb a b) (ltb b a) refl refl

-- the sign and the size of the sum
abbrev pub sum_sign : {s t : Bool} {a b : ℕ} → SumCase s a t b → Bool
sum_sign (same_sign {s}) = s
sum_sign (right_larger {t} o h) = t
sum_sign (left_larger {s} o h) = s
sum_sign (cancelling o) = false

abbrev pub sum_size : {s t : Bool} {a b : ℕ} → SumCase s a t b → ℕ
sum_size (same_sign {a} {b}) = a + b
sum_size (right_larger {a} {b} o h) = b - a
sum_size (left_larger {a} {b} o h) = a - b
sum_size (cancelling o) = 0

pub sum_is : (f : Format) (c : ℕ) {s t : Bool} {a b : ℕ} (w : SumCase s a t b) → sum f s a t b c ≡ round f (sum_sign w) (sum_size w) c
unfolding sum
sum_is f c (same_sign {s}) = rw (beq-self s)
sum_is f c (right_larger {a} {b} o h) = rw (beq-opposite o, lt-ltb a b h)
sum_is f c (left_larger {s} {a} {b} o h) = rw (beq-opposite o, le-ltb a b (le_of_lt h), lt-ltb b a h, and-true s)
sum_is f c (cancelling {s} {a} o) = rw (beq-opposite o, le-ltb a a (le_refl a), and-false s, sub_self a)
