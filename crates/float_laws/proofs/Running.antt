-- A sum that starts from +0 is never -0, so a zero term of either sign does not change it: from the laws of a zero. Each step is a law of its own, for
-- sums whose terms come in any order.
use mathlib.Core.Path.{◌≡◌, refl, ap, ap₂}
use Prim.Native.Nat.{ℕ, zero, suc, ◌<◌}
use native.Mathlib.Nat.{le_refl}
use native.Mathlib.Omega.{arith}
use mathlib.Core.Bool.{Bool, true, false, false≢true}
use lib.Dec.{T}
use lib.Ieee.{Float, Format, unlike, add, mul, fits}
use lib.Ieee.Fits.{add-fits}
use lib.Ieee.Scale.{finite}
use Rattle.float_laws.specs.Zero.{signed_zero, plus_zero, sign, FromZero}
use Rattle.float_laws.specs.Running.{running}
use Rattle.float_laws.proofs.Smallest.{zero-fits}
use Rattle.float_laws.proofs.Zero.{minus_zero-terms, add-plus_zero, add-minus_zero, mul-signed_zero, signed_zero-mul}

-- ---- one step
module _ (f : Format) where
  pub plus_zero-from_zero : FromZero f plus_zero
  plus_zero-from_zero = record { fitting = zero-fits f false; not_minus_zero = λ e. false≢true (ap sign e) }

  pub add-from_zero : (x y : Float) → FromZero f x → T (fits f y) → FromZero f (add f x y)
  add-from_zero x y z h = record {
    fitting = add-fits f x y;
    not_minus_zero = λ e. z.not_minus_zero (minus_zero-terms f x y z.fitting h e).0;
  }

  pub add-zero-term : (x : Float) (s : Bool) → FromZero f x → add f x (signed_zero s) ≡ x
  add-zero-term x true z = add-minus_zero f x z.fitting
  add-zero-term x false z = add-plus_zero f x z.fitting z.not_minus_zero

  pub add-mul-zero : (x y : Float) (s : Bool) → FromZero f x → T (finite y) → add f x (mul f y (signed_zero s)) ≡ x
  add-mul-zero x y s z h = rw (mul-signed_zero f y s h) (add-zero-term x (unlike (sign y) s) z)

  pub add-zero-mul : (x : Float) (s : Bool) (y : Float) → FromZero f x → T (finite y) → add f x (mul f (signed_zero s) y) ≡ x
  add-zero-mul x s y z h = rw (signed_zero-mul f s y h) (add-zero-term x (unlike s (sign y)) z)

-- ---- equal terms have equal sums
pub running-same : (f : Format) (t u : ℕ → Float) (n : ℕ) → ((i : ℕ) → i < n → t i ≡ u i) → running f t n ≡ running f u n
unfolding running
running-same f t u zero h = refl
running-same f t u (suc n) h = ap₂ (add f) (running-same f t u n (λ i l. h i (omega arith))) (h n (le_refl (suc n)))
