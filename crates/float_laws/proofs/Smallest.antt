-- Each value that a format holds is a whole number of its smallest values, and no such number but 0 rounds to -0: the smallest value
-- itself is above zero, and rounding keeps the order.
use mathlib.Core.Path.{◌≡◌, refl, sym, ap, ◌∙◌, subst}
use Prim.Native.Nat.{ℕ, zero, suc, ◌*◌, ◌^◌, ◌<◌}
use native.Mathlib.Nat.{zero-mul, zero-lt-suc, mul-le-mul_right}
use native.Mathlib.Omega.{arith}
use mathlib.Core.Bool.{Bool, true, false}
use lib.Dec.{T}
use lib.Pow.{pow_pos, pow-lt}
use lib.Ieee.{Float, nan, inf, fin, Format, prec, low, round, neg, fits}
use lib.Ieee.Fits.{two, two-le_pos}
use lib.Ieee.Exact.{HasValue, round_exact}
use lib.Ieee.Order.{round_mono}
use lib.Ieee.Positive.{above, above_of_le, positive_of_value}
use lib.Ieee.Scale.{finite}
use Rattle.float_laws.specs.Zero.{signed_zero, minus_zero, sign}
use Rattle.float_laws.proofs.Negation.{neg-round}
use Rattle.float_laws.proofs.Value.{multiple}
use Rattle.float_laws.proofs.Fraction.{round-value}

pub zero-fits : (f : Format) (s : Bool) → T (fits f (signed_zero s))
unfolding fits
zero-fits f s = tt

pub zero-value : (s : Bool) (c : ℕ) → HasValue (signed_zero s) s 0 c
zero-value s c = (refl, zero-mul c)

pub round-zero : (f : Format) (s : Bool) (c : ℕ) → 0 < c → round f s 0 c ≡ signed_zero s
round-zero f s c C = round-value f (signed_zero s) s 0 c C (zero-fits f s) (zero-value s c)

-- 1 is so many of the smallest values
abbrev pub scale : Format → ℕ
scale f = 2 ^ low f

pub scale-pos : (f : Format) → 0 < scale f
scale-pos f = pow_pos (low f)

module _ (f : Format) where
  one-exact : HasValue (round f false 1 (scale f)) false 1 (scale f)
  one-exact = round_exact f false 1 (scale f) 1 0 (scale-pos f) (pow-lt (two-le_pos (prec f) (two f))) (pow-lt {i = 0} (omega arith)) refl

  round-above : (k : ℕ) → T (above (round f false (suc k) (scale f)))
  round-above k =
      above_of_le (round f false 1 (scale f)) (round f false (suc k) (scale f))
      (positive_of_value (round f false 1 (scale f)) 1 (scale f) one-exact (zero-lt-suc 0))
      (round_mono f 1 (scale f) (suc k) (scale f) (scale-pos f) (scale-pos f) (mul-le-mul_right (scale f) (zero-lt-suc k)))

  pub round-minus_zero : (s : Bool) (k : ℕ) → round f s k (scale f) ≡ minus_zero → (s ≡ true) × (k ≡ 0)
  unfolding neg
  round-minus_zero s zero e = (ap sign (sym (round-zero f s (scale f) (scale-pos f)) ∙ e), refl)
  round-minus_zero false (suc k) e = absurd (subst (λ (x : Float). T (above x)) e (round-above k))
  round-minus_zero true (suc k) e =
      absurd (subst (λ (x : Float). T (above x)) (sym (neg-round f true (suc k) (scale f)) ∙ ap neg e) (round-above k))

  pub in-smallest : (x : Float) → T (fits f x) → T (finite x) → (k : ℕ) × HasValue x (sign x) k (scale f)
  in-smallest nan h p = absurd p
  in-smallest (inf s) h p = absurd p
  in-smallest (fin s m e) h p = let u = multiple f s m e h in (u.digits * 2 ^ u.shift, (refl, u.is))
