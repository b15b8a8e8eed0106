-- Negation commutes with rounding and with products: negating an operand negates the result. By cases.
use mathlib.Core.Path.{◌≡◌, refl, sym, ap, ◌∙◌}
use Prim.Native.Nat.{ℕ, zero, suc, ◌+◌, ◌*◌, ◌^◌}
use mathlib.Core.Bool.{Bool, true, false, not, cond, not-not}
use lib.Dec.{ltb, eqb}
use lib.Ieee.{Float, nan, inf, fin, Format, prec, emax, low, unlike, up, down, odd, units, round, neg, mul}
use lib.Ieee.Fits.{round_is}
use Rattle.float_laws.proofs.Sign.{unlike-not}
use Rattle.float_laws.proofs.Swap.{mul_comm}

pub neg-neg : (x : Float) → neg (neg x) ≡ x
unfolding neg
neg-neg nan = refl
neg-neg (inf s) = rw (not-not s)
neg-neg (fin s m e) = rw (not-not s)

neg-cond : (b : Bool) (x y : Float) → neg (cond b x y) ≡ cond b (neg x) (neg y)
neg-cond true x y = refl
neg-cond false x y = refl

-- ---- a rounding
neg-odd : (d : ℕ) (s : Bool) (q k l : ℕ) → neg (odd d s q k l) ≡ odd d (not s) q k l
unfolding neg odd
neg-odd d s zero k l = refl
neg-odd d s (suc q) k l = refl

neg-units : (f : Format) (s : Bool) (q k : ℕ) → neg (units f s q k) ≡ units f (not s) q k
unfolding neg units
neg-units f s q k = neg-cond (ltb (q * 2 ^ k) (2 ^ (low f + suc (emax f)))) _ (inf s) ∙ rw (neg-odd (suc (prec f)) s q k (low f))

pub neg-round : (f : Format) (s : Bool) (a c : ℕ) → neg (round f s a c) ≡ round f (not s) a c
neg-round f s a c = ap neg (round_is f s a c) ∙ neg-units f s _ _ ∙ sym (round_is f (not s) a c)

-- ---- a product
pub neg-mul : (f : Format) (x y : Float) → mul f (neg x) y ≡ neg (mul f x y)
unfolding mul neg
neg-mul f nan y = refl
neg-mul f (inf s) nan = refl
neg-mul f (inf s) (inf t) = rw (unlike-not s t)
neg-mul f (inf s) (fin t n d) = rw (unlike-not s t) (sym (neg-cond (eqb n 0) nan (inf (unlike s t))))
neg-mul f (fin s m e) nan = refl
neg-mul f (fin s m e) (inf t) = rw (unlike-not s t) (sym (neg-cond (eqb m 0) nan (inf (unlike s t))))
neg-mul f (fin s m e) (fin t n d) = rw (unlike-not s t) (sym (neg-round f (unlike s t) (m * up e * (n * up d)) (down e * down d)))

pub mul-neg : (f : Format) (x y : Float) → mul f x (neg y) ≡ neg (mul f x y)
mul-neg f x y = mul_comm f x (neg y) ∙ neg-mul f y x ∙ ap neg (mul_comm f y x)
