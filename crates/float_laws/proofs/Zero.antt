-- What a zero does: x + 0 is x unless x is -0; x + -0 and x - 0 are x; a sum is -0 only if both terms are; a finite value times a zero
-- is a zero. A sum is taken in smallest values, by its cases (`SumCase`); no number of them but 0 rounds to a zero.
use mathlib.Core.Path.{◌≡◌, refl, sym, ◌∙◌}
use mathlib.Core.Logic.{◌≢◌}
use Prim.Native.Nat.{ℕ, ◌*◌}
use native.Mathlib.Nat.{mul-zero, add-zero, sub-zero, mul-pos, zero-lt-suc}
use native.Mathlib.Omega.{arith}
use mathlib.Core.Bool.{Bool, true, false, true≢false, false≢true}
use lib.Dec.{T}
use lib.Ieee.{Float, nan, inf, fin, Format, unlike, up, down, round, add, sub, neg, mul, fits}
use lib.Ieee.Fits.{down_pos}
use lib.Ieee.Exact.{HasValue}
use lib.Ieee.Scale.{finite}
use Rattle.float_laws.specs.Zero.{signed_zero, plus_zero, minus_zero, sign}
use Rattle.float_laws.proofs.Sign.{plus_minus, minus_plus, unlike-comm}
use Rattle.float_laws.proofs.Sum.{SumCase, same_sign, right_larger, left_larger, cancelling, sum-case, sum_sign, sum_size, sum_is}
use Rattle.float_laws.proofs.Swap.{mul_comm}
use Rattle.float_laws.proofs.Squared.{sub-squared}
use Rattle.float_laws.proofs.Value.{value-unique}
use Rattle.float_laws.proofs.Fraction.{round-value, add-value}
use Rattle.float_laws.proofs.Smallest.{scale, scale-pos, zero-fits, zero-value, round-zero, round-minus_zero, in-smallest}

-- ---- a sum that is -0
finite-terms : (f : Format) (x y : Float) → T (finite (add f x y)) → T (finite x) × T (finite y)
unfolding add
finite-terms f nan y h = absurd h
finite-terms f (inf s) nan h = absurd h
finite-terms f (inf true) (inf true) h = absurd h
finite-terms f (inf true) (inf false) h = absurd h
finite-terms f (inf false) (inf true) h = absurd h
finite-terms f (inf false) (inf false) h = absurd h
finite-terms f (inf s) (fin t n d) h = absurd h
finite-terms f (fin s m e) nan h = absurd h
finite-terms f (fin s m e) (inf t) h = absurd h
finite-terms f (fin s m e) (fin t n d) h = (tt, tt)

module _ (f : Format) where
  both_zero : {s t : Bool} {a b : ℕ} (w : SumCase s a t b) → sum_sign w ≡ true → sum_size w ≡ 0
      → (s ≡ true) × (a ≡ 0) × (t ≡ true) × (b ≡ 0)
  both_zero same_sign p z = (p, omega arith, p, omega arith)
  both_zero (right_larger o h) p z = absurd (omega arith)
  both_zero (left_larger o h) p z = absurd (omega arith)
  both_zero (cancelling o) p z = absurd (false≢true p)

  is-minus_zero : (x : Float) → T (fits f x) → HasValue x true 0 (scale f) → x ≡ minus_zero
  is-minus_zero x h v = value-unique f x minus_zero true 0 (scale f) (scale-pos f) h (zero-fits f true) v (zero-value true (scale f))

  pub minus_zero-terms : (x y : Float) → T (fits f x) → T (fits f y) → add f x y ≡ minus_zero → (x ≡ minus_zero) × (y ≡ minus_zero)
  minus_zero-terms x y h k e =
      let (p, q) = finite-terms f x y (rw e tt) in
      let (a, u) = in-smallest f x h p in
      let (b, v) = in-smallest f y k q in
      let w = sum-case (sign x) a (sign y) b in
      let rounded = add-value f x y (sign x) (sign y) a b (scale f) (scale-pos f) u v ∙ sum_is f (scale f) w in
      let (r, z) = round-minus_zero f (sum_sign w) (sum_size w) (sym rounded ∙ e) in
      let (s, A, t, B) = both_zero w r z in
      (is-minus_zero x h (rw (s, A) at u), is-minus_zero y k (rw (t, B) at v))

  -- ---- a zero as a term
  unchanged : {s t : Bool} {k : ℕ} (w : SumCase s k t 0) → (t ≡ false → round f s k (scale f) ≢ minus_zero)
      → round f (sum_sign w) (sum_size w) (scale f) ≡ round f s k (scale f)
  unchanged (same_sign {a = k}) n = rw (add-zero k)
  unchanged (right_larger o h) n = absurd (omega arith)
  unchanged (left_larger {a = k} o h) n = rw (sub-zero k)
  unchanged (cancelling plus_minus) n = refl
  unchanged (cancelling minus_plus) n = absurd (n refl (round-zero f true (scale f) (scale-pos f)))

  add-finite : (x : Float) (t : Bool) → T (fits f x) → T (finite x) → (t ≡ false → x ≢ minus_zero) → add f x (signed_zero t) ≡ x
  add-finite x t h p n =
      let (k, v) = in-smallest f x h p in
      let rounds : round f (sign x) k (scale f) ≡ x = round-value f x (sign x) k (scale f) (scale-pos f) h v in
      let w = sum-case (sign x) k t 0 in
      add-value f x (signed_zero t) (sign x) t k 0 (scale f) (scale-pos f) v (zero-value t (scale f))
      ∙ sum_is f (scale f) w
      ∙ unchanged w (λ z e. n z (sym rounds ∙ e))
      ∙ rounds

  -- unless the zero is +0 and x is -0
  add-signed_zero : (x : Float) (t : Bool) → T (fits f x) → (t ≡ false → x ≢ minus_zero) → add f x (signed_zero t) ≡ x
  unfolding add
  add-signed_zero nan t h n = refl
  add-signed_zero (inf s) t h n = refl
  add-signed_zero (fin s m e) t h n = add-finite (fin s m e) t h tt n

  pub add-plus_zero : (x : Float) → T (fits f x) → x ≢ minus_zero → add f x plus_zero ≡ x
  add-plus_zero x h n = add-signed_zero x false h (λ _. n)

  pub add-minus_zero : (x : Float) → T (fits f x) → add f x minus_zero ≡ x
  add-minus_zero x h = add-signed_zero x true h (λ e. absurd (true≢false e))

  -- ---- a zero taken off
  pub sub-plus_zero : (x : Float) → T (fits f x) → sub f x plus_zero ≡ x
  unfolding sub neg
  sub-plus_zero x h = add-minus_zero x h

  pub sub-plus_zero-squared : (x : Float) → T (fits f x) → mul f (sub f x plus_zero) (sub f x plus_zero) ≡ mul f x x
  sub-plus_zero-squared x h = rw (sub-plus_zero x h)

  pub plus_zero-sub-squared : (x : Float) → T (fits f x) → mul f (sub f plus_zero x) (sub f plus_zero x) ≡ mul f x x
  plus_zero-sub-squared x h = sub-squared f plus_zero x ∙ sub-plus_zero-squared x h

  -- ---- a zero as a factor
  pub mul-signed_zero : (x : Float) (t : Bool) → T (finite x) → mul f x (signed_zero t) ≡ signed_zero (unlike (sign x) t)
  unfolding mul
  mul-signed_zero nan t h = absurd h
  mul-signed_zero (inf s) t h = absurd h
  mul-signed_zero (fin s m e) t h = rw (mul-zero (m * up e)) (round-zero f (unlike s t) (down e * 1) (mul-pos (down_pos e) (zero-lt-suc 0)))

  pub signed_zero-mul : (s : Bool) (y : Float) → T (finite y) → mul f (signed_zero s) y ≡ signed_zero (unlike s (sign y))
  signed_zero-mul s y h = mul_comm f (signed_zero s) y ∙ rw (unlike-comm s (sign y)) (mul-signed_zero y s h)
