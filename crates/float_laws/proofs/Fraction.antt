-- A value may be replaced by any fraction that equals it. The fraction rounds to it, and sums and products depend on the fractions' values
-- alone: a fraction multiplied through rounds as before, and so does a sum over one denominator.
use mathlib.Core.Path.{◌≡◌, sym, ◌∙◌}
use Prim.Native.Nat.{ℕ, ◌+◌, ◌-◌, ◌*◌, ◌<◌}
use native.Mathlib.Nat.{mul_comm, mul_assoc, mul_right_comm, mul-mul-mul_comm, add-mul, mul-sub, mul-pos, mul-lt-mul_of_pos_right, zero-mul}
use mathlib.Core.Bool.{Bool, false}
use lib.IntN.{ℤ}
use lib.Dec.{T}
use lib.Ieee.{Float, fin, Format, unlike, up, down, round, sum, add, mul, fits}
use lib.Ieee.Fits.{down_pos}
use lib.Ieee.Exact.{HasValue}
use lib.Ieee.Scale.{round_same}
use Rattle.float_laws.proofs.Sum.{SumCase, same_sign, right_larger, left_larger, cancelling, sum-case, sum_is}
use Rattle.float_laws.proofs.Value.{finite-form, round-self}

pub round-value : (f : Format) (x : Float) (s : Bool) (a c : ℕ) → 0 < c → T (fits f x) → HasValue x s a c → round f s a c ≡ x
round-value f x s a c C h v =
    let (m, e, p, g) = finite-form x s a c v in
    round_same f s a c (m * up e) (down e) C (down_pos e) (sym g) ∙ round-self f s m e (rw (← p) h) ∙ sym p

-- ---- multiplied through by k
sub-mul : (a b k : ℕ) → a * k - b * k ≡ (a - b) * k
sub-mul a b k = rw (mul_comm a k, mul_comm b k, mul_comm (a - b) k) (sym (mul-sub k a b))

module _ (f : Format) (c k : ℕ) (C : 0 < c) (K : 0 < k) where
  round-scale : (s : Bool) {a : ℕ} (n : ℕ) → a ≡ n * k → round f s a (c * k) ≡ round f s n c
  round-scale s n e = rw e (round_same f s (n * k) (c * k) n c (mul-pos C K) C (mul_assoc n k c ∙ rw (mul_comm k c)))

  sum-case-scale : {s t : Bool} {a b : ℕ} → SumCase s a t b → sum f s (a * k) t (b * k) (c * k) ≡ sum f s a t b c
  sum-case-scale (same_sign {s} {a} {b}) = sum_is f (c * k) same_sign ∙ round-scale s (a + b) (sym (add-mul a b k)) ∙ sym (sum_is f c same_sign)
  sum-case-scale (right_larger {t} {a} {b} o h) =
      sum_is f (c * k) (right_larger o (mul-lt-mul_of_pos_right h K)) ∙ round-scale t (b - a) (sub-mul b a k) ∙ sym (sum_is f c (right_larger o h))
  sum-case-scale (left_larger {s} {a} {b} o h) =
      sum_is f (c * k) (left_larger o (mul-lt-mul_of_pos_right h K)) ∙ round-scale s (a - b) (sub-mul a b k) ∙ sym (sum_is f c (left_larger o h))
  sum-case-scale (cancelling o) = sum_is f (c * k) (cancelling o) ∙ round-scale false 0 (sym (zero-mul k)) ∙ sym (sum_is f c (cancelling o))

  sum-scale : (s : Bool) (a : ℕ) (t : Bool) (b : ℕ) → sum f s (a * k) t (b * k) (c * k) ≡ sum f s a t b c
  sum-scale s a t b = sum-case-scale (sum-case s a t b)

-- ---- a sum: x / p is a / c, and so is x * q / (p * q)
fraction-expand : (x p q a c : ℕ) → x * c ≡ a * p → x * q * c ≡ a * (p * q)
fraction-expand x p q a c h = mul_right_comm x q c ∙ rw h (mul_assoc a p q)

add-fin : (f : Format) (s : Bool) (m : ℕ) (e : ℤ) (t : Bool) (n : ℕ) (d : ℤ) (a b c : ℕ)
    → 0 < c → m * up e * c ≡ a * down e → n * up d * c ≡ b * down d → add f (fin s m e) (fin t n d) ≡ sum f s a t b c
unfolding add
add-fin f s m e t n d a b c C h k =
    let p = down e * down d in
    let P = mul-pos (down_pos e) (down_pos d) in
    let left : m * up e * down d * c ≡ a * p = fraction-expand (m * up e) (down e) (down d) a c h in
    let right : n * up d * down e * c ≡ b * p = fraction-expand (n * up d) (down d) (down e) b c k ∙ rw (mul_comm (down d) (down e)) in
    sym (sum-scale f p c P C s (m * up e * down d) t (n * up d * down e)) ∙ rw (left, right, mul_comm p c) (sum-scale f c p C P s a t b)

pub add-value : (f : Format) (x y : Float) (s t : Bool) (a b c : ℕ)
    → 0 < c → HasValue x s a c → HasValue y t b c → add f x y ≡ sum f s a t b c
add-value f x y s t a b c C v w =
    let (m, e, p, h) = finite-form x s a c v in
    let (n, d, q, k) = finite-form y t b c w in
    rw (p, q) (add-fin f s m e t n d a b c C h k)

-- ---- a product
mul-fin : (f : Format) (s : Bool) (m : ℕ) (e : ℤ) (t : Bool) (n : ℕ) (d : ℤ) (a b c k : ℕ) → 0 < c → 0 < k
    → m * up e * c ≡ a * down e → n * up d * k ≡ b * down d → mul f (fin s m e) (fin t n d) ≡ round f (unlike s t) (a * b) (c * k)
unfolding mul
mul-fin f s m e t n d a b c k C K h g =
    round_same f (unlike s t) (m * up e * (n * up d)) (down e * down d) (a * b) (c * k) (mul-pos (down_pos e) (down_pos d)) (mul-pos C K)
    (rw (mul-mul-mul_comm (m * up e) (n * up d) c k, h, g) (mul-mul-mul_comm a (down e) b (down d)))

pub mul-value : (f : Format) (x y : Float) (s t : Bool) (a b c k : ℕ)
    → 0 < c → 0 < k → HasValue x s a c → HasValue y t b k → mul f x y ≡ round f (unlike s t) (a * b) (c * k)
mul-value f x y s t a b c k C K v w =
    let (m, e, p, h) = finite-form x s a c v in
    let (n, d, q, g) = finite-form y t b k w in
    rw (p, q) (mul-fin f s m e t n d a b c k C K h g)
