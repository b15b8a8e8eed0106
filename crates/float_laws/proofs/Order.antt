-- The order of floats is that of their fractions, and a NaN is not in it: it is transitive and asymmetric. Two numbers of which neither is less are equal, or zeros. By cases of the two.
use mathlib.Core.Path.{◌≡◌, refl, sym, ap, ◌∙◌}
use mathlib.Core.Logic.{◌⊎◌, inl, inr}
use mathlib.Core.Bool.{Bool, true, false, true≢false, false≢true}
use Prim.Native.Nat.{ℕ, zero, suc, ◌+◌, ◌*◌, ◌≤◌, ◌<◌}
use native.Mathlib.Nat.{le_of_lt, lt_of_not-le, not-le_of_lt, mul-pos, zero-lt-suc}
use native.Mathlib.Omega.{arith}
use borrow.Author.Tests.{ltb-true, ltb-false, lt-ltb, le-ltb}
use lib.IntN.{ℤ}
use lib.Dec.{T}
use lib.Ieee.{Float, nan, inf, fin, Format, up, down, below, le, lt, eq, ne, is_nan, fits}
use lib.Ieee.Fits.{up_pos, down_pos}
use lib.Ieee.Compare.{differs_from_itself}
use lib.Ieee.Positive.{through, first_pos}
use Rattle.float_laws.specs.Zero.{signed_zero}
use Rattle.float_laws.proofs.Value.{zero_exp, fin-unique}

-- three fractions: x / p < y / q < z / r
less-through : (x y z p q r : ℕ) → 0 < p → x * q < y * p → y * r < z * q → x * r < z * p
less-through x y z p q r P h k = lt_of_not-le (λ (g : z * p ≤ x * r). not-le_of_lt k (through z x y r p q P g (le_of_lt h)))

below-trans : (s t u : Bool) (a b c p q r : ℕ) → 0 < p → 0 < r
    → below s (a * q) t (b * p) ≡ true → below t (b * r) u (c * q) ≡ true → below s (a * r) u (c * p) ≡ true
below-trans false false false a b c p q r P R g h = lt-ltb (a * r) (c * p) (less-through a b c p q r P (ltb-true _ _ g) (ltb-true _ _ h))
below-trans false false true a b c p q r P R g h = absurd (false≢true h)
below-trans false true u a b c p q r P R g h = absurd (false≢true g)
below-trans true false false a b c p q r P R g h =
    let least-right : b * r < c * q = ltb-true _ _ h in
    let right : 0 < c * p = mul-pos (first_pos c q (omega arith)) P in
    lt-ltb 0 (a * r + c * p) (omega arith)
below-trans true false true a b c p q r P R g h = absurd (false≢true h)
below-trans true true false a b c p q r P R g h =
    let most-left : b * p < a * q = ltb-true _ _ g in
    let left : 0 < a * r = mul-pos (first_pos a q (omega arith)) R in
    lt-ltb 0 (a * r + c * p) (omega arith)
below-trans true true true a b c p q r P R g h = lt-ltb (c * p) (a * r) (less-through c b a r q p R (ltb-true _ _ h) (ltb-true _ _ g))

infinity-greatest : (x : Float) → lt (inf false) x ≡ true → ⊥
unfolding lt
infinity-greatest nan h = false≢true h
infinity-greatest (inf t) h = false≢true h
infinity-greatest (fin t n d) h = false≢true h

pub lt_trans : (x y z : Float) → lt x y ≡ true → lt y z ≡ true → lt x z ≡ true
unfolding lt
lt_trans nan y z g h = absurd (false≢true g)
lt_trans (inf false) y z g h = absurd (infinity-greatest y g)
lt_trans (inf true) nan z g h = absurd (false≢true g)
lt_trans (inf true) (inf true) z g h = absurd (false≢true g)
lt_trans (inf true) (inf false) z g h = absurd (infinity-greatest z h)
lt_trans (inf true) (fin t n d) nan g h = h
lt_trans (inf true) (fin t n d) (inf u) g h = h
lt_trans (inf true) (fin t n d) (fin u k i) g h = refl
lt_trans (fin s m e) nan z g h = absurd (false≢true g)
lt_trans (fin s m e) (inf true) z g h = absurd (false≢true g)
lt_trans (fin s m e) (inf false) z g h = absurd (infinity-greatest z h)
lt_trans (fin s m e) (fin t n d) nan g h = h
lt_trans (fin s m e) (fin t n d) (inf u) g h = h
lt_trans (fin s m e) (fin t n d) (fin u k i) g h =
    below-trans s t u (m * up e) (n * up d) (k * up i) (down e) (down d) (down i) (down_pos e) (down_pos i) g h

pub lt-self : (x : Float) → lt x x ≡ false
unfolding lt
lt-self nan = refl
lt-self (inf true) = refl
lt-self (inf false) = refl
lt-self (fin true m e) = le-ltb (m * up e * down e) _ (omega arith)
lt-self (fin false m e) = le-ltb (m * up e * down e) _ (omega arith)

-- what is less than another, or greater, is no NaN
pub lesser-number : (x y : Float) → lt x y ≡ true → is_nan x ≡ false
unfolding lt is_nan
lesser-number nan y h = absurd (false≢true h)
lesser-number (inf s) y h = refl
lesser-number (fin s m e) y h = refl

pub greater-number : (x y : Float) → lt y x ≡ true → is_nan x ≡ false
unfolding lt is_nan
greater-number nan nan h = absurd (false≢true h)
greater-number nan (inf t) h = absurd (false≢true h)
greater-number nan (fin t n d) h = absurd (false≢true h)
greater-number (inf s) y h = refl
greater-number (fin s m e) y h = refl

-- not both ways
pub lt-asym : (x y : Float) → lt x y ≡ true → lt y x ≡ false
lt-asym x y h = go (lt y x) refl
  where
    go : (b : Bool) → lt y x ≡ b → b ≡ false
    go true k = absurd (true≢false (sym (lt_trans x y x h k) ∙ lt-self x))
    go false k = refl

-- so a NaN is less than nothing, and nothing than it
contrapositive : (b c : Bool) → (b ≡ true → c ≡ false) → c ≡ true → b ≡ false
contrapositive true c h n = absurd (true≢false (sym n ∙ h refl))
contrapositive false c h n = refl

pub nan-lt : (x y : Float) → is_nan x ≡ true → lt x y ≡ false
nan-lt x y = contrapositive (lt x y) (is_nan x) (lesser-number x y)

pub lt-nan : (x y : Float) → is_nan y ≡ true → lt x y ≡ false
lt-nan x y = contrapositive (lt x y) (is_nan y) (greater-number y x)

-- and the same of less or equal
pub nan-le : (x y : Float) → is_nan x ≡ true → le x y ≡ false
unfolding le lt eq is_nan
nan-le nan y h = refl
nan-le (inf s) y h = absurd (false≢true h)
nan-le (fin s m e) y h = absurd (false≢true h)

pub le-nan : (x y : Float) → is_nan y ≡ true → le x y ≡ false
unfolding le lt eq is_nan
le-nan nan y h = refl
le-nan (inf s) nan h = refl
le-nan (fin s m e) nan h = refl
le-nan (inf s) (inf t) h = absurd (false≢true h)
le-nan (inf s) (fin t n d) h = absurd (false≢true h)
le-nan (fin s m e) (inf t) h = absurd (false≢true h)
le-nan (fin s m e) (fin t n d) h = absurd (false≢true h)

-- a number equals itself, and a NaN does not
pub eq_self : (x : Float) → is_nan x ≡ false → eq x x ≡ true
unfolding ne is_nan
eq_self x h = go (eq x x) refl
  where
    go : (b : Bool) → eq x x ≡ b → b ≡ true
    go true e = refl
    go false e = sym h ∙ ap is_nan (differs_from_itself x (rw e tt))

pub nan-self : (x : Float) → is_nan x ≡ true → eq x x ≡ false
unfolding eq is_nan
nan-self nan h = refl
nan-self (inf s) h = absurd (false≢true h)
nan-self (fin s m e) h = absurd (false≢true h)

-- ---- neither is less
abbrev IsZero : Float → Type 0
IsZero x = (s : Bool) × (x ≡ signed_zero s)

-- the same, or zeros of any sign
abbrev pub Alike : Float → Float → Type 0
Alike x y = (x ≡ y) ⊎ (IsZero x × IsZero y)

module _ (f : Format) where
  is-signed_zero : (s : Bool) (m : ℕ) (e d : ℤ) → T (fits f (fin s m e)) → m * up e * down d ≡ 0 → fin s m e ≡ signed_zero s
  is-signed_zero s zero e d h v = ap (fin s zero) (zero_exp f s e h)
  is-signed_zero s (suc m) e d h v = absurd (omega (arith, mul-pos (mul-pos (zero-lt-suc m) (up_pos e)) (down_pos d)))

  pub not-less-alike : (x y : Float) → is_nan x ≡ false → is_nan y ≡ false → T (fits f x) → T (fits f y) → lt x y ≡ false → lt y x ≡ false → Alike x y
  unfolding lt is_nan
  not-less-alike nan y a b h k p q = absurd (true≢false a)
  not-less-alike (inf s) nan a b h k p q = absurd (true≢false b)
  not-less-alike (inf true) (inf true) a b h k p q = inl refl
  not-less-alike (inf true) (inf false) a b h k p q = absurd (true≢false p)
  not-less-alike (inf false) (inf true) a b h k p q = absurd (true≢false q)
  not-less-alike (inf false) (inf false) a b h k p q = inl refl
  not-less-alike (inf true) (fin t n d) a b h k p q = absurd (true≢false p)
  not-less-alike (inf false) (fin t n d) a b h k p q = absurd (true≢false q)
  not-less-alike (fin s m e) nan a b h k p q = absurd (true≢false b)
  not-less-alike (fin s m e) (inf true) a b h k p q = absurd (true≢false q)
  not-less-alike (fin s m e) (inf false) a b h k p q = absurd (true≢false p)
  not-less-alike (fin true m e) (fin true n d) a b h k p q = inl (fin-unique f true m e n d h k (omega (arith, ltb-false)))
  not-less-alike (fin false m e) (fin false n d) a b h k p q = inl (fin-unique f false m e n d h k (omega (arith, ltb-false)))
  not-less-alike (fin true m e) (fin false n d) a b h k p q =
      inr ((true, is-signed_zero true m e d h (omega (arith, ltb-false))), (false, is-signed_zero false n d e k (omega (arith, ltb-false))))
  not-less-alike (fin false m e) (fin true n d) a b h k p q =
      inr ((false, is-signed_zero false m e d h (omega (arith, ltb-false))), (true, is-signed_zero true n d e k (omega (arith, ltb-false))))
