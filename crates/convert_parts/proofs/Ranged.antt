-- What the range means: no element is less than the least or greater than the greatest, and each is an element that is no NaN, or an infinity.
use mathlib.Core.Path.{◌≡◌, refl, sym, ◌∙◌}
use mathlib.Core.Logic.{◌⊎◌, inl, inr}
use mathlib.Core.Bool.{Bool, true, false, cond, true≢false}
use Prim.Native.Nat.{ℕ, zero, suc, ◌≤◌, ◌<◌, zero-le}
use native.Mathlib.Nat.{not-le_of_lt, eq-or-lt_of_le, le_of_suc-le-suc, lt-suc_self}
use native.Mathlib.Omega.{arith}
use lib.Ieee.{Float, inf, lt, is_nan}
use Rattle.float_laws.proofs.Order.{lt_trans, lt-self, lesser-number, greater-number}
use Rattle.convert_parts.specs.Quantized.{least, greatest}

-- ---- the range
-- x is one of the first n elements and no NaN, or what a search of them began with
abbrev pub Among : (ℕ → Float) → ℕ → Float → Float → Type 0
Among e n start x = (x ≡ start) ⊎ ((i : ℕ) × (i < n) × (x ≡ e i) × (is_nan x ≡ false))

-- m n is kept of the first n elements: the next one takes its place where it passes it
module _ (passes : Float → Float → Bool) (e m : ℕ → Float)
    (through : (x y z : Float) → passes x y ≡ true → passes y z ≡ true → passes x z ≡ true)
    (self : (x : Float) → passes x x ≡ false)
    (number : (x y : Float) → passes x y ≡ true → is_nan x ≡ false)
    (next : (n : ℕ) → m (suc n) ≡ cond (passes (e n) (m n)) (e n) (m n)) where
  -- what does not pass the one kept does not pass one that does
  unpassed-through : (x y z : Float) → passes x z ≡ false → passes y z ≡ true → passes x y ≡ false
  unpassed-through x y z g h = go (passes x y) refl
    where
      go : (b : Bool) → passes x y ≡ b → b ≡ false
      go true p = absurd (true≢false (sym (through x y z p h) ∙ g))
      go false p = refl

  earlier-unpassed : (n : ℕ) (b : Bool) → passes (e n) (m n) ≡ b → (x : Float) → passes x (m n) ≡ false → passes x (cond b (e n) (m n)) ≡ false
  earlier-unpassed n true p x h = unpassed-through x (e n) (m n) h p
  earlier-unpassed n false p x h = h

  next-unpassed : (n : ℕ) (b : Bool) → passes (e n) (m n) ≡ b → passes (e n) (cond b (e n) (m n)) ≡ false
  next-unpassed n true p = self (e n)
  next-unpassed n false p = p

  unpassed : (n i : ℕ) → i < n → passes (e i) (m n) ≡ false
  unpassed zero i h = absurd (not-le_of_lt h zero-le)
  unpassed (suc n) i h =
      let b = passes (e n) (m n) in
      elim (eq-or-lt_of_le (le_of_suc-le-suc h)) [
        | inl same ↦ rw (same, next) (next-unpassed n b refl)
        | inr less ↦ rw next (earlier-unpassed n b refl (e i) (unpassed n i less))
      ]

  attained : (n : ℕ) → Among e n (m 0) (m n)
  attained zero = inl refl
  attained (suc n) = rw next (go (passes (e n) (m n)) refl (attained n))
    where
      go : (b : Bool) → passes (e n) (m n) ≡ b → Among e n (m 0) (m n) → Among e (suc n) (m 0) (cond b (e n) (m n))
      go true p a = inr (n, lt-suc_self n, refl, number (e n) (m n) p)
      go false p (inl start) = inl start
      go false p (inr (i, less, is, some)) = inr (i, omega arith, is, some)

  -- one that no element passes is kept to the end
  stays : (x : Float) → ((i : ℕ) → passes (e i) x ≡ false) → (i n : ℕ) → i ≤ n → m i ≡ x → m n ≡ x
  stays x none i zero l h = let z : i ≡ 0 = omega arith in rw z at h
  stays x none i (suc n) l h =
      elim (eq-or-lt_of_le l) [
        | inl same ↦ rw same at h
        | inr less ↦ rw (next, stays x none i n (le_of_suc-le-suc less) h, none)
      ]

-- no element is less than the least, none greater than the greatest
pub none-less : (e : ℕ → Float) (n i : ℕ) → i < n → lt (e i) (least e n) ≡ false
unfolding least
none-less e = unpassed lt e (least e) lt_trans lt-self lesser-number (λ n. refl)

pub none-greater : (e : ℕ → Float) (n i : ℕ) → i < n → lt (greatest e n) (e i) ≡ false
unfolding greatest
none-greater e = unpassed (λ x y. lt y x) e (greatest e) (λ x y z g h. lt_trans z y x h g) lt-self greater-number (λ n. refl)

-- each is an element that is no NaN, or an infinity
pub least-of : (e : ℕ → Float) (n : ℕ) → Among e n (inf false) (least e n)
unfolding least
least-of e = attained lt e (least e) lt_trans lt-self lesser-number (λ n. refl)

pub greatest-of : (e : ℕ → Float) (n : ℕ) → Among e n (inf true) (greatest e n)
unfolding greatest
greatest-of e = attained (λ x y. lt y x) e (greatest e) (λ x y z g h. lt_trans z y x h g) lt-self greater-number (λ n. refl)

-- one that no element is less than is the least to the end, and so for the greatest
pub least_stays : (e : ℕ → Float) (x : Float) → ((i : ℕ) → lt (e i) x ≡ false) → (i n : ℕ) → i ≤ n → least e i ≡ x → least e n ≡ x
unfolding least
least_stays e = stays lt e (least e) lt_trans lt-self lesser-number (λ n. refl)

pub greatest-stays : (e : ℕ → Float) (x : Float) → ((i : ℕ) → lt x (e i) ≡ false) → (i n : ℕ) → i ≤ n → greatest e i ≡ x → greatest e n ≡ x
unfolding greatest
greatest-stays e = stays (λ x y. lt y x) e (greatest e) (λ x y z g h. lt_trans z y x h g) lt-self greater-number (λ n. refl)
