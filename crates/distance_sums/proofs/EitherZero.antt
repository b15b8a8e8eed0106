-- Of 0.0 and -0.0 a minimum and a maximum may choose either, and no Jaccard distance tells which: two choices of the same pair are equal
-- or both zeros, and a sum that starts from +0.0 takes no notice of a zero's sign.
use mathlib.Core.Path.{◌≡◌, refl, sym, ap, ap₂, ◌∙◌}
use mathlib.Core.Logic.{◌⊎◌, inl, inr}
use mathlib.Core.Bool.{Bool, true, false, cond, false≢true}
use Prim.Native.Nat.{ℕ, zero, suc, ◌-◌}
use native.Mathlib.Nat.{le_refl}
use native.Mathlib.Omega.{arith}
use lib.Dec.{T, eqb, ltb}
use lib.Ieee.{Float, Format, add, lt, eq, is_nan, fits}
use Rattle.float_laws.specs.Zero.{plus_zero, FromZero}
use Rattle.float_laws.specs.Running.{running, AllFit}
use Rattle.float_laws.proofs.Order.{nan-lt, lt-nan, lt-asym, eq_self, nan-self, Alike, not-less-alike}
use Rattle.float_laws.proofs.Running.{plus_zero-from_zero, add-from_zero, add-zero-term}
use Rattle.bodies.specs.Entries.{Entries}
use Rattle.bodies.specs.Merged.{Rule, merged}
use Rattle.distance_sums.specs.Extremes.{lesser, greater, Chosen, IsLesser, IsGreater, AreChoices}
use Rattle.distance_sums.specs.Dense.{Shares, no_shares, shares_by, shares_with}
use Rattle.distance_sums.specs.Sparse.{shares_rule_by}
use Rattle.distance_sums.specs.Inner.Shares.{shares, shares_rule}

abbrev Order : Type 0
Order = Float → Float → Bool

abbrev above : Order
above x y = lt y x

-- ---- ours are choices
module _ (before : Order) (nowhere : (x y : Float) → is_nan x ≡ true → before x y ≡ false)
    (asym : (x y : Float) → before x y ≡ true → before y x ≡ false) where
  first-chosen : (x y : Float) → Chosen before x y (cond (eq x x) (cond (before y x) y x) y)
  first-chosen x y =
      (λ n. rw (nan-self x n), λ n k. rw (eq_self x n, nowhere y x k), λ n k. rw (eq_self x n) (go (before y x) refl))
    where
      go : (b : Bool) → before y x ≡ b → ((cond b y x ≡ x) × (before y x ≡ false)) ⊎ ((cond b y x ≡ y) × (before x y ≡ false))
      go true e = inr (refl, asym y x e)
      go false e = inl (refl, e)

  -- beside a number one comparison chooses
  second-chosen : (x y : Float) → is_nan y ≡ false → Chosen before x y (cond (before x y) x y)
  second-chosen x y k = (λ n. rw (nowhere x y n), λ n g. absurd (false≢true (sym k ∙ g)), λ n g. go (before x y) refl)
    where
      go : (b : Bool) → before x y ≡ b → ((cond b x y ≡ x) × (before y x ≡ false)) ⊎ ((cond b x y ≡ y) × (before x y ≡ false))
      go true e = inl (refl, asym x y e)
      go false e = inr (refl, e)

pub lesser-is : (x y : Float) → IsLesser x y (lesser x y)
unfolding lesser
lesser-is = first-chosen lt nan-lt lt-asym

pub greater-is : (x y : Float) → IsGreater x y (greater x y)
unfolding greater
greater-is = first-chosen above (λ x y. lt-nan y x) (λ x y. lt-asym y x)

-- ---- two choices of the same pair
-- numbers of which neither comes before the other are alike
abbrev Tied : Format → Order → Type 0
Tied f before =
    (x y : Float) → is_nan x ≡ false → is_nan y ≡ false → T (fits f x) → T (fits f y) → before x y ≡ false → before y x ≡ false → Alike x y

-- a choice of each pair that the format holds
abbrev Chooses : Format → Order → (Float → Float → Float) → Type 0
Chooses f before pick = (x y : Float) → T (fits f x) → T (fits f y) → Chosen before x y (pick x y)

module _ (f : Format) where
  level-above : Tied f above
  level-above x y a b h k p q = not-less-alike f x y a b h k q p

  add-alike : (s x y : Float) → FromZero f s → Alike x y → add f s x ≡ add f s y
  add-alike s x y z (inl e) = ap (add f s) e
  add-alike s x y z (inr ((p, e), (q, g))) = rw (e, g) (add-zero-term f s p z ∙ sym (add-zero-term f s q z))

module _ (f : Format) (before : Order) (tied : Tied f before) (x y : Float) (h : T (fits f x)) (k : T (fits f y)) where
  chosen-alike : {m n : Float} → Chosen before x y m → Chosen before x y n → Alike m n
  chosen-alike {m} {n} C D = go (is_nan x) (is_nan y) refl refl
    where
      go : (a b : Bool) → is_nan x ≡ a → is_nan y ≡ b → Alike m n
      go true b p q = inl (C.0 p ∙ sym (D.0 p))
      go false true p q = inl (C.1 p q ∙ sym (D.1 p q))
      go false false p q = elim (C.2 p q) [
        | inl (e, u) ↦ elim (D.2 p q) [ inl (g, v) ↦ inl (e ∙ sym g) | inr (g, v) ↦ rw (e, g) (tied x y p q h k v u) ]
        | inr (e, u) ↦ elim (D.2 p q) [ inl (g, v) ↦ rw (e, g) (tied y x q p k h v u) | inr (g, v) ↦ inl (e ∙ sym g) ]
      ]

-- ---- sums of what two choices pick, from +0.0
module _ (f : Format) (before : Order) (tied : Tied f before)
    (pick other : Float → Float → Float) (C : Chooses f before pick) (D : Chooses f before other) where
  module _ (x y : Float) (h : T (fits f x)) (k : T (fits f y)) where
    pick-fits : T (fits f (pick x y))
    pick-fits = go (is_nan x) (is_nan y) refl refl
      where
        go : (a b : Bool) → is_nan x ≡ a → is_nan y ≡ b → T (fits f (pick x y))
        go true b p q = rw ((C x y h k).0 p) k
        go false true p q = rw ((C x y h k).1 p q) h
        go false false p q = elim ((C x y h k).2 p q) [ inl (e, l) ↦ rw e h | inr (e, l) ↦ rw e k ]

    added : (s : Float) → FromZero f s → FromZero f (add f s (pick x y)) × (add f s (pick x y) ≡ add f s (other x y))
    added s z = (add-from_zero f s (pick x y) z pick-fits, add-alike f s (pick x y) (other x y) z (chosen-alike f before tied x y h k (C x y h k) (D x y h k)))

  summed : (x y : ℕ → Float) (n : ℕ) → AllFit f x n → AllFit f y n
      → FromZero f (running f (λ i. pick (x i) (y i)) n) × (running f (λ i. pick (x i) (y i)) n ≡ running f (λ i. other (x i) (y i)) n)
  unfolding running
  summed x y zero h k = (plus_zero-from_zero f, refl)
  summed x y (suc n) h k =
      let (z, same) = summed x y n (λ i l. h i (omega arith)) (λ i l. k i (omega arith)) in
      let (w, next) = added (x n) (y n) (h n (le_refl (suc n))) (k n (le_refl (suc n))) (running f (λ i. pick (x i) (y i)) n) z in
      (w, next ∙ ap (λ (s : Float). add f s (other (x n) (y n))) same)

-- ---- two rules that agree on every state that a merge can reach
module _ {S : Type 0} (r t : Rule S) (v w : Entries) (Reached : S → Type 0)
    (both : (s : S) (i j : ℕ) → Reached s
    → Reached (r.both s (v.value i) (w.value j)) × (r.both s (v.value i) (w.value j) ≡ t.both s (v.value i) (w.value j)))
    (left : (s : S) (i : ℕ) → Reached s → Reached (r.left s (v.value i)) × (r.left s (v.value i) ≡ t.left s (v.value i)))
    (right : (s : S) (j : ℕ) → Reached s → Reached (r.right s (w.value j)) × (r.right s (w.value j) ≡ t.right s (w.value j))) where
  abbrev Agree : S → S → ℕ → ℕ → Type 0
  Agree a b p q = merged r v w a p q ≡ merged t v w b p q

  next : {a b : S} (p q : ℕ) → ((s : S) → Reached s → Agree s s p q) → Reached a × (a ≡ b) → Agree a b p q
  next {a} p q all (k, e) = all a k ∙ ap (λ (s : S). merged t v w s p q) e

  merged-agree : (p q : ℕ) (s : S) → Reached s → Agree s s p q
  unfolding merged
  merged-agree zero zero s k = refl
  merged-agree zero (suc q) s k = next zero q (merged-agree zero q) (right s (w.count - suc q) k)
  merged-agree (suc p) zero s k = next p zero (merged-agree p zero) (left s (v.count - suc p) k)
  merged-agree (suc p) (suc q) s k =
      let i = v.count - suc p in
      let j = w.count - suc q in
      ap₂ (cond (eqb (v.index i) (w.index j)))
      (next p q (merged-agree p q) (both s i j k))
      (ap₂ (cond (ltb (v.index i) (w.index j)))
      (next p (suc q) (merged-agree p (suc q)) (left s i k))
      (next (suc p) q (merged-agree (suc p) q) (right s j k)))

-- ---- the theorems: any choices give the sums that ours give
pub ours-are-choices : (f : Format) → AreChoices f lesser greater
ours-are-choices f = record { low = λ x y h k. lesser-is x y; high = λ x y h k. greater-is x y }

-- what both sums of a Jaccard can be
abbrev pub BothFromZero : Format → Shares → Type 0
BothFromZero f s = FromZero f s.low × FromZero f s.high

-- ---- an element that one vector lacks counts as 0: by one comparison each sum gets the other element, or a zero, which it does not notice
module _ (f : Format) (s : Shares) (z : BothFromZero f s) (x : Float) (h : T (fits f x)) where
  beside-zero : shares_with lesser greater f s x plus_zero
      ≡ record { low = add f s.low (cond (lt x plus_zero) x plus_zero); high = add f s.high (cond (lt plus_zero x) x plus_zero) }
  unfolding shares_with is_nan
  beside-zero =
      let k = (plus_zero-from_zero f).fitting in
      let less = second-chosen lt nan-lt lt-asym x plus_zero refl in
      let more = second-chosen above (λ u v. lt-nan v u) (λ u v. lt-asym v u) x plus_zero refl in
      let low = chosen-alike f lt (not-less-alike f) x plus_zero h k (lesser-is x plus_zero) less in
      let high = chosen-alike f above (level-above f) x plus_zero h k (greater-is x plus_zero) more in
      rw (add-alike f s.low _ _ z.0 low, add-alike f s.high _ _ z.1 high)

  pub alone-less : lt x plus_zero ≡ true → record { low = add f s.low x; high = s.high } ≡ shares_with lesser greater f s x plus_zero
  alone-less e = rw (beside-zero, e, lt-asym x plus_zero e, add-zero-term f s.high false z.1)

  pub alone-else : lt x plus_zero ≡ false
      → record { low = s.low; high = add f s.high (cond (lt plus_zero x) x plus_zero) } ≡ shares_with lesser greater f s x plus_zero
  alone-else e = rw (beside-zero, e, add-zero-term f s.low false z.0)

module _ (f : Format) (lo hi : Float → Float → Float) (c : AreChoices f lo hi) where
  pub shares-either-zero : (x y : ℕ → Float) (n : ℕ) → AllFit f x n → AllFit f y n → shares_by lo hi f x y n ≡ shares f x y n
  unfolding shares_by
  shares-either-zero x y n h k =
      let low = summed f lt (not-less-alike f) lo lesser c.low (ours-are-choices f).low x y n h k in
      let high = summed f above (level-above f) hi greater c.high (ours-are-choices f).high x y n h k in
      rw (low.1, high.1)

  -- one pair more
  pub one_more : (x y : Float) → T (fits f x) → T (fits f y) → (s : Shares) → BothFromZero f s
      → BothFromZero f (shares_with lo hi f s x y) × (shares_with lo hi f s x y ≡ shares_with lesser greater f s x y)
  unfolding shares_with
  one_more x y h k s (l, g) =
      let low = added f lt (not-less-alike f) lo lesser c.low (ours-are-choices f).low x y h k s.low l in
      let high = added f above (level-above f) hi greater c.high (ours-are-choices f).high x y h k s.high g in
      ((low.0, high.0), rw (low.1, high.1))

  pub merged-either-zero : (v w : Entries) → ((i : ℕ) → T (fits f (v.value i))) → ((j : ℕ) → T (fits f (w.value j))) → (p q : ℕ)
      → merged (shares_rule_by lo hi f) v w no_shares p q ≡ merged (shares_rule f) v w no_shares p q
  merged-either-zero v w h k p q =
      let z = plus_zero-from_zero f in
      merged-agree (shares_rule_by lo hi f) (shares_rule f) v w (BothFromZero f)
      (λ s i j. one_more (v.value i) (w.value j) (h i) (k j) s)
      (λ s i. one_more (v.value i) plus_zero (h i) z.fitting s)
      (λ s j. one_more (w.value j) plus_zero (k j) z.fitting s)
      p q no_shares (z, z)
