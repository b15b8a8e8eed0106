-- The merge of two vectors with rising indices is the sum over their elements, +0.0 where there is no entry, if the rule for one entry is
-- that for two of which one is +0.0: whatever the state, the rule and what is known on the way.
use mathlib.Core.Path.{◌≡◌, refl, sym, ap, ◌∙◌}
use Prim.Native.Nat.{ℕ, zero, suc, ◌<◌, ◌≤◌}
use native.Mathlib.Nat.{le_refl}
use native.Mathlib.Omega.{arith}
use mathlib.Core.Bool.{Bool, true, false, cond}
use mathlib.Core.Option.{Option, none, some}
use lib.Dec.{eqb}
use lib.Ieee.{Float}
use Rattle.float_laws.specs.Zero.{plus_zero}
use Rattle.bodies.specs.Entries.{Entries, Rising, Below}
use Rattle.bodies.specs.Merged.{Rule, merge}
use Rattle.bodies.specs.Inner.Walk.{lookup, turn, walked}
use Rattle.bodies.proofs.Walked.{merged-walked}

-- an absent element counts as +0.0
abbrev pub or_zero : Option Float → Float
or_zero none = plus_zero
or_zero (some x) = x

-- x gives the first d elements of v
abbrev pub AreElements : Entries → (ℕ → Float) → ℕ → Type 0
AreElements v x d = (t : ℕ) → t < d → x t ≡ or_zero (lookup v v.count t)

-- K is known of every state on the way, and Q of every stored value
pub record AbsentIsZero {S : Type 0} (r : Rule S) (K : S → Type 0) (Q : Float → Type 0) : Type 0 where
  pub zero_has : Q plus_zero
  pub keeps : (s : S) (x y : Float) → K s → Q x → Q y → K (r.both s x y)
  pub on_none : (s : S) → K s → s ≡ r.both s plus_zero plus_zero
  pub on_left : (s : S) (x : Float) → K s → Q x → r.left s x ≡ r.both s x plus_zero
  pub on_right : (s : S) (y : Float) → K s → Q y → r.right s y ≡ r.both s plus_zero y

-- all stored values have Q
abbrev pub AllValues : (Float → Type 0) → Entries → Type 0
AllValues Q v = (i : ℕ) → i < v.count → Q (v.value i)

module _ {S : Type 0} (r : Rule S) (K : S → Type 0) (Q : Float → Type 0) (law : AbsentIsZero r K Q) where
  element-has : (v : Entries) → AllValues Q v → (n t : ℕ) → n ≤ v.count → Q (or_zero (lookup v n t))
  unfolding lookup
  element-has v q zero t h = law.zero_has
  element-has v q (suc n) t h = go (eqb (v.index n) t) (element-has v q n t (omega arith))
    where
      go : (b : Bool) → Q (or_zero (lookup v n t)) → Q (or_zero (cond b (some (v.value n)) (lookup v n t)))
      go true rest = q n h
      go false rest = rest

  one_index : (s : S) (a b : Option Float) → K s → Q (or_zero a) → Q (or_zero b) → turn r s a b ≡ r.both s (or_zero a) (or_zero b)
  one_index s none none k p q = law.on_none s k
  one_index s none (some y) k p q = law.on_right s y k q
  one_index s (some x) none k p q = law.on_left s x k p
  one_index s (some x) (some y) k p q = refl

  -- `sum` adds element after element
  module _ (v w : Entries) (qv : AllValues Q v) (qw : AllValues Q w) (x y : ℕ → Float) (sum : ℕ → S) (begins : K (sum 0))
      (more : (n : ℕ) → sum (suc n) ≡ r.both (sum n) (x n) (y n)) where
    walked-summed : (d : ℕ) → AreElements v x d → AreElements w y d → K (sum d) × (walked r v w (sum 0) d ≡ sum d)
    unfolding walked
    walked-summed zero ex ey = (begins, refl)
    walked-summed (suc d) ex ey =
        let (k, e) = walked-summed d (λ t h. ex t (omega arith)) (λ t h. ey t (omega arith)) in
        let a = lookup v v.count d in
        let b = lookup w w.count d in
        let p = element-has v qv v.count d (le_refl v.count) in
        let q = element-has w qw w.count d (le_refl w.count) in
        let last : sum (suc d) ≡ r.both (sum d) (or_zero a) (or_zero b) = rw (← ex d (le_refl (suc d)), ← ey d (le_refl (suc d))) (more d) in
        (rw last (law.keeps (sum d) (or_zero a) (or_zero b) k p q), ap (λ (s : S). turn r s a b) e ∙ one_index (sum d) a b k p q ∙ sym last)

    pub merged-summed : (d : ℕ) → Rising v → Rising w → Below v d → Below w d → AreElements v x d → AreElements w y d → merge r v w (sum 0) ≡ sum d
    merged-summed d vu wu vb wb ex ey = merged-walked r v w (sum 0) vu wu d vb wb ∙ (walked-summed d ex ey).1
