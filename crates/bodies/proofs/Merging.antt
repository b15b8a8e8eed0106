-- The merge of two sparse vectors, turn by turn: once over the state, its rule and its start.
use mathlib.Core.Path.{◌≡◌, refl, sym, ap, ap₂, ◌∙◌}
use Prim.Native.Nat.{ℕ, zero, suc, ◌+◌, ◌-◌, ◌<◌, ◌≤◌}
use native.Mathlib.Omega.{arith}
use mathlib.Core.Logic.{◌⊎◌, inl, inr}
use lib.Ieee.{Float}
use borrow.Author.Tests.{eq-eqb, ne_eqb, lt-ltb, le-ltb}
use Rattle.bodies.specs.Entries.{Entries}
use Rattle.bodies.specs.Merged.{Rule, merged}
use Rattle.bodies.specs.Inner.Turns.{Next}
use Rattle.bodies.specs.declared.sparse.Turn.{Turn}
use Rattle.bodies.specs.declared.sparse.Turn.TheVariants.{Both, Left, Right, Done}

-- ---- what is known then leaves one turn only
pub next-unique : (v w : Entries) (i j : ℕ) (t u : Turn) → Next v w i j t → Next v w i j u → t ≡ u
next-unique v w i j (Both x y) (Both x' y') (h, k, l, p, q) (h', k', l', p', q') = ap₂ Both (p ∙ sym p') (q ∙ sym q')
next-unique v w i j (Both x y) (Left x') (h, k, l, p, q) (h', l', p') = absurd (elim l' [ inl e ↦ omega arith | inr e ↦ omega arith ])
next-unique v w i j (Both x y) (Right y') (h, k, l, p, q) (h', l', q') = absurd (elim l' [ inl e ↦ omega arith | inr e ↦ omega arith ])
next-unique v w i j (Both x y) Done (h, k, l, p, q) (h', k') = absurd (omega arith)
next-unique v w i j (Left x) (Both x' y') (h, l, p) (h', k', l', p', q') = absurd (elim l [ inl e ↦ omega arith | inr e ↦ omega arith ])
next-unique v w i j (Left x) (Left x') (h, l, p) (h', l', p') = ap Left (p ∙ sym p')
next-unique v w i j (Left x) (Right y') (h, l, p) (h', l', q') = absurd (elim l [ inl e ↦ omega arith | inr e ↦ elim l' [ inl g ↦ omega arith | inr g ↦ omega arith ] ])
next-unique v w i j (Left x) Done (h, l, p) (h', k') = absurd (omega arith)
next-unique v w i j (Right y) (Both x' y') (h, l, q) (h', k', l', p', q') = absurd (elim l [ inl e ↦ omega arith | inr e ↦ omega arith ])
next-unique v w i j (Right y) (Left x') (h, l, q) (h', l', p') = absurd (elim l' [ inl e ↦ omega arith | inr e ↦ elim l [ inl g ↦ omega arith | inr g ↦ omega arith ] ])
next-unique v w i j (Right y) (Right y') (h, l, q) (h', l', q') = ap Right (q ∙ sym q')
next-unique v w i j (Right y) Done (h, l, q) (h', k') = absurd (omega arith)
next-unique v w i j Done (Both x' y') (h, k) (h', k', l', p', q') = absurd (omega arith)
next-unique v w i j Done (Left x') (h, k) (h', l', p') = absurd (omega arith)
next-unique v w i j Done (Right y') (h, k) (h', l', q') = absurd (omega arith)
next-unique v w i j Done Done (h, k) (h', k') = refl

-- with i of n entries behind, one and those after it are to come; counted from the end, the next is entry i
ahead : (n i : ℕ) → i < n → n - i ≡ suc (n - (i + 1))
ahead n i h = omega arith

back : (n i : ℕ) → i < n → n - suc (n - (i + 1)) ≡ i
back n i h = omega arith

-- ---- what is left to merge is the same before a turn and after it
module _ {S : Type 0} (r : Rule S) (v w : Entries) (s : S) (i j : ℕ) where
  take-both : i < v.count → j < w.count → v.index i ≡ w.index j
      → merged r v w s (v.count - i) (w.count - j) ≡ merged r v w (r.both s (v.value i) (w.value j)) (v.count - (i + 1)) (w.count - (j + 1))
  unfolding merged
  take-both h k e =
      simp (ahead v.count i h, ahead w.count j k, back v.count i h, back w.count j k, eq-eqb (v.index i) (w.index j) e)

  alone-left : (p : ℕ) → merged r v w s (suc p) 0 ≡ merged r v w (r.left s (v.value (v.count - suc p))) p 0
  unfolding merged
  alone-left p = refl

  alone-right : (q : ℕ) → merged r v w s 0 (suc q) ≡ merged r v w (r.right s (w.value (w.count - suc q))) 0 q
  unfolding merged
  alone-right q = refl

  take_left : (q : ℕ) → w.count - j ≡ q → i < v.count → (w.count ≤ j) ⊎ (v.index i < w.index j)
      → merged r v w s (v.count - i) (w.count - j) ≡ merged r v w (r.left s (v.value i)) (v.count - (i + 1)) (w.count - j)
  unfolding merged
  take_left zero e h l = simp (ahead v.count i h, e, alone-left (v.count - (i + 1)), back v.count i h)
  take_left (suc q) e h (inl k) = absurd (omega arith)
  take_left (suc q) e h (inr l) =
      let j' : w.count - suc q ≡ j = omega arith in
      simp (ahead v.count i h, e, back v.count i h, j', ne_eqb (v.index i) (w.index j) (λ z. omega arith), lt-ltb (v.index i) (w.index j) l)

  take-right : (p : ℕ) → v.count - i ≡ p → j < w.count → (v.count ≤ i) ⊎ (w.index j < v.index i)
      → merged r v w s (v.count - i) (w.count - j) ≡ merged r v w (r.right s (w.value j)) (v.count - i) (w.count - (j + 1))
  unfolding merged
  take-right zero e h l = simp (ahead w.count j h, e, alone-right (w.count - (j + 1)), back w.count j h)
  take-right (suc q) e h (inl k) = absurd (omega arith)
  take-right (suc q) e h (inr l) =
      let i' : v.count - suc q ≡ i = omega arith in
      simp (ahead w.count j h, e, back w.count j h, i', ne_eqb (v.index i) (w.index j) (λ z. omega arith), le-ltb (v.index i) (w.index j) (omega arith))

-- the loops' invariant: with i entries of v and j of w behind, the state s goes on to the merge of all from the start
pub record Merging {S : Type 0} (r : Rule S) (v w : Entries) (start s : S) (i j : ℕ) : Type 0 where
  pub left : i ≤ v.count
  pub right : j ≤ w.count
  pub rest : merged r v w start v.count w.count ≡ merged r v w s (v.count - i) (w.count - j)

pub merging-none : {S : Type 0} {r : Rule S} {v w : Entries} {start s : S} → s ≡ start → Merging r v w start s 0 0
merging-none {v = v} {w = w} e =
    let p : v.count - 0 ≡ v.count = omega arith in
    let q : w.count - 0 ≡ w.count = omega arith in
    record { left = omega arith; right = omega arith; rest = rw (p, q, e) }

module _ {S : Type 0} {r : Rule S} {v w : Entries} {start s : S} {i j : ℕ} (m : Merging r v w start s i j) {t : Turn} (n : Next v w i j t) where
  pub merging-done : t ≡ Done → s ≡ merged r v w start v.count w.count
  unfolding merged
  merging-done e =
      let (h, k) = rw e at n in
      let p : v.count - i ≡ 0 = omega arith in
      let q : w.count - j ≡ 0 = omega arith in
      sym (rw (p, q) at m.rest)

  module _ {u : S} where
    pub merging-both : {x y : Float} → t ≡ Both x y → u ≡ r.both s x y → Merging r v w start u (i + 1) (j + 1)
    merging-both e g =
        let (h, k, l, p, q) = rw e at n in
        record { left = omega arith; right = omega arith; rest = rw (g, p, q) (m.rest ∙ take-both r v w s i j h k l) }

    pub merging-left : {x : Float} → t ≡ Left x → u ≡ r.left s x → Merging r v w start u (i + 1) j
    merging-left e g =
        let (h, l, p) = rw e at n in
        record { left = omega arith; right = m.right; rest = rw (g, p) (m.rest ∙ take_left r v w s i j (w.count - j) refl h l) }

    pub merging-right : {y : Float} → t ≡ Right y → u ≡ r.right s y → Merging r v w start u i (j + 1)
    merging-right e g =
        let (h, l, q) = rw e at n in
        record { left = m.left; right = omega arith; rest = rw (g, q) (m.rest ∙ take-right r v w s i j (v.count - i) refl h l) }
