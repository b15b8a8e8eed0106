-- For rising indices the merge of two vectors is the walk over all indices below the dims, whatever the state and the rule: at each index
-- both cursors stand at the first entry that is not below it, and the merge has come as far as the walk.
use mathlib.Core.Path.{◌≡◌, refl, sym, ◌∙◌}
use mathlib.Core.Logic.{◌⊎◌, inl, inr}
use Prim.Native.Nat.{ℕ, zero, suc, ◌+◌, ◌-◌, ◌<◌, ◌≤◌}
use native.Mathlib.Nat.{not-suc-le-zero, le_refl}
use native.Mathlib.Omega.{arith}
use mathlib.Core.Bool.{Bool, true, false}
use mathlib.Core.Option.{none, some}
use lib.Dec.{eqb, ltb}
use borrow.Author.Tests.{eqb-true, eqb-false, ltb-true, ltb-false, eq-eqb, ne_eqb}
use Rattle.bodies.specs.Entries.{Entries, Rising, Below}
use Rattle.bodies.specs.Merged.{Rule, merge, merged}
use Rattle.bodies.specs.declared.sparse.Turn.TheVariants.{Done}
use Rattle.bodies.proofs.Merging.{Merging, merging-none, merging-done, merging-both, merging-left, merging-right}
use Rattle.bodies.specs.Inner.Walk.{lookup, walked}

-- ---- looking an index up
module _ (v : Entries) (t : ℕ) where
  lookup-none : (n : ℕ) → ((a : ℕ) → a < n → v.index a ≡ t → ⊥) → lookup v n t ≡ none
  unfolding lookup
  lookup-none zero h = refl
  lookup-none (suc n) h = rw (ne_eqb (v.index n) t (h n (le_refl (suc n)))) (lookup-none n (λ a l. h a (omega arith)))

  -- the last entry of its index
  lookup-some : (n i : ℕ) → i < n → v.index i ≡ t → ((a : ℕ) → i < a → a < n → v.index a ≡ t → ⊥) → lookup v n t ≡ some (v.value i)
  unfolding lookup
  lookup-some zero i h e f = absurd (not-suc-le-zero h)
  lookup-some (suc n) i h e f = go (eqb i n) refl (lookup-some n i)
    where
      go : (b : Bool) → eqb i n ≡ b → (i < n → v.index i ≡ t → ((a : ℕ) → i < a → a < n → v.index a ≡ t → ⊥) → lookup v n t ≡ some (v.value i))
          → lookup v (suc n) t ≡ some (v.value i)
      go true q rest = rw (← eqb-true i n q, eq-eqb (v.index i) t e)
      go false q rest =
          let l : i < n = omega (arith, eqb-false i n q) in
          rw (ne_eqb (v.index n) t (f n l (le_refl (suc n)))) (rest l e (λ a x y. f a x (omega arith)))

-- ---- the cursor of a vector: the entries before it stand below the index t, and the others do not
record Reached (v : Entries) (t i : ℕ) : Type 0 where
  pub passed : (a : ℕ) → a < i → v.index a < t
  pub ahead : (a : ℕ) → i ≤ a → a < v.count → t ≤ v.index a

-- what stands at t, and where the cursor is then
data Found (v : Entries) (t i : ℕ) : Type 0 where
  hit : i < v.count → v.index i ≡ t → lookup v v.count t ≡ some (v.value i) → Reached v (suc t) (i + 1) → Found v t i
  miss : (v.count ≤ i) ⊎ (t < v.index i) → lookup v v.count t ≡ none → Reached v (suc t) i → Found v t i

module _ (v : Entries) (up : Rising v) where
  rising-far : (k i : ℕ) → k + i < v.count → k + v.index i ≤ v.index (k + i)
  rising-far zero i h =
      let e : 0 + i ≡ i = omega arith in
      rw e (omega arith)
  rising-far (suc k) i h =
      let e : suc k + i ≡ suc (k + i) = omega arith in
      rw e (omega (arith, rising-far k i (omega arith), up (k + i) (omega arith)))

  far : (i a : ℕ) → i ≤ a → a < v.count → a - i + v.index i ≤ v.index a
  far i a h l =
      let e : a - i + i ≡ a = omega arith in
      rw e at (rising-far (a - i) i (omega arith))

  module _ (t i : ℕ) (r : Reached v t i) where
    found : i < v.count → v.index i ≡ t → Found v t i
    found l e =
        hit l e (lookup-some v t v.count i l e (λ a h k z. omega (arith, far i a (omega arith) k)))
        (record { passed = λ a h. before a h (eqb a i) refl; ahead = λ a h k. omega (arith, far i a (omega arith) k) })
      where
        before : (a : ℕ) → a < i + 1 → (b : Bool) → eqb a i ≡ b → v.index a < suc t
        before a h true p = rw (eqb-true a i p, e) (le_refl (suc t))
        before a h false p = omega (arith, r.passed a (omega (arith, eqb-false a i p)))

    missed : (v.count ≤ i) ⊎ (t < v.index i) → Found v t i
    missed f = miss f (lookup-none v t v.count (λ a l e. clear a l e (ltb a i) refl)) (record { passed = λ a h. omega (arith, r.passed a h); ahead = above f })
      where
        above : (v.count ≤ i) ⊎ (t < v.index i) → (a : ℕ) → i ≤ a → a < v.count → t < v.index a
        above (inl n) a h k = absurd (omega arith)
        above (inr l) a h k = omega (arith, far i a h k)

        clear : (a : ℕ) → a < v.count → v.index a ≡ t → (b : Bool) → ltb a i ≡ b → ⊥
        clear a l e true p = omega (arith, r.passed a (ltb-true a i p))
        clear a l e false p = omega (arith, above f a (ltb-false a i p) l)

    look : Found v t i
    look = go (ltb i v.count) refl (eqb (v.index i) t) refl
      where
        go : (b : Bool) → ltb i v.count ≡ b → (c : Bool) → eqb (v.index i) t ≡ c → Found v t i
        go true p true q = found (ltb-true i v.count p) (eqb-true (v.index i) t q)
        go true p false q = missed (inr (omega (arith, r.ahead i (le_refl i) (ltb-true i v.count p), eqb-false (v.index i) t q)))
        go false p c q = missed (inl (ltb-false i v.count p))

  -- past the last index
  past : (d i : ℕ) → Below v d → Reached v d i → v.count ≤ i
  past d i below r = go (ltb i v.count) refl
    where
      go : (c : Bool) → ltb i v.count ≡ c → v.count ≤ i
      go true p = let l = ltb-true i v.count p in absurd (omega (arith, r.ahead i (le_refl i) l, below i l))
      go false p = ltb-false i v.count p

-- ---- the walk has come to t, and the merge as far: with i entries of v behind it, and j of w
start : (u : Entries) → Reached u 0 0
start u = record { passed = λ a h. absurd (not-suc-le-zero h); ahead = λ a h k. omega arith }

module _ {S : Type 0} (r : Rule S) (v w : Entries) (s : S) (vu : Rising v) (wu : Rising w) where
  data Walking (t : ℕ) : Type 0 where
    at : (i j : ℕ) → Merging r v w s (walked r v w s t) i j → Reached v t i → Reached w t j → Walking t

  onward : (t i j : ℕ) → Merging r v w s (walked r v w s t) i j → Found v t i → Found w t j → Walking (suc t)
  unfolding walked
  onward t i j m (hit l p x g) (hit k q y h) = at (i + 1) (j + 1) (rw (x, y) (merging-both m (l, k, p ∙ sym q, refl, refl) refl refl)) g h
  onward t i j m (hit l p x g) (miss f y h) = at (i + 1) j (rw (x, y) (merging-left m (l, rw p f, refl) refl refl)) g h
  onward t i j m (miss f x g) (hit k q y h) = at i (j + 1) (rw (x, y) (merging-right m (k, rw q f, refl) refl refl)) g h
  onward t i j m (miss f x g) (miss e y h) = at i j (rw (x, y) m) g h

  walking : (t : ℕ) → Walking t
  unfolding walked
  walking zero = at 0 0 (merging-none refl) (start v) (start w)
  walking (suc t) = elim (walking t) [ at i j m g h ↦ onward t i j m (look v vu t i g) (look w wu t j h) ]

  pub merged-walked : (d : ℕ) → Below v d → Below w d → merge r v w s ≡ walked r v w s d
  unfolding merged
  merged-walked d vb wb = elim (walking d) [ at i j m g h ↦ sym (merging-done m {t = Done} (past v vu d i vb g, past w wu d j wb h) refl) ]
