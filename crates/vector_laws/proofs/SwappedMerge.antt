-- The merge of two sparse vectors, sorted or not, with the two exchanged: one law over the rule, which holds where each step does, by
-- induction on the entries to come; and each of the four rules keeps it.
use mathlib.Core.Path.{◌≡◌, refl, sym, ap, ◌∙◌}
use mathlib.Core.Bool.{Bool, true, false, cond}
use mathlib.Core.List.{List}
use Prim.Native.Nat.{ℕ, zero, suc, ◌-◌, ◌*◌, ◌<◌}
use native.Mathlib.Omega.{arith}
use lib.Dec.{T, eqb, ltb}
use borrow.Author.Tests.{eqb-true, eqb-false, ltb-true, ltb-false, eq-eqb, ne_eqb, lt-ltb, le-ltb}
use lib.Ieee.{Float, binary32, binary64, add, fits}
use Rattle.float_laws.specs.Zero.{plus_zero, FromZero}
use Rattle.float_laws.proofs.Running.{plus_zero-from_zero}
use Rattle.float_laws.proofs.Squared.{sub-squared}
use Rattle.float_laws.proofs.Swap.{mul_comm}
use Rattle.little_endian.proofs.Floats.{float_at-fits}
use Rattle.bodies.specs.Entries.{Entries, entries_of}
use Rattle.bodies.specs.Merged.{Rule, merged, merge}
use Rattle.distance_sums.specs.Extremes.{lesser, greater}
use Rattle.distance_sums.specs.Dense.{no_products, products_with, squares_with, dots_with, Shares, no_shares, shares_with}
use Rattle.distance_sums.specs.Sparse.{products_rule, squares_rule, dots_rule, sparse_products, sparse_squares, sparse_dots, sparse_shares_by}
use Rattle.distance_sums.specs.Inner.Shares.{shares_rule, sparse_shares}
use Rattle.distance_sums.proofs.EitherZero.{BothFromZero, one_more, ours-are-choices}
use Rattle.vector_laws.proofs.SwappedSums.{crossed, exchanged-are-choices}

-- a value that f32 holds
abbrev Single : Float → Type 0
Single x = T (fits binary32 x)

-- of the next two entries the lower is taken, whichever vector comes first
pick : {S : Type 0} (exchange : S → S) (x y : ℕ) {b l r b' l' r' : S} → exchange b ≡ b' → exchange l ≡ r' → exchange r ≡ l'
    → exchange (cond (eqb x y) b (cond (ltb x y) l r)) ≡ cond (eqb y x) b' (cond (ltb y x) l' r')
pick exchange x y {b} {l} {r} {b'} {l'} {r'} B L R = go (eqb x y) refl (ltb x y) refl
  where
    go : (e : Bool) → eqb x y ≡ e → (u : Bool) → ltb x y ≡ u → exchange (cond e b (cond u l r)) ≡ cond (eqb y x) b' (cond (ltb y x) l' r')
    go true e u k = rw (eq-eqb y x (sym (eqb-true x y e))) B
    go false e true k =
        let h : x < y = ltb-true x y k in
        rw (ne_eqb y x (λ (z : y ≡ x). omega arith), le-ltb y x (omega arith)) L
    go false e false k =
        let h : y < x = omega (arith, eqb-false x y e, ltb-false x y k) in
        rw (ne_eqb y x (λ (z : y ≡ x). omega arith), lt-ltb y x h) R

-- from a state that the merge can reach, each step on values of f32 keeps so, and exchanged it is the step of the exchanged vectors
record StepsExchange {S : Type 0} (r : Rule S) (exchange : S → S) (Reached : S → Type 0) : Type 0 where
  both : (s : S) (x y : Float) → Single x → Single y → Reached s → Reached (r.both s x y) × (exchange (r.both s x y) ≡ r.both (exchange s) y x)
  left : (s : S) (x : Float) → Single x → Reached s → Reached (r.left s x) × (exchange (r.left s x) ≡ r.right (exchange s) x)
  right : (s : S) (y : Float) → Single y → Reached s → Reached (r.right s y) × (exchange (r.right s y) ≡ r.left (exchange s) y)

module _ {S : Type 0} {r : Rule S} {exchange : S → S} {Reached : S → Type 0} (t : StepsExchange r exchange Reached) (v w : Entries)
    (h : (i : ℕ) → Single (v.value i)) (k : (j : ℕ) → Single (w.value j)) where
  abbrev Exchanged : S → S → ℕ → ℕ → Type 0
  Exchanged a b p q = exchange (merged r v w a p q) ≡ merged r w v b q p

  next : {a b : S} (p q : ℕ) → ((s : S) → Reached s → Exchanged s (exchange s) p q) → Reached a × (exchange a ≡ b) → Exchanged a b p q
  next {a} p q all (z, e) = all a z ∙ ap (λ (s : S). merged r w v s q p) e

  merged-swap : (p q : ℕ) (s : S) → Reached s → Exchanged s (exchange s) p q
  unfolding merged
  merged-swap zero zero s z = refl
  merged-swap zero (suc q) s z = next zero q (merged-swap zero q) (t.right s _ (k (w.count - suc q)) z)
  merged-swap (suc p) zero s z = next p zero (merged-swap p zero) (t.left s _ (h (v.count - suc p)) z)
  merged-swap (suc p) (suc q) s z =
      let i = v.count - suc p in
      let j = w.count - suc q in
      pick exchange (v.index i) (w.index j)
      (next p q (merged-swap p q) (t.both s _ _ (h i) (k j) z))
      (next p (suc q) (merged-swap p (suc q)) (t.left s _ (h i) z))
      (next (suc p) q (merged-swap (suc p) q) (t.right s _ (k j) z))

-- ---- the four rules
-- where no state is apart
abbrev Always : {S : Type 0} → S → Type 0
Always s = Unit

always : {S : Type 0} {r : Rule S} {exchange : S → S} → ((s : S) (x y : Float) → exchange (r.both s x y) ≡ r.both (exchange s) y x)
    → ((s : S) (x : Float) → exchange (r.left s x) ≡ r.right (exchange s) x) → ((s : S) (y : Float) → exchange (r.right s y) ≡ r.left (exchange s) y)
    → StepsExchange r exchange Always
always b l r = record { both = λ s x y h k z. (tt, b s x y); left = λ s x h z. (tt, l s x); right = λ s y h z. (tt, r s y) }

products-exchange : StepsExchange (products_rule binary32) crossed Always
unfolding products_with
products-exchange = always (λ s x y. rw (mul_comm binary32 x y)) (λ s x. refl) (λ s y. refl)

squares-exchange : StepsExchange (squares_rule binary32) (λ s. s) Always
unfolding squares_with
squares-exchange = always (λ s x y. ap (add binary32 s) (sub-squared binary32 x y)) (λ s x. refl) (λ s y. refl)

dots-exchange : StepsExchange dots_rule (λ s. s) Always
unfolding dots_with
dots-exchange = always (λ s x y. rw (mul_comm binary64 x y)) (λ s x. refl) (λ s y. refl)

-- the lesser of y and x may be the other zero than that of x and y, which a sum from +0.0 does not show
zero-from : FromZero binary32 plus_zero
zero-from = plus_zero-from_zero binary32

shares-from-zero : (s : Shares) (x y : Float) → Single x → Single y → BothFromZero binary32 s
    → BothFromZero binary32 (shares_with lesser greater binary32 s x y)
shares-from-zero s x y h k z = (one_more binary32 lesser greater (ours-are-choices binary32) x y h k s z).0

shares-exchanged : (s : Shares) (x y : Float) → Single x → Single y → BothFromZero binary32 s
    → shares_with lesser greater binary32 s x y ≡ shares_with lesser greater binary32 s y x
unfolding shares_with
shares-exchanged s x y h k z = sym (one_more binary32 (λ x y. lesser y x) (λ x y. greater y x) (exchanged-are-choices binary32) x y h k s z).1

shares-exchange : StepsExchange (shares_rule binary32) (λ s. s) (BothFromZero binary32)
shares-exchange = record {
  both = λ s x y h k z. (shares-from-zero s x y h k z, shares-exchanged s x y h k z);
  left = λ s x h z. (shares-from-zero s x plus_zero h zero-from.fitting z, refl);
  right = λ s y h z. (shares-from-zero s y plus_zero h zero-from.fitting z, refl);
}

-- ---- two bodies
module _ (a b : List ℕ) where
  bodies-swap : {S : Type 0} {r : Rule S} {exchange : S → S} {Reached : S → Type 0} → StepsExchange r exchange Reached → (s : S) → Reached s
      → exchange (merge r (entries_of a) (entries_of b) s) ≡ merge r (entries_of b) (entries_of a) (exchange s)
  unfolding merged
  bodies-swap t =
      merged-swap t (entries_of a) (entries_of b) (λ i. float_at-fits binary32 a (4 * i)) (λ j. float_at-fits binary32 b (4 * j))
      (entries_of a).count (entries_of b).count

  pub sparse-products-swap : crossed (sparse_products a b) ≡ sparse_products b a
  unfolding sparse_products
  sparse-products-swap = bodies-swap products-exchange no_products tt

  pub sparse-squares-swap : sparse_squares a b ≡ sparse_squares b a
  unfolding sparse_squares
  sparse-squares-swap = bodies-swap squares-exchange plus_zero tt

  pub sparse-dots-swap : sparse_dots a b ≡ sparse_dots b a
  unfolding sparse_dots
  sparse-dots-swap = bodies-swap dots-exchange plus_zero tt

  pub sparse-shares-swap : sparse_shares a b ≡ sparse_shares b a
  unfolding sparse_shares_by
  sparse-shares-swap = bodies-swap shares-exchange no_shares (zero-from, zero-from)
