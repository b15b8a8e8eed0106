-- Two sparse vectors merged by index with two cursors, in stored order: once over the state and its three steps.
use Rattle.std.specs.Prelude.{ℕ, zero, suc, ◌-◌, cond, eqb, ltb, Float}
use Rattle.bodies.specs.Entries.{Entries}

-- what is added to the state at an index that both vectors have, that only the first has, and that only the second has
pub record Rule (S : Type 0) : Type 0 where
  pub both : S → Float → Float → S
  pub left : S → Float → S
  pub right : S → Float → S

-- p entries of v and q of w are still to come: of the next two the lower index is taken, and equal ones together
unfoldable pub merged : {S : Type 0} → Rule S → Entries → Entries → S → ℕ → ℕ → S
merged r v w s zero zero = s
merged r v w s zero (suc q) = merged r v w (r.right s (w.value (w.count - suc q))) zero q
merged r v w s (suc p) zero = merged r v w (r.left s (v.value (v.count - suc p))) p zero
merged r v w s (suc p) (suc q) =
    let i = v.count - suc p in
    let j = w.count - suc q in
    let both = merged r v w (r.both s (v.value i) (w.value j)) p q in
    let left = merged r v w (r.left s (v.value i)) p (suc q) in
    let right = merged r v w (r.right s (w.value j)) (suc p) q in
    cond (eqb (v.index i) (w.index j)) both (cond (ltb (v.index i) (w.index j)) left right)

-- all entries
abbrev pub merge : {S : Type 0} → Rule S → Entries → Entries → S → S
unfolding merged
merge r v w s = merged r v w s v.count w.count
