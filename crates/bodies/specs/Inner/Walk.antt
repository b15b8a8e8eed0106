-- Two sparse vectors walked index by index, by the rule of a merge: what stands at each index in either is looked up.
use Rattle.std.specs.Prelude.{ℕ, zero, suc, cond, eqb, Float}
use Rattle.std.proofs.Math.Option.{Option, none, some}
use Rattle.bodies.specs.Entries.{Entries}
use Rattle.bodies.specs.Merged.{Rule}

-- the value at the index t, if there is one: of the first n entries, the last that stands there
unfoldable pub lookup : Entries → ℕ → ℕ → Option Float
lookup v zero t = none
lookup v (suc n) t = let rest = lookup v n t in cond (eqb (v.index n) t) (some (v.value n)) rest

-- one index; one that neither has adds nothing
abbrev pub turn : {S : Type 0} → Rule S → S → Option Float → Option Float → S
turn r s none none = s
turn r s none (some y) = r.right s y
turn r s (some x) none = r.left s x
turn r s (some x) (some y) = r.both s x y

-- the indices 0 to d - 1
unfoldable pub walked : {S : Type 0} → Rule S → Entries → Entries → S → ℕ → S
walked r v w s zero = s
walked r v w s (suc t) = turn r (walked r v w s t) (lookup v v.count t) (lookup w w.count t)
