-- The loop adds one pair a turn.
use mathlib.Core.Path.{◌≡◌}
use Prim.Native.Nat.{◌-◌, ◌≤◌}
use lib.Ieee.{binary64}
use Rattle.bodies.specs.Elements.{dense_element}
use Rattle.distance_sums.specs.Inner.Shares.{shares}
use Rattle.jaccard.specs.Inner.Sums.{shares64}
use Rattle.jaccard.proofs.vector_f64_distance_jaccard.Given as goal

abbrev pub invariant-loop-i : goal.invariant-loop-i
invariant-loop-i l = (l.i ≤ l.dims) × (shares64 l.sums ≡ shares binary64 (dense_element binary64 l.a) (dense_element binary64 l.b) l.i)

abbrev pub decreases-loop-i : goal.decreases-loop-i
decreases-loop-i l = l.dims - l.i
