-- The loop adds one squared difference a turn.
use mathlib.Core.Path.{◌≡◌}
use Prim.Native.Nat.{◌-◌, ◌≤◌}
use lib.Ieee.{binary32}
use Rattle.bodies.specs.Elements.{dense_element}
use Rattle.distance_sums.specs.Dense.{squares}
use Rattle.distance_l2.proofs.vector_f32_distance_l2.Given as goal

abbrev pub invariant-loop-i : goal.invariant-loop-i
invariant-loop-i l = (l.i ≤ l.dims) × (l.sum ≡ squares binary32 (dense_element binary32 l.a) (dense_element binary32 l.b) l.i)

abbrev pub decreases-loop-i : goal.decreases-loop-i
decreases-loop-i l = l.dims - l.i
