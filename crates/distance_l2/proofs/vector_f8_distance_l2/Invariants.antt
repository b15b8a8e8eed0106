-- The loop adds one squared difference a turn, of elements made by the scales.
use mathlib.Core.Path.{◌≡◌}
use Prim.Native.Nat.{◌-◌, ◌≤◌}
use lib.Ieee.{binary64}
use Rattle.bodies.specs.Elements.{float8_element}
use Rattle.distance_sums.specs.Dense.{squares}
use Rattle.distance_l2.proofs.vector_f8_distance_l2.Given as goal

abbrev pub invariant-loop-i : goal.invariant-loop-i
invariant-loop-i l = (l.i ≤ l.dims) × (l.sum ≡ squares binary64 (float8_element binary64 l.dims l.a) (float8_element binary64 l.dims l.b) l.i)

abbrev pub decreases-loop-i : goal.decreases-loop-i
decreases-loop-i l = l.dims - l.i
