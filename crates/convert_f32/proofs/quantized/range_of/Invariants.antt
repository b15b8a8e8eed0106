-- The loop's invariant: the range of the elements passed.
use Prim.Native.Nat.{◌-◌}
use lib.Ieee.{binary32}
use Rattle.bodies.specs.Elements.{dense_element}
use Rattle.convert_parts.proofs.RangeSoFar.{RangeSoFar}
use Rattle.convert_f32.proofs.quantized.range_of.Given as goal

abbrev pub invariant-loop-i : goal.invariant-loop-i
invariant-loop-i l = RangeSoFar (dense_element binary32 l.body) l.dims l.i l.found

abbrev pub decreases-loop-i : goal.decreases-loop-i
decreases-loop-i l = l.dims - l.i
