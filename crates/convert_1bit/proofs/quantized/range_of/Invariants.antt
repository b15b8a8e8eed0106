-- The loop's invariant: the range of the elements passed, which no element makes wider where it has two ends (`both-met`).
use Prim.Native.Nat.{◌-◌}
use Rattle.bodies.specs.Elements.{bit_element}
use Rattle.convert_parts.proofs.RangeSoFar.{RangeSoFar}
use Rattle.convert_1bit.proofs.quantized.range_of.Given as goal

abbrev pub invariant-loop-i : goal.invariant-loop-i
invariant-loop-i l = RangeSoFar (bit_element l.body) l.dims l.i l.found

abbrev pub decreases-loop-i : goal.decreases-loop-i
decreases-loop-i l = l.dims - l.i
