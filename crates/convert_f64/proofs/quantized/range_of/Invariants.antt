-- The loop's invariant: the range of the elements passed.
use Prim.Native.Nat.{◌-◌}
use lib.Ieee.{binary64}
use Rattle.rounding.specs.Narrow.{narrowed}
use Rattle.bodies.specs.Elements.{dense_element}
use Rattle.convert_parts.proofs.RangeSoFar.{RangeSoFar}
use Rattle.convert_f64.proofs.quantized.range_of.Given as goal

abbrev pub invariant-loop-i : goal.invariant-loop-i
invariant-loop-i l = RangeSoFar (λ k. narrowed (dense_element binary64 l.body k)) l.dims l.i l.found

abbrev pub decreases-loop-i : goal.decreases-loop-i
decreases-loop-i l = l.dims - l.i
