-- The loop fills, element by element, each widened.
use Prim.Native.Nat.{◌-◌}
use lib.Ieee.{binary64}
use Rattle.bodies.specs.Elements.{bit_element}
use Rattle.convert_parts.specs.Dense.{floats_of}
use Rattle.convert_parts.proofs.Pieces.{FilledSoFar}
use Rattle.convert_1bit.proofs.dense.put_doubles.Given as goal

abbrev pub invariant-loop-i : goal.invariant-loop-i
invariant-loop-i l = FilledSoFar (floats_of binary64 (bit_element l.body)) l.dims l.initial.out l.out l.i

abbrev pub decreases-loop-i : goal.decreases-loop-i
decreases-loop-i l = l.dims - l.i
