-- The loop fills, pattern by pattern, each widened.
use Prim.Native.Nat.{◌-◌}
use lib.Ieee.{binary32, binary64}
use Rattle.bodies.specs.Elements.{dense_element}
use Rattle.convert_parts.specs.Dense.{floats_of}
use Rattle.convert_parts.proofs.Pieces.{FilledSoFar}
use Rattle.convert_f32.proofs.dense.put_doubles.Given as goal

abbrev pub invariant-loop-i : goal.invariant-loop-i
invariant-loop-i l = FilledSoFar (floats_of binary64 (dense_element binary32 l.body)) l.dims l.initial.out l.out l.i

abbrev pub decreases-loop-i : goal.decreases-loop-i
decreases-loop-i l = l.dims - l.i
