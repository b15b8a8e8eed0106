-- The loop fills, float by float, by the body's alpha and shift, widened.
use Prim.Native.Nat.{◌-◌}
use lib.Ieee.{binary64}
use Rattle.bodies.specs.Elements.{float8_element}
use Rattle.convert_parts.specs.Dense.{floats_of}
use Rattle.convert_parts.proofs.Pieces.{FilledSoFar}
use Rattle.convert_float8.proofs.dense.put_doubles.Given as goal

abbrev pub invariant-loop-i : goal.invariant-loop-i
invariant-loop-i l = FilledSoFar (floats_of binary64 (float8_element binary64 l.dims l.body)) l.dims l.initial.out l.out l.i

abbrev pub decreases-loop-i : goal.decreases-loop-i
decreases-loop-i l = l.dims - l.i
