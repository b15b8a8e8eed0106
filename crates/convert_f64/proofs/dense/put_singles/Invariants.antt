-- The loop fills, pattern by pattern, each narrowed.
use Prim.Native.Nat.{◌-◌}
use lib.Ieee.{binary32, binary64}
use Rattle.rounding.specs.Narrow.{narrowed}
use Rattle.bodies.specs.Elements.{dense_element}
use Rattle.convert_parts.specs.Dense.{floats_of}
use Rattle.convert_parts.proofs.Pieces.{FilledSoFar}
use Rattle.convert_f64.proofs.dense.put_singles.Given as goal

abbrev pub invariant-loop-i : goal.invariant-loop-i
invariant-loop-i l = FilledSoFar (floats_of binary32 (λ k. narrowed (dense_element binary64 l.body k))) l.dims l.initial.out l.out l.i

abbrev pub decreases-loop-i : goal.decreases-loop-i
decreases-loop-i l = l.dims - l.i
