-- Zeros where alpha is 0.0; else the loop fills, byte by byte.
use mathlib.Core.List.{[], ◌∷◌}
use Prim.Native.Nat.{◌-◌}
use lib.Ieee.{binary64}
use Rattle.rounding.specs.Narrow.{narrowed}
use Rattle.bodies.specs.Elements.{dense_element}
use Rattle.convert_parts.specs.Pieces.{pieces}
use Rattle.convert_parts.specs.Quantized.{quantum}
use Rattle.convert_parts.proofs.Pieces.{FilledSoFar}
use Rattle.convert_f64.proofs.quantized.put_quanta.Given as goal

abbrev pub invariant-loop-i : goal.invariant-loop-i
invariant-loop-i l = FilledSoFar (pieces (λ k. quantum l.scale (narrowed (dense_element binary64 l.body k)) ∷ [])) l.dims l.initial.out l.out l.i

abbrev pub decreases-loop-i : goal.decreases-loop-i
decreases-loop-i l = l.dims - l.i
