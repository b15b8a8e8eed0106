-- The loop fills, byte by byte.
use mathlib.Core.List.{[], ◌∷◌}
use Prim.Native.Nat.{◌-◌}
use Rattle.convert_parts.specs.Pieces.{pieces}
use Rattle.convert_parts.proofs.Pieces.{FilledSoFar}
use Rattle.convert_parts.proofs.filling.put_zeros.Given as goal

abbrev pub invariant-loop-i : goal.invariant-loop-i
invariant-loop-i l = FilledSoFar (pieces (λ _. 0 ∷ [])) l.n l.initial.out l.out l.i

abbrev pub decreases-loop-i : goal.decreases-loop-i
decreases-loop-i l = l.n - l.i
