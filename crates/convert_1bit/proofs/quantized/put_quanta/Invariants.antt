-- Zeros where alpha is 0.0; else the loop gives each bit its byte of the two, which is its element's (`two_bytes`).
use mathlib.Core.List.{[], ◌∷◌}
use Prim.Native.Nat.{◌-◌}
use lib.ListN.{get_or}
use Rattle.vector_types.specs.Layout.{bit_at}
use Rattle.convert_parts.specs.Pieces.{pieces}
use Rattle.convert_parts.proofs.Pieces.{FilledSoFar}
use Rattle.convert_1bit.proofs.quantized.put_quanta.Given as goal

abbrev pub invariant-loop-i : goal.invariant-loop-i
invariant-loop-i l = FilledSoFar (pieces (λ k. get_or l.bytes (bit_at l.body k) 0 ∷ [])) l.dims l.initial.out l.out l.i

abbrev pub decreases-loop-i : goal.decreases-loop-i
decreases-loop-i l = l.dims - l.i
