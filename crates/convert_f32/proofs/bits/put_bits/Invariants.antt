-- The loop fills, byte by byte.
use mathlib.Core.List.{[], ◌∷◌}
use Prim.Native.Nat.{◌-◌}
use lib.Ieee.{binary32}
use Rattle.bodies.specs.Elements.{dense_element}
use Rattle.convert_parts.specs.Pieces.{pieces}
use Rattle.convert_parts.specs.Bits.{is_positive, packed_byte}
use Rattle.convert_parts.proofs.Pieces.{FilledSoFar}
use Rattle.convert_f32.proofs.bits.put_bits.Given as goal

abbrev pub invariant-loop-m : goal.invariant-loop-m
invariant-loop-m l = FilledSoFar (pieces (λ k. packed_byte (λ i. is_positive (dense_element binary32 l.body i)) l.dims k 8 ∷ [])) l.size l.initial.out l.out l.m

abbrev pub decreases-loop-m : goal.decreases-loop-m
decreases-loop-m l = l.size - l.m
