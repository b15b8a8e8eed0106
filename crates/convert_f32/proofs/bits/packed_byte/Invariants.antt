-- The loop's invariant: the byte is made up of its first bits, and the weight is that of the next.
use Prim.Native.Nat.{◌-◌}
use lib.Ieee.{binary32}
use Rattle.bodies.specs.Elements.{dense_element}
use Rattle.convert_parts.specs.Bits.{is_positive}
use Rattle.convert_parts.proofs.Packed.{Packing}
use Rattle.convert_f32.proofs.bits.packed_byte.Given as goal

abbrev pub invariant-loop-j : goal.invariant-loop-j
invariant-loop-j l = Packing (λ i. is_positive (dense_element binary32 l.body i)) l.dims l.m l.byte l.weight l.j

abbrev pub decreases-loop-j : goal.decreases-loop-j
decreases-loop-j l = 8 - l.j
