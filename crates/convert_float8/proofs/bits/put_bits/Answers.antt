-- The loop fills, byte by byte.
use native.Mathlib.Omega.{arith}
use Rattle.convert_parts.specs.Bits.{packed_bits}
use Rattle.convert_parts.proofs.Pieces.{fill_none, fill-byte, fill-all}
use Rattle.convert_float8.proofs.Scaled.{packed-elements}
use Rattle.convert_float8.proofs.bits.put_bits.Goals as goal

pub loop-m-preserved : goal.loop-m-preserved
loop-m-preserved c = fill-byte _ c.loop-m.invariant (omega arith) (omega arith) c.packed_byte.result c.packed_byte.ensures

pub returns : goal.returns
unfolding packed_bits
returns c = rw (packed-elements _ _) (fill-all c.loop-m.invariant c.loop-m-test.false)

pub loop-m-init : goal.loop-m-init
loop-m-init c = fill_none _ _ _
