-- The loop's invariant: the byte is made up of its first bits, and the weight is that of the next.
use native.Mathlib.Omega.{arith}
use Rattle.convert_parts.proofs.Packed.{pack-none, pack-next, pack-all}
use Rattle.convert_f64.proofs.bits.packed_byte.Goals as goal

pub loop-j-preserved : goal.loop-j-preserved
loop-j-preserved c =
    pack-next c.loop-j.invariant c.loop-j-test.true c.is_positive.ensures c.weighed-byte.ensures

pub overflow_add-byte : goal.overflow_add-byte
overflow_add-byte c = let more = loop-j-preserved c in omega arith

pub loop-j-init : goal.loop-j-init
loop-j-init c = pack-none _ _ _

pub returns : goal.returns
returns c = pack-all c.loop-j.invariant c.loop-j-test.false
