-- Zeros where alpha is 0.0; else the loop gives each bit its byte of the two, which is its element's (`two_bytes`).
use mathlib.Core.Path.{◌≡◌}
use mathlib.Core.Bool.{true, false}
use native.Mathlib.Omega.{arith}
use lib.Ieee.{eq, of_bits}
use Rattle.float_laws.specs.Zero.{plus_zero}
use Rattle.convert_parts.specs.Quantized.{quantum}
use Rattle.convert_parts.proofs.Pieces.{fill_none, fill-byte, fill-all, pieces-zeros}
use Rattle.convert_1bit.proofs.Units.{two_bytes}
use Rattle.convert_1bit.proofs.quantized.put_quanta.Goals as goal
use Rattle.convert_1bit.proofs.quantized.put_quanta.Goals.{Else-scale}

pub returns-then-scale : goal.returns-then-scale
unfolding of_bits
returns-then-scale c =
    let zero : eq c.args.scale.alpha plus_zero ≡ true = c.if-scale.true in
    rw (zero, pieces-zeros) c.put_zeros.ensures

-- alpha is not 0.0
other : (c : Else-scale) → eq c.args.scale.alpha plus_zero ≡ false
unfolding of_bits
other c = c.if-scale.false

pub loop-i-preserved : goal.loop-i-preserved
loop-i-preserved c = fill-byte _ c.loop-i.invariant (omega arith) (omega arith) _ (rw c.bit_at-bit.ensures)

pub returns : goal.returns
returns c =
    let a = c.args in
    two_bytes a.body.now (quantum a.scale) a.dims _ _ c.quantize-clear.ensures c.quantize-set.ensures _ _
    (fill-all c.loop-i.invariant c.loop-i-test.false)

pub quantize-clear-requires : goal.quantize-clear-requires
quantize-clear-requires c = other c

pub quantize-set-requires : goal.quantize-set-requires
quantize-set-requires c = other (goal.at.quantize-set-requires c).Else-scale

pub loop-i-init : goal.loop-i-init
loop-i-init c = fill_none _ _ _
