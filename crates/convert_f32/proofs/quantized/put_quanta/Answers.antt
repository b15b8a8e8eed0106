-- Zeros where alpha is 0.0; else the loop fills, byte by byte.
use mathlib.Core.Path.{◌≡◌}
use mathlib.Core.Bool.{true}
use native.Mathlib.Omega.{arith}
use lib.Ieee.{eq, of_bits}
use Rattle.float_laws.specs.Zero.{plus_zero}
use Rattle.convert_parts.proofs.Pieces.{fill_none, fill-byte, fill-all, pieces-zeros}
use Rattle.convert_f32.proofs.quantized.put_quanta.Goals as goal

pub returns-then-scale : goal.returns-then-scale
unfolding of_bits
returns-then-scale c =
    let zero : eq c.args.scale.alpha plus_zero ≡ true = c.if-scale.true in
    rw (zero, pieces-zeros) c.put_zeros.ensures

pub quantize-requires : goal.quantize-requires
unfolding of_bits
quantize-requires c = c.if-scale.false

pub loop-i-preserved : goal.loop-i-preserved
loop-i-preserved c =
    let byte = rw c.f32_at-x.ensures at c.quantize.ensures in
    fill-byte _ c.loop-i.invariant (omega arith) (omega arith) c.quantize.result byte

pub returns : goal.returns
returns c = fill-all c.loop-i.invariant c.loop-i-test.false

pub loop-i-init : goal.loop-i-init
loop-i-init c = fill_none _ _ _
