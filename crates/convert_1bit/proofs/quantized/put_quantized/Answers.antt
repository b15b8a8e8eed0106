-- The bytes and the end, written one after another (`quantized-put`), by the scale that fits the range.
use native.Mathlib.Omega.{arith}
use borrow.Author.Rules.{rules}
use lib.Ieee.{binary32}
use Rattle.bodies.specs.Elements.{bit_element}
use Rattle.bodies.proofs.Elements.{bit-fits}
use Rattle.convert_parts.specs.Result.{result_of}
use Rattle.convert_parts.proofs.RangeSoFar.{quantized-put}
use Rattle.convert_parts.proofs.Through.{quantized-through}
use Rattle.convert_1bit.proofs.quantized.put_quantized.Goals as goal

pub put_quanta-requires : goal.put_quanta-requires
put_quanta-requires c = record { body_len = search rules; dims_in_bounds = omega arith }

pub returns : goal.returns
unfolding result_of
returns c =
    let a = c.args in
    let e = bit_element a.body.now in
    rw (quantized-through e a.dims (bit-fits binary32 a.body.now))
    (quantized-put a.dims e _ _ a.out.now _ _ c.range_of-found.ensures c.scale_for-scale.ensures c.put_quanta.ensures c.put_end.ensures)
