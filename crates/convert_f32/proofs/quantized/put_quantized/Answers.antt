-- The bytes and the end, written one after another (`quantized-put`), by the scale that fits the range.
use native.Mathlib.Omega.{arith}
use borrow.Author.Rules.{rules}
use lib.Ieee.{binary32}
use Rattle.bodies.specs.Elements.{dense_element}
use Rattle.convert_parts.specs.Result.{result_of}
use Rattle.convert_parts.proofs.RangeSoFar.{quantized-put}
use Rattle.convert_f32.proofs.quantized.put_quantized.Goals as goal

pub put_quanta-requires : goal.put_quanta-requires
put_quanta-requires c = record { body_len = search rules; dims_in_bounds = omega arith }

pub returns : goal.returns
unfolding result_of
returns c =
    let a = c.args in
    quantized-put a.dims (dense_element binary32 a.body.now) _ _ a.out.now _ _ c.range_of-found.ensures c.scale_for-scale.ensures c.put_quanta.ensures c.put_end.ensures
