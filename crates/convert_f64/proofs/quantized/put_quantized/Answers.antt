-- The bytes and the end, written one after another (`quantized-put`), by the scale that fits the range.
use Prim.Native.Nat.{ℕ}
use native.Mathlib.Omega.{arith}
use borrow.Author.Rules.{rules}
use lib.Ieee.{Float, binary64}
use Rattle.rounding.specs.Narrow.{narrowed}
use Rattle.rounding.proofs.NarrowBits.{narrowed-fits}
use Rattle.bodies.specs.Elements.{dense_element}
use Rattle.convert_parts.specs.Result.{result_of}
use Rattle.convert_parts.proofs.RangeSoFar.{quantized-put}
use Rattle.convert_parts.proofs.Through.{quantized-through}
use Rattle.convert_f64.proofs.quantized.put_quantized.Goals as goal

pub put_quanta-requires : goal.put_quanta-requires
put_quanta-requires c = record { body_len = search rules; dims_in_bounds = omega arith }

pub returns : goal.returns
unfolding result_of
returns c =
    let a = c.args in
    let e : ℕ → Float = λ i. narrowed (dense_element binary64 a.body.now i) in
    rw (quantized-through e a.dims (λ i. narrowed-fits (dense_element binary64 a.body.now i)))
    (quantized-put a.dims e _ _ a.out.now _ _ c.range_of-found.ensures c.scale_for-scale.ensures c.put_quanta.ensures c.put_end.ensures)
