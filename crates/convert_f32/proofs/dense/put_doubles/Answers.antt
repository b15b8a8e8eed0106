-- The loop fills, pattern by pattern, each widened.
use lib.Ieee.{binary64}
use Rattle.convert_parts.specs.Result.{result_of}
use Rattle.convert_parts.proofs.Pieces.{fill_none, fill-pattern, fill-all}
use Rattle.convert_f32.proofs.dense.put_doubles.Goals as goal

pub loop-i-preserved : goal.loop-i-preserved
loop-i-preserved c =
    let bits = rw c.u32_at.ensures at c.widen_bits-bits.ensures in
    fill-pattern binary64 _ c.loop-i.invariant c.loop-i-test.true c.requires.dims_in_bounds _ _ bits c.put_u64.ensures

pub returns : goal.returns
unfolding result_of
returns c = fill-all c.loop-i.invariant c.loop-i-test.false

pub loop-i-init : goal.loop-i-init
loop-i-init c = fill_none _ _ _
