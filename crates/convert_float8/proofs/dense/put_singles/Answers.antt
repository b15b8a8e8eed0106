-- The loop fills, float by float, by the body's alpha and shift.
use lib.Ieee.{binary32}
use Rattle.convert_parts.specs.Result.{result_of}
use Rattle.convert_parts.proofs.Pieces.{fill_none, fill-float, fill-all}
use Rattle.convert_float8.proofs.dense.put_singles.Goals as goal

pub loop-i-preserved : goal.loop-i-preserved
loop-i-preserved c =
    let scaled = rw c.scale_of-scale.ensures at c.element-x.ensures in
    fill-float binary32 _ c.loop-i.invariant c.loop-i-test.true c.requires.dims_in_bounds _ _ scaled c.put_f32.ensures

pub returns : goal.returns
unfolding result_of
returns c = fill-all c.loop-i.invariant c.loop-i-test.false

pub loop-i-init : goal.loop-i-init
loop-i-init c = fill_none _ _ _
