-- The loop fills, element by element.
use lib.Ieee.{binary32}
use Rattle.convert_parts.specs.Result.{result_of}
use Rattle.convert_parts.proofs.Pieces.{fill_none, fill-float, fill-all}
use Rattle.convert_1bit.proofs.dense.put_singles.Goals as goal

pub loop-i-preserved : goal.loop-i-preserved
loop-i-preserved c =
    fill-float binary32 _ c.loop-i.invariant c.loop-i-test.true c.requires.dims_in_bounds _ _ c.element-x.ensures c.put_f32.ensures

pub returns : goal.returns
unfolding result_of
returns c = fill-all c.loop-i.invariant c.loop-i-test.false

pub loop-i-init : goal.loop-i-init
loop-i-init c = fill_none _ _ _
