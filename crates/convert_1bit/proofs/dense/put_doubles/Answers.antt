-- The loop fills, element by element, each widened.
use mathlib.Core.Path.{◌∙◌}
use lib.Ieee.{binary64}
use Rattle.convert_parts.specs.Result.{result_of}
use Rattle.convert_parts.proofs.Pieces.{fill_none, fill-float, fill-all}
use Rattle.convert_1bit.proofs.dense.put_doubles.Goals as goal

pub loop-i-preserved : goal.loop-i-preserved
loop-i-preserved c =
    let wide = c.widen-x.ensures ∙ c.element.ensures in
    fill-float binary64 _ c.loop-i.invariant c.loop-i-test.true c.requires.dims_in_bounds _ _ wide c.put_f64.ensures

pub returns : goal.returns
unfolding result_of
returns c = fill-all c.loop-i.invariant c.loop-i-test.false

pub loop-i-init : goal.loop-i-init
loop-i-init c = fill_none _ _ _
