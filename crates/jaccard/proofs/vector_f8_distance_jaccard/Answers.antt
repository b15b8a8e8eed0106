-- The loop adds one pair a turn, of elements made by the scales.
use mathlib.Core.Path.{◌≡◌, ◌∙◌, ap}
use native.Mathlib.Omega.{arith}
use lib.Ieee.{binary64}
use Rattle.distance_sums.specs.Extremes.{lesser, greater}
use Rattle.distance_sums.specs.Dense.{jaccard_by}
use Rattle.distance_sums.specs.Values.{jaccard_of}
use Rattle.distance_sums.proofs.Sums.{shares-none, shares-more}
use Rattle.jaccard.proofs.vector_f8_distance_jaccard.Goals as goal

pub loop-i-init : goal.loop-i-init
loop-i-init c = (omega arith, c.new-sums.ensures ∙ shares-none _ _ lesser greater binary64)

pub loop-i-preserved : goal.loop-i-preserved
loop-i-preserved c =
    let p = rw (c.widened-u.ensures, c.scale_of.ensures) at c.element.ensures in
    let q = rw (c.widened-v.ensures, c.scale_of-2.ensures) at c.element-in-loop-i.ensures in
    (omega arith, shares-more _ _ _ _ _ p q lesser greater binary64 _ _ c.loop-i.invariant.1 c.step-sums.ensures)

pub returns : goal.returns
unfolding jaccard_of
returns c =
    let all : c.loop-i.i ≡ c.args.dims = omega arith in
    c.distance.ensures ∙ ap (jaccard_by binary64) (rw all at c.loop-i.invariant.1)
