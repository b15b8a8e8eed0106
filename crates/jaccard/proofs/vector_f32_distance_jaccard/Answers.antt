-- The loop adds one pair a turn.
use mathlib.Core.Path.{◌≡◌, ◌∙◌, ap}
use native.Mathlib.Omega.{arith}
use lib.Ieee.{binary32, of_bits}
use Rattle.distance_sums.specs.Extremes.{lesser, greater}
use Rattle.distance_sums.specs.Dense.{jaccard_by}
use Rattle.distance_sums.specs.Values.{jaccard_of}
use Rattle.distance_sums.proofs.Sums.{shares-none, shares-more}
use Rattle.jaccard.proofs.vector_f32_distance_jaccard.Goals as goal

pub loop-i-init : goal.loop-i-init
loop-i-init c = (omega arith, c.new-sums.ensures ∙ shares-none _ _ lesser greater binary32)

pub loop-i-preserved : goal.loop-i-preserved
loop-i-preserved c =
    let p = ap (of_bits binary32) c.u32_at.ensures in
    let q = ap (of_bits binary32) c.u32_at-in-loop-i.ensures in
    (omega arith, shares-more _ _ _ _ _ p q lesser greater binary32 _ _ c.loop-i.invariant.1 c.step_bits-sums.ensures)

pub returns : goal.returns
unfolding jaccard_of
returns c =
    let e : c.loop-i.i ≡ c.args.dims = omega arith in
    c.distance.ensures ∙ ap (jaccard_by binary32) (rw e at c.loop-i.invariant.1)
