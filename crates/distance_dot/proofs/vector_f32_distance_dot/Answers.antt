-- The loop adds one pair a turn.
use mathlib.Core.Path.{◌≡◌, ap}
use native.Mathlib.Omega.{arith}
use lib.Ieee.{of_bits}
use Rattle.distance_sums.specs.Dense.{dot_by}
use Rattle.distance_sums.specs.Values.{dot_of}
use Rattle.distance_sums.proofs.Sums.{dots-none, dots-more}
use Rattle.distance_dot.proofs.vector_f32_distance_dot.Goals as goal

pub loop-i-init : goal.loop-i-init
unfolding of_bits
loop-i-init c = (omega arith, dots-none _ _)

pub loop-i-preserved : goal.loop-i-preserved
loop-i-preserved c =
    let l = c.loop-i in
    (omega arith, dots-more _ _ l.i _ _ c.wide_at-x.ensures c.wide_at-y.ensures _ _ l.invariant.1 c.dot_step-sum.ensures)

pub returns : goal.returns
unfolding dot_of
returns c =
    let l = c.loop-i in
    let all : l.i ≡ c.args.dims = omega arith in
    ap dot_by (rw all at l.invariant.1)
