-- The loop adds one squared difference a turn, of elements made by the scales.
use mathlib.Core.Path.{◌≡◌}
use native.Mathlib.Omega.{arith}
use lib.Ieee.{binary64, of_bits}
use Rattle.distance_sums.specs.Values.{l2_of}
use Rattle.distance_sums.proofs.Sums.{squares-none, squares-more}
use Rattle.distance_l2.proofs.vector_f8_distance_l2.Goals as goal

pub loop-i-init : goal.loop-i-init
unfolding of_bits
loop-i-init c = (omega arith, squares-none _ _ binary64)

pub loop-i-preserved : goal.loop-i-preserved
loop-i-preserved c =
    let p = rw (c.widened-u.ensures, c.scale_of.ensures) at c.element-x.ensures in
    let q = rw (c.widened-v.ensures, c.scale_of-2.ensures) at c.element-y.ensures in
    (omega arith, squares-more _ _ _ _ _ p q binary64 _ _ c.loop-i.invariant.1 c.l2_step64-sum.ensures)

pub returns : goal.returns
unfolding l2_of
returns c =
    let all : c.loop-i.i ≡ c.args.dims = omega arith in
    rw (c.root_of.ensures, c.loop-i.invariant.1, all)
