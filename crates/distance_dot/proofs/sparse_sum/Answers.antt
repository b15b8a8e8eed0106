-- Each turn of the loop is a turn of the merge.
use mathlib.Core.Path.{refl}
use native.Mathlib.Omega.{arith}
use lib.Ieee.{of_bits}
use Rattle.distance_sums.specs.Sparse.{sparse_dots}
use Rattle.bodies.proofs.Merging.{merging-none, merging-done, merging-both, merging-left, merging-right}
use Rattle.distance_dot.proofs.sparse_sum.Goals as goal

pub loop-x-init : goal.loop-x-init
unfolding of_bits
loop-x-init c = merging-none refl

pub returns-in-Done : goal.returns-in-Done
unfolding sparse_dots
returns-in-Done c = merging-done c.loop-x.invariant c.next_turn.ensures c.in-Done.is

pub loop-x-preserved-in-Both : goal.loop-x-preserved-in-Both
loop-x-preserved-in-Both c =
    let added = rw (c.widen.ensures, c.widen-in-Both.ensures) at c.dot_step-sum.ensures in
    merging-both c.loop-x.invariant c.next_turn.ensures c.in-Both.is added

pub loop-x-preserved-in-Left : goal.loop-x-preserved-in-Left
loop-x-preserved-in-Left c = merging-left c.loop-x.invariant c.next_turn.ensures c.in-Left.is refl

pub loop-x-preserved : goal.loop-x-preserved
loop-x-preserved c = merging-right c.loop-x.invariant c.next_turn.ensures c.in-Right.is refl

pub overflow_add-i : goal.overflow_add-i
overflow_add-i c = omega (arith, loop-x-preserved-in-Both c)

pub overflow_add-j : goal.overflow_add-j
overflow_add-j c = omega (arith, loop-x-preserved-in-Both c)

pub loop-x-smaller-in-Both : goal.loop-x-smaller-in-Both
loop-x-smaller-in-Both c = omega (arith, loop-x-preserved-in-Both c)

pub overflow_add-i-in-Left : goal.overflow_add-i-in-Left
overflow_add-i-in-Left c = omega (arith, loop-x-preserved-in-Left c)

pub loop-x-smaller-in-Left : goal.loop-x-smaller-in-Left
loop-x-smaller-in-Left c = omega (arith, loop-x-preserved-in-Left c)

pub overflow_add-j-in-Right : goal.overflow_add-j-in-Right
overflow_add-j-in-Right c = omega (arith, loop-x-preserved c)

pub loop-x-smaller : goal.loop-x-smaller
loop-x-smaller c = omega (arith, loop-x-preserved c)
