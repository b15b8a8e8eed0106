-- Each turn of the loop is a turn of the merge.
use native.Mathlib.Omega.{arith}
use Rattle.distance_sums.specs.Sparse.{sparse_products}
use Rattle.bodies.proofs.Merging.{merging-none, merging-done, merging-both, merging-left, merging-right}
use Rattle.distance_cos.proofs.sparse_sums.Goals as goal

pub loop-sums-init : goal.loop-sums-init
loop-sums-init c = merging-none c.new-sums.ensures

pub returns-in-Done : goal.returns-in-Done
unfolding sparse_products
returns-in-Done c = merging-done c.loop-sums.invariant c.next_turn.ensures c.in-Done.is

pub loop-sums-preserved-in-Both : goal.loop-sums-preserved-in-Both
loop-sums-preserved-in-Both c =
    merging-both c.loop-sums.invariant c.next_turn.ensures c.in-Both.is c.step-sums.ensures

pub loop-sums-preserved-in-Left : goal.loop-sums-preserved-in-Left
loop-sums-preserved-in-Left c =
    merging-left c.loop-sums.invariant c.next_turn.ensures c.in-Left.is c.left-sums.ensures

pub loop-sums-preserved : goal.loop-sums-preserved
loop-sums-preserved c =
    merging-right c.loop-sums.invariant c.next_turn.ensures c.in-Right.is c.right-sums.ensures

pub overflow_add-i : goal.overflow_add-i
overflow_add-i c = omega (arith, loop-sums-preserved-in-Both c)

pub overflow_add-j : goal.overflow_add-j
overflow_add-j c = omega (arith, loop-sums-preserved-in-Both c)

pub loop-sums-smaller-in-Both : goal.loop-sums-smaller-in-Both
loop-sums-smaller-in-Both c = omega (arith, loop-sums-preserved-in-Both c)

pub overflow_add-i-in-Left : goal.overflow_add-i-in-Left
overflow_add-i-in-Left c = omega (arith, loop-sums-preserved-in-Left c)

pub loop-sums-smaller-in-Left : goal.loop-sums-smaller-in-Left
loop-sums-smaller-in-Left c = omega (arith, loop-sums-preserved-in-Left c)

pub overflow_add-j-in-Right : goal.overflow_add-j-in-Right
overflow_add-j-in-Right c = omega (arith, loop-sums-preserved c)

pub loop-sums-smaller : goal.loop-sums-smaller
loop-sums-smaller c = omega (arith, loop-sums-preserved c)
