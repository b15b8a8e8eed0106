-- Each turn of the loop is a turn of the merge, and the sums stay such as start from 0.0.
use mathlib.Core.Path.{◌≡◌, sym, subst}
use native.Mathlib.Omega.{arith}
use borrow.Author.Rules.{rules}
use lib.Dec.{T}
use lib.Ieee.{Float, binary32, fits}
use Rattle.distance_sums.specs.Extremes.{lesser, greater}
use Rattle.distance_sums.specs.Dense.{Shares, shares_with}
use Rattle.distance_sums.specs.Sparse.{sparse_shares_by}
use Rattle.float_laws.proofs.Running.{plus_zero-from_zero}
use Rattle.distance_sums.proofs.EitherZero.{BothFromZero, one_more, ours-are-choices}
use Rattle.bodies.proofs.Merging.{merging-none, merging-done, merging-both, merging-left, merging-right}
use Rattle.jaccard.proofs.sparse_sums.Goals as goal

-- a pair more leaves both sums what a sum from 0.0 can be
both-from_zero : {s t : Shares} (x y : Float) → t ≡ shares_with lesser greater binary32 s x y → T (fits binary32 x) → T (fits binary32 y)
    → BothFromZero binary32 s → BothFromZero binary32 t
both-from_zero {s} x y e h k z = subst (BothFromZero binary32) (sym e) (one_more binary32 lesser greater (ours-are-choices binary32) x y h k s z).0

pub loop-sums-init : goal.loop-sums-init
loop-sums-init c =
    let zero = plus_zero-from_zero binary32 in
    (merging-none c.new-sums.ensures, subst (BothFromZero binary32) (sym c.new-sums.ensures) (zero, zero))

pub returns-in-Done : goal.returns-in-Done
unfolding sparse_shares_by
returns-in-Done c = merging-done c.loop-sums.invariant.0 c.next_turn.ensures c.in-Done.is

pub alone-sums-requires : goal.alone-sums-requires
alone-sums-requires c = let i = c.loop-sums.invariant.1 in record { low_from_zero = i.0; high_from_zero = i.1 }

pub alone-sums-requires-in-Right : goal.alone-sums-requires-in-Right
alone-sums-requires-in-Right c = let i = c.loop-sums.invariant.1 in record { low_from_zero = i.0; high_from_zero = i.1 }

pub loop-sums-preserved-in-Both : goal.loop-sums-preserved-in-Both
loop-sums-preserved-in-Both c =
    let l = c.loop-sums in
    let merging = merging-both l.invariant.0 c.next_turn.ensures c.in-Both.is c.step-sums.ensures in
    (merging, both-from_zero _ _ c.step-sums.ensures (search rules) (search rules) l.invariant.1)

pub loop-sums-preserved-in-Left : goal.loop-sums-preserved-in-Left
loop-sums-preserved-in-Left c =
    let l = c.loop-sums in
    let merging = merging-left l.invariant.0 c.next_turn.ensures c.in-Left.is c.alone-sums.ensures in
    (merging, both-from_zero _ _ c.alone-sums.ensures (search rules) (plus_zero-from_zero binary32).fitting l.invariant.1)

pub loop-sums-preserved : goal.loop-sums-preserved
loop-sums-preserved c =
    let l = c.loop-sums in
    let merging = merging-right l.invariant.0 c.next_turn.ensures c.in-Right.is c.alone-sums-in-Right.ensures in
    (merging, both-from_zero _ _ c.alone-sums-in-Right.ensures (search rules) (plus_zero-from_zero binary32).fitting l.invariant.1)

pub overflow_add-i : goal.overflow_add-i
overflow_add-i c = omega (arith, (loop-sums-preserved-in-Both c).0)

pub overflow_add-j : goal.overflow_add-j
overflow_add-j c = omega (arith, (loop-sums-preserved-in-Both c).0)

pub loop-sums-smaller-in-Both : goal.loop-sums-smaller-in-Both
loop-sums-smaller-in-Both c = omega (arith, (loop-sums-preserved-in-Both c).0)

pub overflow_add-i-in-Left : goal.overflow_add-i-in-Left
overflow_add-i-in-Left c = omega (arith, (loop-sums-preserved-in-Left c).0)

pub loop-sums-smaller-in-Left : goal.loop-sums-smaller-in-Left
loop-sums-smaller-in-Left c = omega (arith, (loop-sums-preserved-in-Left c).0)

pub overflow_add-j-in-Right : goal.overflow_add-j-in-Right
overflow_add-j-in-Right c = omega (arith, (loop-sums-preserved c).0)

pub loop-sums-smaller : goal.loop-sums-smaller
loop-sums-smaller c = omega (arith, (loop-sums-preserved c).0)
