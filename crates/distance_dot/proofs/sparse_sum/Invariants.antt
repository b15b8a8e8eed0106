-- Each turn of the loop is a turn of the merge.
use Prim.Native.Nat.{◌+◌, ◌-◌}
use Rattle.float_laws.specs.Zero.{plus_zero}
use Rattle.bodies.specs.Entries.{stored_count, entries_of}
use Rattle.distance_sums.specs.Sparse.{dots_rule}
use Rattle.bodies.proofs.Merging.{Merging}
use Rattle.distance_dot.proofs.sparse_sum.Given as goal

abbrev pub invariant-loop-x : goal.invariant-loop-x
invariant-loop-x l = Merging dots_rule (entries_of l.a) (entries_of l.b) plus_zero l.sum l.i l.j

abbrev pub decreases-loop-x : goal.decreases-loop-x
decreases-loop-x l = (stored_count l.a - l.i) + (stored_count l.b - l.j)
