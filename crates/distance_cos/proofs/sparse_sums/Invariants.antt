-- Each turn of the loop is a turn of the merge.
use Prim.Native.Nat.{◌+◌, ◌-◌}
use lib.Ieee.{binary32}
use Rattle.bodies.specs.Entries.{stored_count, entries_of}
use Rattle.distance_sums.specs.Dense.{no_products}
use Rattle.distance_sums.specs.Sparse.{products_rule}
use Rattle.distance_cos.specs.Inner.Sums.{products32}
use Rattle.bodies.proofs.Merging.{Merging}
use Rattle.distance_cos.proofs.sparse_sums.Given as goal

abbrev pub invariant-loop-sums : goal.invariant-loop-sums
invariant-loop-sums l = Merging (products_rule binary32) (entries_of l.a) (entries_of l.b) no_products (products32 l.sums) l.i l.j

abbrev pub decreases-loop-sums : goal.decreases-loop-sums
decreases-loop-sums l = (stored_count l.a - l.i) + (stored_count l.b - l.j)
