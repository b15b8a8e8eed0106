-- Each turn of the loop is a turn of the merge, and the sums stay such as start from 0.0.
use Prim.Native.Nat.{◌+◌, ◌-◌}
use lib.Ieee.{binary32}
use Rattle.bodies.specs.Entries.{stored_count, entries_of}
use Rattle.distance_sums.specs.Dense.{no_shares}
use Rattle.distance_sums.specs.Inner.Shares.{shares_rule}
use Rattle.jaccard.specs.Inner.Sums.{shares32}
use Rattle.distance_sums.proofs.EitherZero.{BothFromZero}
use Rattle.bodies.proofs.Merging.{Merging}
use Rattle.jaccard.proofs.sparse_sums.Given as goal

abbrev pub invariant-loop-sums : goal.invariant-loop-sums
invariant-loop-sums l = Merging (shares_rule binary32) (entries_of l.a) (entries_of l.b) no_shares (shares32 l.sums) l.i l.j × BothFromZero binary32 (shares32 l.sums)

abbrev pub decreases-loop-sums : goal.decreases-loop-sums
decreases-loop-sums l = (stored_count l.a - l.i) + (stored_count l.b - l.j)
