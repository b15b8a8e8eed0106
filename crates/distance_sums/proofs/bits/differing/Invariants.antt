-- The count is the tally of the bytes before, which a turn takes by eight and then by one.
use Prim.Native.Nat.{◌*◌, ◌-◌, ◌≤◌}
use lib.Bits.{differ}
use Rattle.distance_sums.proofs.Counts.{Counted}
use Rattle.distance_sums.proofs.bits.differing.Given as goal

abbrev pub invariant-loop-k : goal.invariant-loop-k
invariant-loop-k l = (l.k ≤ l.words) × Counted differ l.a l.b (8 * l.k) l.count

abbrev pub decreases-loop-k : goal.decreases-loop-k
decreases-loop-k l = l.words - l.k

abbrev pub invariant-loop-i : goal.invariant-loop-i
invariant-loop-i l = (l.i ≤ l.size) × Counted differ l.a l.b l.i l.count

abbrev pub decreases-loop-i : goal.decreases-loop-i
decreases-loop-i l = l.size - l.i
