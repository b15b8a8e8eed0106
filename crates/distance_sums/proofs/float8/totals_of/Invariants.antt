-- The loop adds one pair a turn, for which each sum has room.
use Prim.Native.Nat.{◌-◌, ◌≤◌}
use Rattle.distance_sums.proofs.Totalled.{Totalled}
use Rattle.distance_sums.proofs.float8.totals_of.Given as goal

abbrev pub invariant-loop-i : goal.invariant-loop-i
invariant-loop-i l = (l.i ≤ l.dims) × Totalled l.a l.b l.i l.t

abbrev pub decreases-loop-i : goal.decreases-loop-i
decreases-loop-i l = l.dims - l.i
