-- `rounding::pattern::normalize` meets its contract. The invariant: a * 2 ^ d is m * 2 ^ e. The exponent decreases, and is not 0 while a is below hid.
use Rattle.std.proofs.Common.{◌≡◌, ◌*◌, ◌^◌, ◌<◌, ◌≤◌}
use Rattle.rounding.proofs.pattern.normalize.Given as goal

abbrev pub invariant-loop-a : goal.invariant-loop-a
invariant-loop-a l = (l.a * 2 ^ l.d ≡ l.m * 2 ^ l.e) × (l.a < 2 * l.hid) × (l.d ≤ l.e)

abbrev pub decreases-loop-a : goal.decreases-loop-a
decreases-loop-a l = l.d
