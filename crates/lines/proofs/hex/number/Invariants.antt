-- n has the digits passed, and the number that s is goes on from n.
use Rattle.std.proofs.Common.{◌≡◌, ◌^◌, ◌<◌, drop}
use Rattle.lines.specs.Hex.{number_from}
use Rattle.lines.proofs.hex.number.Given as goal

abbrev pub invariant-loop-b : goal.invariant-loop-b
invariant-loop-b l = (l.n < l.base ^ l.b-index) × (number_from l.base 0 l.s ≡ number_from l.base l.n (drop l.b-index l.s))
