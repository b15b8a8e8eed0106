-- `rounding::whole::root_digits` meets its contract. The invariant: root and rest are those after i turns, and the last 54 digits of left follow the first i pairs. What the turns make is the root (`turns-whole-root`).
use Rattle.std.proofs.Common.{◌≡◌, ◌-◌, ◌%◌, ◌^◌, ◌≤◌}
use Rattle.rounding.specs.Inner.Digits.{digits_left, turns}
use Rattle.rounding.proofs.whole.root_digits.Given as goal

abbrev pub invariant-loop-i : goal.invariant-loop-i
invariant-loop-i l = (l.i ≤ l.n) × (l.r.root ≡ (turns l.a l.i).root) × (l.r.rest ≡ (turns l.a l.i).rest) × (l.left % 2 ^ 54 ≡ digits_left l.a l.i)

abbrev pub decreases-loop-i : goal.decreases-loop-i
decreases-loop-i l = l.n - l.i
