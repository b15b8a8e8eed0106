-- Sixteen digits have room.
use Rattle.std.proofs.Common.{◌≤◌, length, lit<, arith}
use Rattle.std.proofs.Math.Nat.{pow-le-pow_right}
use Rattle.lines.proofs.hex.pattern.Goals as goal

pub number-requires : goal.number-requires
number-requires c = let few : length c.args.s.now ≤ 16 = omega arith in pow-le-pow_right {n = 16} (lit< tt) few
