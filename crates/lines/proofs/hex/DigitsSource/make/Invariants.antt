-- The digits of the bytes passed are written, and those of the others are to come.
use Rattle.std.proofs.Common.{◌*◌, drop}
use Rattle.lines.specs.Hex.{hex_of}
use Rattle.lines.proofs.Writing.{Writing}
use Rattle.lines.proofs.hex.DigitsSource.make.Given as goal

abbrev pub invariant-loop-i : goal.invariant-loop-i
invariant-loop-i l = Writing (hex_of l.self.bytes.now) l.initial.out l.out (2 * l.i) (hex_of (drop l.i l.self.bytes.now))
