-- Each byte has two digits.
use Rattle.std.proofs.Common.{sym}
use Rattle.lines.proofs.Pairs.{length-hex_of}
use Rattle.lines.proofs.hex.DigitsSource.len.Goals as goal

pub returns : goal.returns
returns c = sym (length-hex_of c.args.self.now.bytes.now)
