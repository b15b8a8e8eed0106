-- There is room for two digits a byte, and they are put.
use Rattle.std.proofs.Common.{rules, length-append}
use Rattle.lines.proofs.Pairs.{length-hex_of}
use Rattle.lines.proofs.hex.put_bytes.Goals as goal

pub extend_from-requires : goal.extend_from-requires
extend_from-requires g c = simp length-hex_of (search rules)

pub returns-clause-size : goal.returns-clause-size
returns-clause-size g c = rw c.extend_from.ensures (simp (length-append, length-hex_of))
