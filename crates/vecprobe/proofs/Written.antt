-- What is written for an input, however it comes in pieces, is `printed`.
use mathlib.Core.Path.{◌≡◌}
use mathlib.Core.List.{List, flatten}
use Prim.Native.Nat.{ℕ}
use lib.Dec.{lit<}
use Rattle.line_stream.specs.Inner.Rooms.{most_kept}
use Rattle.line_stream.specs.Inner.Stream.{written_for}
use Rattle.line_stream.proofs.Cutting.{limited-depends-on-first}
use Rattle.line_stream.proofs.InPieces.{written-whole}
use Rattle.probe_lines.specs.Line.{vecprobe_reply}
use Rattle.probe_lines.specs.Limits.{vecprobe_limit}
use Rattle.vecprobe.specs.Printed.{reply_to, printed}

pub written-printed : (pieces : List (List ℕ)) → written_for reply_to (most_kept vecprobe_limit) pieces ≡ printed (flatten pieces)
written-printed pieces = written-whole reply_to (most_kept vecprobe_limit) (limited-depends-on-first vecprobe_limit vecprobe_reply) (lit< tt) pieces
