-- `input_room` meets its contract, by a law: to count so many zeros would take the checker too deep.
use mathlib.Core.Path.{sym}
use Prim.Native.Nat.{ℕ}
use lib.ListN.{length-replicate}
use Rattle.line_stream.specs.Inner.Rooms.{input_room}
use Rattle.probe_lines.specs.Limits.{vecprobe_limit}
use Rattle.vecprobe.proofs.input_room.Goals as goal

pub returns : goal.returns
returns c = sym (length-replicate {0} {A = ℕ} (input_room vecprobe_limit) 0)
