-- The bytes are copied to the start, or they stand there already.
use Rattle.line_stream.proofs.Keeping.{kept_there, kept-copied}
use Rattle.std.proofs.Common.{arith}
use Rattle.line_stream.proofs.keep.Goals as goal

pub returns-then-from-gt0 : goal.returns-then-from-gt0
returns-then-from-gt0 c = kept-copied _ _ _ _ _ c.min-n.ensures c.requires.from_le_end c.requires.end_in_bounds _ c.copy_within.ensures.after

pub returns-else-from-gt0 : goal.returns-else-from-gt0
returns-else-from-gt0 c = kept_there _ _ _ _ _ c.min-n.ensures c.requires.from_le_end c.requires.end_in_bounds (omega arith)
