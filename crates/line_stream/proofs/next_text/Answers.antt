-- What is kept of a line leaves room for its newline.
use Rattle.std.proofs.Common.{take, drop, arith}
use Rattle.line_stream.proofs.Keeping.{kept-few}
use Rattle.line_stream.proofs.next_text.Goals as goal

pub last_text-requires : goal.last_text-requires
last_text-requires g c =
    let a = c.args in
    omega (arith, c.in_ok-text.ensures.read.count, (kept-few a.most (drop a.at (take a.end a.buffer.now))).0)
