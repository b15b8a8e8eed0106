-- A line is served if its end is found and there is room for its reply; the loop ends where one of these fails.
use Rattle.std.proofs.Common.{List, ℕ, ◌+◌, ◌<◌, length, arith}
use Rattle.promises.proofs.Onto.{tail-lent}
use Rattle.lines.specs.Printed.{limited}
use Rattle.line_stream.specs.Inner.Rooms.{numbered_room}
use Rattle.line_stream.proofs.Serving.{LineEnd, looked-at_start, looked_none, line-end-found, line-end-none, lines-served-none, lines-served-next, served-few, serves-all, serves-some-lines}
use Rattle.serving.proofs.serve.Goals as goal
use Rattle.serving.proofs.serve.Goals.{In-Some}
use Rattle.serving.proofs.serve.Given.{Over}

abbrev reply : Over → List ℕ → List ℕ
reply g = limited g.R.Replies.LIMIT g.R.Replies.reply_to

abbrev longest : Over → ℕ
longest g = numbered_room g.R.Replies.ROOM

pub loop-n-init : goal.loop-n-init
loop-n-init g c = (rw c.clear.ensures (lines-served-none (reply g) (longest g) _ _ _), looked-at_start _ _ c.requires.inside c.requires.line)

pub returns-in_default : goal.returns-in_default
returns-in_default g c =
    let inv = c.loop-n.invariant in
    serves-all (reply g) (longest g) inv.0 (line-end-none inv.1 (rw tail-lent at c.in_default.ensures.value))

-- the end of the next line
found : (g : Over) (c : In-Some g) → LineEnd c.args.text.now c.loop-n.at (c.loop-n.from + c.in-Some.n) × (c.loop-n.from + c.in-Some.n < length c.args.text.now)
found g c = line-end-found c.loop-n.invariant.1 (rw tail-lent at c.in-Some.ensures.value)

pub returns-then-room-ROOM : goal.returns-then-room-ROOM
returns-then-room-ROOM g c =
    let end = found g (goal.at.returns-then-room-ROOM g c).In-Some in
    serves-some-lines (reply g) (longest g) c.loop-n.invariant.0 end.0 end.1 (omega (arith, c.room.ensures, c.if-room-ROOM.true, c.ROOM.ensures))

pub overflow_add-before : goal.overflow_add-before
overflow_add-before g c =
    let end = found g (goal.at.overflow_add-before g c).In-Some in
    omega (arith, served-few (reply g) (longest g) c.loop-n.invariant.0, c.requires.numbers, end.0.place, end.1)

pub loop-n-preserved : goal.loop-n-preserved
loop-n-preserved g c =
    let end = found g (goal.at.loop-n-preserved g c).In-Some in
    let next = lines-served-next (reply g) (longest g) c.loop-n.invariant.0 end.0 end.1 (omega (arith, c.room.ensures, c.if-room-ROOM.false, c.ROOM.ensures)) c.put_numbered.ensures in
    (next, looked_none _ _ next.within)
