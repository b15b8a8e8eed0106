-- The text is served up to the start of a line.
use Rattle.std.proofs.Common.{◌-◌, length}
use Rattle.line_stream.proofs.ServingAll.{TextServedUpTo}
use Rattle.serving.proofs.serve_all.Given as goal

abbrev pub invariant-loop-at : goal.invariant-loop-at
invariant-loop-at g l = TextServedUpTo l.text l.initial.line.before l.at l.line

abbrev pub decreases-loop-at : goal.decreases-loop-at
decreases-loop-at g l = length l.text - l.at
