-- Widening keeps both values.
use Rattle.bodies.proofs.float8.Scale.widened.Goals as goal

pub returns : goal.returns
returns c = rw (c.widen-alpha.ensures, c.widen-shift.ensures)
