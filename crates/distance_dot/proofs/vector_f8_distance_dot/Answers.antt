-- By what each call ensures.
use Rattle.distance_sums.specs.Values.{dot_of}
use Rattle.distance_dot.proofs.vector_f8_distance_dot.Goals as goal

pub returns : goal.returns
unfolding dot_of
returns c =
    rw (c.dot_of-dot.ensures, c.totals_of-t.ensures)
    (rw (c.widened-v.ensures, c.scale_of-2.ensures, c.widened-u.ensures, c.scale_of.ensures))
