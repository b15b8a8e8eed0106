-- By what each call ensures.
use lib.Ieee.{binary64, mul, of_bits}
use Rattle.rounding.proofs.RootLaw.{root-unique}
use Rattle.distance_sums.specs.Float8.{scaled_cosine}
use Rattle.distance_sums.specs.Values.{cosine_of}
use Rattle.distance_cos.proofs.vector_f8_distance_cos.Goals as goal

pub returns : goal.returns
unfolding cosine_of scaled_cosine of_bits
returns c =
    let root = root-unique binary64 (mul binary64 c.norm_of-norm1.result c.norm_of-norm2.result) c.root64.result c.root64.ensures in
    rw (root, c.norm_of-norm2.ensures, c.norm_of-norm1.ensures, c.dot_of-dot.ensures, c.totals_of-t.ensures)
    (rw (c.widened-v.ensures, c.scale_of-2.ensures, c.widened-u.ensures, c.scale_of.ensures))
