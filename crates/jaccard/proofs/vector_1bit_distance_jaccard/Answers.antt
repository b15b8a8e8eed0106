-- The counts of the whole bytes of dims.
use mathlib.Core.Path.{ap, ◌∙◌}
use Rattle.distance_sums.specs.OneBit.{bit_jaccard}
use Rattle.distance_sums.specs.Values.{jaccard_of}
use Rattle.jaccard.proofs.vector_1bit_distance_jaccard.Goals as goal

pub returns : goal.returns
unfolding jaccard_of
returns c =
    rw (← c.requires.a_len) (c.bit_jaccard.ensures ∙ ap bit_jaccard c.overlapping-o.ensures)
