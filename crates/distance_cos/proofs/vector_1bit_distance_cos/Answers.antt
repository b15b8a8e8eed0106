-- The count of the whole bytes of dims, as a float.
use Rattle.distance_sums.specs.OneBit.{bit_cosine}
use Rattle.distance_sums.specs.Values.{cosine_of}
use Rattle.distance_cos.proofs.vector_1bit_distance_cos.Goals as goal

pub returns : goal.returns
unfolding cosine_of bit_cosine
returns c =
    rw (← c.requires.a_len, c.differing-count.ensures)
