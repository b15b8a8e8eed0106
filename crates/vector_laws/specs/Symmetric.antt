-- Which distances do not tell the two vectors apart: all but cosine and dot of Float8, of type byte 4, whose middle terms are added in the other order.
-- And an answer with the counts of the two vectors exchanged.
use Rattle.std.specs.Prelude.{Bool, true, not, Result, Ok, Err}
use Rattle.vector_types.specs.Layout.{has_byte}
use Rattle.vector_types.specs.declared.VectorType.{VectorType}
use Rattle.distance.specs.Answer.{measured}
use Rattle.distance.specs.declared.Distance.{Distance}
use Rattle.distance.specs.declared.Distance.TheVariants.{Cos, L2, Dot, Jaccard}
use Rattle.distance.specs.declared.Measured.{Measured}
use Rattle.distance.specs.declared.refused.Refused.{Refused}
use Rattle.distance.specs.declared.Which.{Which}

abbrev pub symmetric : Distance → VectorType → Bool
symmetric Cos k = not (has_byte 4 k)
symmetric L2 k = true
symmetric Dot k = not (has_byte 4 k)
symmetric Jaccard k = true

-- the same distance with the counts exchanged, or the same refusal
abbrev pub exchanged : Result Measured (Refused Which) → Result Measured (Refused Which)
exchanged (Ok x) = Ok (measured x.distance (record { first = x.counts.second; second = x.counts.first }))
exchanged (Err r) = Err r
