-- In how many bits two 1-bit blobs of d elements differ, unused ones included; and how many readings the two hold.
use Rattle.std.specs.Prelude.{ℕ, List}
use Rattle.vector_types.specs.Parts.{body_of}
use Rattle.distance_sums.specs.OneBit.{differing, whole_bits}
use Rattle.distance.specs.Answer.{counts}
use Rattle.distance.specs.declared.Counts.{Counts}

abbrev pub bits_apart : ℕ → List ℕ → List ℕ → ℕ
bits_apart d s t = differing (body_of s) (body_of t) (whole_bits d)

abbrev pub dims_each : ℕ → Counts
dims_each d = counts d d
