-- The sums that the code holds, in either width, as those of the definitions.
use Rattle.distance_sums.specs.Dense.{Shares}
use Rattle.jaccard.specs.declared.sums.JaccardSums32.{JaccardSums32}
use Rattle.jaccard.specs.declared.sums.JaccardSums64.{JaccardSums64}

abbrev pub shares32 : JaccardSums32 → Shares
shares32 s = record { low = s.low; high = s.high }

abbrev pub shares64 : JaccardSums64 → Shares
shares64 s = record { low = s.low; high = s.high }
