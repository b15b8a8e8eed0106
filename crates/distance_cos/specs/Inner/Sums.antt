-- The sums that the code holds, in either width, as those of the definitions.
use Rattle.distance_sums.specs.Dense.{Products}
use Rattle.distance_cos.specs.declared.sums.CosSums32.{CosSums32}
use Rattle.distance_cos.specs.declared.sums.CosSums64.{CosSums64}

abbrev pub products32 : CosSums32 → Products
products32 s = record { dot = s.dot; norm1 = s.norm1; norm2 = s.norm2 }

abbrev pub products64 : CosSums64 → Products
products64 s = record { dot = s.dot; norm1 = s.norm1; norm2 = s.norm2 }
