-- Which distance exists for which kind.
use Rattle.std.specs.Prelude.{Bool, true, not}
use Rattle.vector_types.specs.Layout.{has_byte}
use Rattle.vector_types.specs.declared.VectorType.{VectorType}
use Rattle.distance.specs.declared.Distance.{Distance}
use Rattle.distance.specs.declared.Distance.TheVariants.{Cos, L2, Dot, Jaccard}

-- all but L2 of Float1Bit: just those that the definition has (`exists-exactly`, proofs/Existing.antt)
abbrev pub exists_for : Distance → VectorType → Bool
exists_for Cos k = true
exists_for L2 k = not (has_byte 3 k)
exists_for Dot k = true
exists_for Jaccard k = true
