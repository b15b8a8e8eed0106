-- The loop fills, float by float.
use lib.ListN.{length}
use lib.Ieee.{binary32}
use Rattle.convert_parts.specs.Dense.{floats_of}
use Rattle.convert_parts.proofs.Pieces.{FilledSoFar}
use Rattle.vecs.specs.Vecs.{byte_element}
use Rattle.vecs.proofs.reading.put_floats.Given as goal

abbrev pub invariant-loop-i : goal.invariant-loop-i
invariant-loop-i l = FilledSoFar (floats_of binary32 (byte_element l.s)) (length l.s) l.initial.out l.out l.i
