-- The stored elements below i have been counted.
use Prim.Native.Nat.{◌-◌}
use lib.Ieee.{binary32}
use Rattle.bodies.specs.Elements.{float8_element}
use Rattle.convert_parts.specs.Sparse.{is_nonzero}
use Rattle.convert_parts.proofs.Places.{Counting}
use Rattle.convert_float8.proofs.sparse.count_stored.Given as goal

abbrev pub invariant-loop-i : goal.invariant-loop-i
invariant-loop-i l = Counting (λ k. is_nonzero (float8_element binary32 l.dims l.body k)) l.dims l.n l.i

abbrev pub decreases-loop-i : goal.decreases-loop-i
decreases-loop-i l = l.dims - l.i
