-- The stored elements below i have been counted.
use Prim.Native.Nat.{◌-◌}
use lib.Ieee.{binary64}
use Rattle.bodies.specs.Elements.{dense_element}
use Rattle.convert_parts.specs.Sparse.{is_nonzero}
use Rattle.convert_parts.proofs.Places.{Counting}
use Rattle.convert_f64.proofs.sparse.count_stored.Given as goal

abbrev pub invariant-loop-i : goal.invariant-loop-i
invariant-loop-i l = Counting (λ k. is_nonzero (dense_element binary64 l.body k)) l.dims l.n l.i

abbrev pub decreases-loop-i : goal.decreases-loop-i
decreases-loop-i l = l.dims - l.i
