-- The entries of the elements below i are laid out; a value is copied as a number.
use Prim.Native.Nat.{◌-◌}
use lib.Ieee.{binary32}
use Rattle.bodies.specs.Elements.{dense_element}
use Rattle.convert_parts.specs.Sparse.{is_nonzero, value_bytes}
use Rattle.convert_parts.proofs.Regions.{Laying}
use Rattle.convert_f32.proofs.sparse.put_sparse.Given as goal

abbrev pub invariant-loop-i : goal.invariant-loop-i
invariant-loop-i l = Laying (λ k. is_nonzero (dense_element binary32 l.body k)) (value_bytes binary32 l.body) l.dims l.count l.initial.out l.out l.n l.i

abbrev pub decreases-loop-i : goal.decreases-loop-i
decreases-loop-i l = l.dims - l.i
