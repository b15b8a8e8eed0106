-- The entries of the elements below i are laid out.
use Prim.Native.Nat.{◌-◌}
use lib.Ieee.{binary32}
use Rattle.little_endian.specs.Bytes.{float_bytes}
use Rattle.bodies.specs.Elements.{float8_element}
use Rattle.convert_parts.specs.Sparse.{is_nonzero}
use Rattle.convert_parts.proofs.Regions.{Laying}
use Rattle.convert_float8.proofs.sparse.put_sparse.Given as goal

abbrev pub invariant-loop-i : goal.invariant-loop-i
invariant-loop-i l = Laying (λ k. is_nonzero (float8_element binary32 l.dims l.body k)) (λ k. float_bytes binary32 (float8_element binary32 l.dims l.body k)) l.dims l.count l.initial.out l.out l.n l.i

abbrev pub decreases-loop-i : goal.decreases-loop-i
decreases-loop-i l = l.dims - l.i
