-- The loop spreads, entry by entry; a value is copied as a number.
use Prim.Native.Nat.{◌-◌}
use lib.Ieee.{binary32}
use Rattle.bodies.specs.Entries.{stored_count}
use Rattle.convert_parts.specs.Spread.{spread}
use Rattle.convert_parts.proofs.Pieces.{FilledSoFar}
use Rattle.convert_sparse.proofs.dense.put_singles.Given as goal

abbrev pub invariant-loop-j : goal.invariant-loop-j
invariant-loop-j l = FilledSoFar (spread binary32 l.dims l.body) (stored_count l.body) l.initial.out l.out l.j

abbrev pub decreases-loop-j : goal.decreases-loop-j
decreases-loop-j l = stored_count l.body - l.j
