-- The stored elements below i have been counted.
use native.Mathlib.Omega.{arith}
use lib.Ieee.{binary64}
use Rattle.convert_parts.proofs.Patterns.{nonzero-tested}
use Rattle.convert_parts.proofs.Places.{count_none, count-within, count_next, count-all}
use Rattle.convert_f64.proofs.sparse.count_stored.Goals as goal

pub loop-i-preserved : goal.loop-i-preserved
loop-i-preserved c =
    count_next _ c.loop-i.invariant c.loop-i-test.true _ (nonzero-tested binary64 _ _ _ c.u64_at-bits.ensures)

pub overflow_add-n : goal.overflow_add-n
overflow_add-n c = omega (arith, c.requires.dims_le_max_dims, count-within _ (loop-i-preserved c), c.loop-i-test.true)

pub returns : goal.returns
returns c = count-all _ c.loop-i.invariant c.loop-i-test.false

pub loop-i-init : goal.loop-i-init
loop-i-init c = count_none _ _
