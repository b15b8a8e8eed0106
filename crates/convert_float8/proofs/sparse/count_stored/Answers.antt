-- The stored elements below i have been counted.
use native.Mathlib.Omega.{arith}
use Rattle.convert_parts.proofs.Places.{count_none, count-within, count_next, count-all}
use Rattle.convert_float8.proofs.Scaled.{element-computed, nonzero-computed}
use Rattle.convert_float8.proofs.sparse.count_stored.Goals as goal

pub loop-i-preserved : goal.loop-i-preserved
loop-i-preserved c =
    let x = element-computed _ _ _ c.scale_of-scale.ensures c.element-x.ensures in
    count_next _ c.loop-i.invariant c.loop-i-test.true _ (nonzero-computed _ _ _ x)

pub overflow_add-n : goal.overflow_add-n
overflow_add-n c =
    omega (arith, c.requires.dims_le_max_dims, count-within _ (loop-i-preserved c), c.loop-i-test.true)

pub overflow_cast-result : goal.overflow_cast-result
overflow_cast-result c =
    let found = c.loop-i.invariant in
    omega (arith, c.requires.dims_le_max_dims, count-within _ found, found.within)

pub returns : goal.returns
returns c = count-all _ c.loop-i.invariant c.loop-i-test.false

pub loop-i-init : goal.loop-i-init
loop-i-init c = count_none _ _
