-- The loop spreads, entry by entry; a value is widened.
use mathlib.Core.Path.{ap}
use lib.Ieee.{binary64}
use Rattle.little_endian.specs.Bytes.{bytes_of}
use Rattle.convert_sparse.proofs.SpreadLoop.{spread_none, spread-room, spread-next, spread-all}
use Rattle.convert_sparse.proofs.dense.put_doubles.Goals as goal

pub loop-j-init : goal.loop-j-init
loop-j-init c = spread_none binary64 _ _ c.requires.body_value _ _ c.put_zeros.ensures

pub put_u64-requires : goal.put_u64-requires
put_u64-requires c =
    spread-room binary64 _ _ c.requires.body_value c.loop-j.invariant c.loop-j-test.true _ c.u32_at-index.ensures

pub loop-j-preserved : goal.loop-j-preserved
loop-j-preserved c =
    let value = ap (bytes_of 8) (rw c.u32_at.ensures at c.widen_bits-value.ensures) in
    spread-next binary64 _ _ c.requires.body_value c.loop-j.invariant c.loop-j-test.true
    _ _ _ c.u32_at-index.ensures value c.put_u64.ensures

pub returns : goal.returns
returns c =
    spread-all binary64 _ _ c.requires.body_value _ _ c.put_zeros.ensures c.loop-j.invariant c.loop-j-test.false
