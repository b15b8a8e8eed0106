-- The loop spreads, entry by entry; a value is copied as a number.
use mathlib.Core.Path.{◌∙◌, ap}
use Prim.Native.Nat.{◌*◌, ◌+◌, ◌≤◌}
use native.Mathlib.Omega.{arith}
use lib.Ieee.{binary32}
use lib.ListN.{length}
use Rattle.little_endian.specs.Bytes.{bytes_of}
use Rattle.little_endian.proofs.Numbers.{bytes_of-number_at}
use Rattle.convert_sparse.proofs.SpreadLoop.{spread_none, spread-room, spread-next, spread-all}
use Rattle.convert_sparse.proofs.dense.put_singles.Goals as goal

pub loop-j-init : goal.loop-j-init
loop-j-init c = spread_none binary32 _ _ c.requires.body_value _ _ c.put_zeros.ensures

pub put_u32-requires : goal.put_u32-requires
put_u32-requires c =
    spread-room binary32 _ _ c.requires.body_value c.loop-j.invariant c.loop-j-test.true _ c.u32_at-index.ensures

pub loop-j-preserved : goal.loop-j-preserved
loop-j-preserved c =
    let body = c.args.body.now in
    let at = 4 * c.loop-j.j in
    let room : at + 4 ≤ length body = omega arith in
    let copied = ap (bytes_of 4) c.u32_at-value.ensures ∙ bytes_of-number_at 4 body at (λ i. (c.type_inv.body i).fits) room in
    spread-next binary32 _ body c.requires.body_value c.loop-j.invariant c.loop-j-test.true
    _ _ _ c.u32_at-index.ensures copied c.put_u32.ensures

pub returns : goal.returns
returns c =
    spread-all binary32 _ _ c.requires.body_value _ _ c.put_zeros.ensures c.loop-j.invariant c.loop-j-test.false
