-- `little_endian::u32_at` meets its contract: the bytes are joined one after another (`join-next`).
use Rattle.little_endian.specs.Bytes.{AreBytes}
use Rattle.little_endian.proofs.Numbers.{join_first, join-next}
use Rattle.little_endian.proofs.u32_at.Goals as goal

pub returns : goal.returns
returns c =
    let s = c.args.s.now in
    let known : AreBytes s = λ k. (c.type_inv.s k).fits in
    let at = c.args.at in
    let n1 = join_first s at _ c.byte.ensures in
    let n2 = join-next 1 s at _ _ known n1 c.byte-2.ensures in
    let n3 = join-next 2 s at _ _ known n2 c.byte-3.ensures in
    join-next 3 s at _ _ known n3 c.byte-4.ensures
