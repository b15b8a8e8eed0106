-- `little_endian::put_u32` meets its contract: the bytes of the two halves are those of the number (`put-halves`).
use borrow.Author.Rules.{rules}
use Rattle.little_endian.proofs.Put.{put-halves}
use Rattle.little_endian.proofs.put_u32.Goals as goal

pub returns : goal.returns
returns c =
    let a = c.args in
    rw (c.put_u16-2.ensures, c.put_u16.ensures) (put-halves 2 2 a.v a.out.now a.at (search rules))
