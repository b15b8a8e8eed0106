-- `little_endian::put_f32` meets its contract: the bytes of the float's pattern.
use Rattle.little_endian.proofs.put_f32.Goals as goal

pub returns : goal.returns
returns c = rw (c.put_u32.ensures, c.bits32.ensures)
