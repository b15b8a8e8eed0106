-- `little_endian::put_f64` meets its contract: the bytes of the float's pattern.
use Rattle.little_endian.proofs.put_f64.Goals as goal

pub returns : goal.returns
returns c = rw (c.put_u64.ensures, c.bits64.ensures)
