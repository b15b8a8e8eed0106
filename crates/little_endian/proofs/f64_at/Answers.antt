-- `little_endian::f64_at` meets its contract: the float of the number at the offset.
use Rattle.little_endian.proofs.f64_at.Goals as goal

pub returns : goal.returns
returns c = rw (c.f64_of.ensures, c.u64_at.ensures)
