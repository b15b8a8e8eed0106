-- `little_endian::f32_at` meets its contract: the float of the number at the offset.
use Rattle.little_endian.proofs.f32_at.Goals as goal

pub returns : goal.returns
returns c = rw (c.f32_of.ensures, c.u32_at.ensures)
