-- Alpha and shift stand after the padded bytes.
use Rattle.bodies.proofs.float8.scale_of.Goals as goal

pub returns : goal.returns
returns c = rw (c.f32_at-alpha.ensures, c.f32_at-shift.ensures)
