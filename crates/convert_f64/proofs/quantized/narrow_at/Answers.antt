-- The pattern of an f32 is read back.
use mathlib.Core.Path.{◌∙◌}
use lib.Ieee.{binary32}
use lib.Ieee.Bits.{of_bits-to_bits}
use Rattle.rounding.proofs.NarrowBits.{narrowed-fits}
use Rattle.convert_f64.proofs.quantized.narrow_at.Goals as goal

pub returns : goal.returns
returns c =
    let pattern = c.narrow_bits.ensures in
    let at = c.u64_at.ensures in
    c.f32_of.ensures ∙ rw (pattern, at) (of_bits-to_bits binary32 _ (narrowed-fits _))

pub narrow_bits-requires : goal.narrow_bits-requires
narrow_bits-requires c = tt

pub f32_of-requires : goal.f32_of-requires
f32_of-requires c = tt
