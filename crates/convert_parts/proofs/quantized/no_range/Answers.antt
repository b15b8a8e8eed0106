-- The quotients are the infinities.
use mathlib.Core.Path.{refl}
use lib.Ieee.{of_bits, div, neg}
use Rattle.convert_parts.proofs.quantized.no_range.Goals as goal

pub returns : goal.returns
unfolding div of_bits neg
returns c = refl
