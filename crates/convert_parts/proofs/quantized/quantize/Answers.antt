-- The definition's other case.
use lib.Ieee.{of_bits}
use Rattle.convert_parts.proofs.quantized.quantize.Goals as goal

pub returns : goal.returns
unfolding of_bits
returns c = rw c.requires c.truncate.ensures

pub truncate-requires : goal.truncate-requires
truncate-requires c = tt
