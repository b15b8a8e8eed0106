-- Each sum starts at +0.0.
use mathlib.Core.Path.{refl}
use lib.Ieee.{of_bits}
use Rattle.distance_cos.proofs.sums.CosSums32.new.Goals as goal

pub returns : goal.returns
unfolding of_bits
returns c = refl
