-- The root is the one of the definition.
use lib.Ieee.{binary32, of_bits}
use Rattle.distance_cos.specs.Inner.Sums.{products32}
use Rattle.distance_cos.proofs.Cosines.{angle-by}
use Rattle.distance_cos.proofs.sums.CosSums32.angle.Goals as goal

pub returns : goal.returns
unfolding of_bits
returns c = angle-by binary32 (products32 c.args.self) c.root32.result c.root32.ensures
