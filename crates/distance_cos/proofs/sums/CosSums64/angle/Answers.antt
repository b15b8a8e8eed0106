-- The root is the one of the definition.
use lib.Ieee.{binary64, of_bits}
use Rattle.distance_cos.specs.Inner.Sums.{products64}
use Rattle.distance_cos.proofs.Cosines.{angle-by}
use Rattle.distance_cos.proofs.sums.CosSums64.angle.Goals as goal

pub returns : goal.returns
unfolding of_bits
returns c = angle-by binary64 (products64 c.args.self) c.root64.result c.root64.ensures
