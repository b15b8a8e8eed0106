-- The contract of `root64` allows one value.
use lib.Ieee.{binary64}
use Rattle.rounding.proofs.RootLaw.{root-unique}
use Rattle.distance_l2.proofs.root_of.Goals as goal

pub returns : goal.returns
returns c = root-unique binary64 _ _ c.root64.ensures
