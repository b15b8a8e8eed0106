-- Each way out is a case of the definition.
use mathlib.Core.Path.{◌∙◌}
use lib.Ieee.{of_bits, div}
use Rattle.distance_cos.specs.Inner.Sums.{products32}
use Rattle.distance_cos.proofs.Cosines.{sparse-nan, sparse-angle}
use Rattle.distance_cos.proofs.sums.CosSums32.sparse_distance.Goals as goal

pub returns-then-self : goal.returns-then-self
unfolding div of_bits
returns-then-self c = sparse-nan (products32 c.args.self) (rw c.if-self.true)

pub returns-then-self-2 : goal.returns-then-self-2
unfolding div of_bits
returns-then-self-2 c = sparse-nan (products32 c.args.self) (rw (c.if-self.false, c.if-self-2.true))

pub returns : goal.returns
unfolding of_bits
returns c =
    c.widen.ensures ∙ c.angle.ensures ∙ sparse-angle (products32 c.args.self) (rw (c.if-self.false, c.if-self-2.false))
