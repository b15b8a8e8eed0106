-- Each way out is a case of the definition.
use mathlib.Core.Path.{◌≡◌, ◌∙◌}
use mathlib.Core.Bool.{false, ◌&&◌}
use lib.Ieee.{binary64, of_bits}
use Rattle.distance_sums.specs.Dense.{is_zero}
use Rattle.distance_cos.specs.Inner.Sums.{products64}
use Rattle.distance_cos.proofs.Cosines.{dense-zero, dense-one, dense-angle}
use Rattle.distance_cos.proofs.sums.CosSums64.distance.Goals as goal
use Rattle.distance_cos.proofs.sums.CosSums64.distance.Goals.{Joined-self, then-self+else-self-2, else-self}

-- after the tests of the norms
not-both : (c : Joined-self) → let s = c.args.self in (is_zero s.norm1 && is_zero s.norm2) ≡ false
unfolding of_bits
not-both c = elim c.if-self.branch [ then-self+else-self-2 w ↦ rw (w.if-self.true, w.if-self-2.false) | else-self w ↦ rw w.if-self.false ]

pub returns-then-self-2 : goal.returns-then-self-2
unfolding of_bits
returns-then-self-2 c = dense-zero binary64 (products64 c.args.self) (rw (c.if-self.true, c.if-self-2.true))

pub returns-then-self-3 : goal.returns-then-self-3
unfolding of_bits
returns-then-self-3 c =
    dense-one binary64 (products64 c.args.self) (not-both (goal.at.returns-then-self-3 c).Joined-self) c.if-self-3.true

pub returns : goal.returns
unfolding of_bits
returns c =
    c.angle.ensures ∙ dense-angle binary64 (products64 c.args.self) (not-both (goal.at.returns c).Joined-self) c.if-self-3.false
