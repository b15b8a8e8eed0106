-- By whether a bit is set.
use borrow.Author.Tests.{eq-eqb, ne_eqb}
use lib.Ieee.{of_bits, div}
use Rattle.distance_sums.specs.OneBit.{bit_jaccard}
use Rattle.jaccard.proofs.bit_jaccard.Goals as goal

pub returns-then-o-eq0 : goal.returns-then-o-eq0
unfolding bit_jaccard of_bits div
returns-then-o-eq0 c = rw (eq-eqb _ 0 c.if-o-eq0.true)

pub returns : goal.returns
unfolding bit_jaccard of_bits
returns c = rw (ne_eqb _ 0 c.if-o-eq0.false)
