-- The other element is 0.0, and a sum that starts from 0.0 is the same after a zero of either sign.
use borrow.Author.Rules.{rules}
use lib.Ieee.{binary32, of_bits}
use Rattle.distance_sums.proofs.EitherZero.{alone-less, alone-else}
use Rattle.jaccard.proofs.sums.JaccardSums32.alone.Goals as goal

pub returns-then-x : goal.returns-then-x
unfolding of_bits
returns-then-x c = alone-less binary32 _ (c.requires.low_from_zero, c.requires.high_from_zero) _ (search rules) c.if-x.true

pub returns-else-x : goal.returns-else-x
unfolding of_bits
returns-else-x c =
    rw c.above_zero.ensures (alone-else binary32 _ (c.requires.low_from_zero, c.requires.high_from_zero) _ (search rules) c.if-x.false)
