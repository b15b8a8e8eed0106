-- `rounding::narrowing::nearest_quotient` meets its contract: it is the division of `closest-by-division`.
use Rattle.rounding.proofs.Closest.{closest-by-division}
use Rattle.rounding.proofs.narrowing.nearest_quotient.Goals as goal

pub returns : goal.returns
returns c = closest-by-division c.args.q c.args.half c.requires.half_positive
