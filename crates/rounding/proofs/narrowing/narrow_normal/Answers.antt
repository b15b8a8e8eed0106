-- `rounding::narrowing::narrow_normal` meets its contract: the law of a normal f32 (`narrow-normal`).
use Rattle.std.proofs.Common.{sym, subst, rules}
use Rattle.rounding.specs.Inner.Parts.{IsNarrowedPattern}
use Rattle.rounding.proofs.NarrowLaw.{narrow-normal}
use Rattle.rounding.proofs.narrowing.narrow_normal.Goals as goal

pub returns : goal.returns
returns c =
    let b = c.args.b in
    subst (IsNarrowedPattern b) (sym c.nearest_quotient.ensures) (narrow-normal b (search rules) (search rules))
