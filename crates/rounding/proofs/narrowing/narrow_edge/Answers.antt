-- `rounding::narrowing::narrow_edge` meets its contract: an infinity's pattern where b is too large for an f32 (`narrow-large`); else by `narrow_small`.
use Rattle.std.proofs.Common.{⊎_elim, not-le_of_lt, rules}
use Rattle.rounding.proofs.NarrowLaw.{narrow-large}
use Rattle.rounding.proofs.narrowing.narrow_edge.Goals as goal

pub returns-else-b-lt4039728865751334912 : goal.returns-else-b-lt4039728865751334912
returns-else-b-lt4039728865751334912 c =
    narrow-large c.args.b (search rules) (⊎_elim (λ l. absurd (not-le_of_lt l c.if-b-lt4039728865751334912.false)) (λ h. h) c.requires.outside_normal) (search rules)
