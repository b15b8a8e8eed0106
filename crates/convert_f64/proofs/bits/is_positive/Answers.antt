-- By the two tests, of i and of the pattern.
use mathlib.Core.Path.{◌∙◌}
use lib.Ieee.{binary64}
use borrow.Author.Tests.{lt-ltb, le-ltb}
use Rattle.convert_parts.proofs.Patterns.{positive-tested}
use Rattle.convert_f64.proofs.bits.is_positive.Goals as goal

pub returns-then-bits-gt0 : goal.returns-then-bits-gt0
returns-then-bits-gt0 c = positive-tested binary64 _ _ _ c.u64_at-bits.ensures c.if-dims-i.false (lt-ltb _ _ c.if-bits-gt0.true)

pub returns-else-bits-gt0 : goal.returns-else-bits-gt0
returns-else-bits-gt0 c =
    let none = le-ltb 0 c.u64_at-bits.result c.if-bits-gt0.false in
    none ∙ positive-tested binary64 _ _ _ c.u64_at-bits.ensures c.if-dims-i.false none

pub returns-then-dims-i : goal.returns-then-dims-i
returns-then-dims-i c = simp (le-ltb _ _ c.if-dims-i.true)
