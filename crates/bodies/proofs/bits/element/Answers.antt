-- A bit that is not 1 is 0.
use mathlib.Core.Path.{sym, ◌∙◌}
use Rattle.bodies.proofs.Elements.{unit-set, unit-clear}
use Rattle.bodies.proofs.bits.element.Goals as goal

pub returns-then-bit_at-eq1 : goal.returns-then-bit_at-eq1
returns-then-bit_at-eq1 c =
    let a = c.args in
    unit-set a.body.now a.i (sym c.bit_at.ensures ∙ c.if-bit_at-eq1.true)

pub returns-else-bit_at-eq1 : goal.returns-else-bit_at-eq1
returns-else-bit_at-eq1 c =
    let a = c.args in
    unit-clear a.body.now a.i (λ e. c.if-bit_at-eq1.false (c.bit_at.ensures ∙ e))
