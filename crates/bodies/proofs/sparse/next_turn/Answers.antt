-- What the tests have found is what is known at each turn.
use mathlib.Core.Logic.{inl, inr}
use borrow.Author.Rules.{rules}
use Rattle.bodies.proofs.sparse.next_turn.Goals as goal

pub returns-then-left-i : goal.returns-then-left-i
returns-then-left-i c = (search rules, inl (search rules), c.f32_at.ensures)

pub returns-then-right-j-2 : goal.returns-then-right-j-2
returns-then-right-j-2 c = (search rules, inl (search rules), c.f32_at-then-right-j-2.ensures)

-- the indices were read by the counts that the caller gave
pub returns-then-x-y : goal.returns-then-x-y
returns-then-x-y c =
    let pre = c.requires in
    rw (← pre.left_value, ← pre.right_value) (search rules)

pub returns-then-x-y-2 : goal.returns-then-x-y-2
returns-then-x-y-2 c =
    let pre = c.requires in
    rw (← pre.left_value, ← pre.right_value) (search rules, inr (search rules), c.f32_at-then-x-y-2-2.ensures)

pub returns : goal.returns
returns c =
    let pre = c.requires in
    rw (← pre.left_value, ← pre.right_value) (search rules, inr (search rules), c.f32_at-2.ensures)
