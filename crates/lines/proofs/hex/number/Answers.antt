-- A digit makes the number one digit longer, for which there is room; a byte that is none, or too great, ends it.
use Rattle.std.proofs.Common.{sym, ◌∙◌, ◌+◌, ◌*◌, ◌^◌, ◌≤◌, ◌<◌, length, arith}
use Rattle.std.proofs.Math.Nat.{pow-le-pow_right}
use Rattle.lines.proofs.Digits.{number-digit, number-no_digit, number-big_digit, number-end, digit-below}
use Rattle.lines.proofs.hex.number.Goals as goal
use Rattle.lines.proofs.hex.number.Goals.{Else-base-d}

pub returns-in_err-d : goal.returns-in_err-d
returns-in_err-d c =
    let l = c.loop-b in
    c.from_residual.ensures ∙ sym (l.invariant.1 ∙ number-no_digit _ l.n _ l.b-index c.loop-b-test.true (c.in_err-d.ensures.value))

pub returns-then-base-d : goal.returns-then-base-d
returns-then-base-d c =
    let l = c.loop-b in
    sym (l.invariant.1 ∙ number-big_digit _ l.n _ l.b-index c.loop-b-test.true (c.in_ok-d.ensures.value) c.if-base-d.true)

-- with one digit more it has room
room : (c : Else-base-d) → c.loop-b.n * c.args.base + c.in_ok-d.field-0 < 2 ^ 64
room c =
    let l = c.loop-b in
    let most : c.args.base ^ (l.b-index + 1) ≤ c.args.base ^ length c.args.s.now = pow-le-pow_right (omega arith) (omega arith) in
    omega (arith, digit-below c.args.base l.n c.in_ok-d.field-0 l.b-index l.invariant.0 c.if-base-d.false)

pub overflow_mul-n : goal.overflow_mul-n
overflow_mul-n c = omega (arith, room c)

pub overflow_add-n : goal.overflow_add-n
overflow_add-n c = omega (arith, room c)

pub loop-b-preserved : goal.loop-b-preserved
loop-b-preserved c =
    let l = c.loop-b in
    let d = c.in_ok-d.field-0 in
    (digit-below c.args.base l.n d l.b-index l.invariant.0 c.if-base-d.false, l.invariant.1 ∙ number-digit _ l.n _ l.b-index c.loop-b-test.true (c.in_ok-d.ensures.value) c.if-base-d.false)

pub returns : goal.returns
returns c = sym (c.loop-b.invariant.1 ∙ number-end _ c.loop-b.n _ c.loop-b.b-index c.loop-b-test.false)
