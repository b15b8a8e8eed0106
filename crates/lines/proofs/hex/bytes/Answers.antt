-- Two digits are a byte of the text; where they are not, or fewer than two bytes are left, no byte is to come.
use Rattle.std.proofs.Common.{◌≡◌, ◌∙◌, refl, ap, ◌/◌, ◌<◌, [], ◌∷◌, length, length-append, get_or, ℕ, Option, arith}
use Rattle.std.specs.Option.{option_map_or}
use Rattle.lines.specs.Hex.{hex_pair, hex_bytes}
use Rattle.lines.proofs.Writing.{write-next, write-all}
use Rattle.lines.proofs.Pairs.{hex_bytes-two, hex_bytes-short, length-hex_bytes}
use Rattle.lines.proofs.hex.bytes.Goals as goal
use Rattle.lines.proofs.hex.bytes.Goals.{In-Some}

-- what is to come, by whether the next two bytes are digits
two : (c : In-Some) {o : Option ℕ} → o ≡ hex_pair (get_or c.in-Some.two.now 0 0) (get_or c.in-Some.two.now 1 0)
    → hex_bytes c.loop-n.n-iterator.iter.rest.now ≡ option_map_or (λ b. b ∷ hex_bytes c.next.new.self.iter.rest.now) o []
two c e =
    let step = c.in-Some.ensures.steps.0 in
    hex_bytes-two _ _ step.1.0 (step.1.1 ∙ c.loop-n.invariant.0) ∙ rw e

pub returns-in_default-clause-puts : goal.returns-in_default-clause-puts
returns-in_default-clause-puts c = rw c.in-Some.ensures.steps.1 (write-all c.loop-n.invariant.1 (two (goal.at.returns-in_default-clause-puts c).In-Some c.in_default.ensures))

pub loop-n-preserved : goal.loop-n-preserved
loop-n-preserved c =
    let inv = c.loop-n.invariant in
    let steps = c.in-Some.ensures.steps in
    let e = two (goal.at.loop-n-preserved c).In-Some c.in-Some-pair.ensures in (
      steps.0.0 ∙ inv.0,
      rw (steps.1, steps.2) (write-next inv.1 e (omega (arith, length-hex_bytes c.args.s.now)) refl),
      omega (arith, steps.2, inv.2, inv.0, steps.0.1.1, ap length steps.0.1.0, length-append c.in-Some.two.now c.next.new.self.iter.rest.now),
    )

pub returns-clause-puts : goal.returns-clause-puts
returns-clause-puts c =
    let inv = c.loop-n.invariant in
    let few : length c.loop-n.n-iterator.iter.rest.now < 2 = omega (arith, c.in-None.ensures.steps.0.1.0, inv.0) in
    let all : length c.args.s.now / 2 ≡ c.loop-n.n-iterator.count = omega (arith, few, inv.2) in
    rw all (write-all inv.1 (hex_bytes-short _ few))
