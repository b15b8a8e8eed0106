-- The reply to the number that was found, or none where the field is no pattern.
use Rattle.std.proofs.Common.{rules, ◌≡◌, ◌^◌, ◌<◌, ◌≤◌, ◌∙◌, refl, sym, ap, arith, List, ℕ, Option}
use Rattle.lines.specs.Hex.{pattern_of}
use Rattle.lines.proofs.Digits.{pattern-below}
use Rattle.probe_floats.specs.Floats.{work_of}
use Rattle.probe_floats.proofs.Fields.{wide, float-none, float-some}
use Rattle.probe_floats.proofs.put_float_reply.Goals as goal

-- what is asked of the field
asked : {k l : ℕ} (field : List ℕ) {r : Option ℕ} → r ≡ pattern_of k field → k ≡ l → pattern_of l field ≡ r
asked field p q = sym (p ∙ ap (λ (k : ℕ). pattern_of k field) q)

pub pattern-requires : goal.pattern-requires
pattern-requires g c = omega (arith, c.widths-w.ensures.0, (wide c.args.work).takes)

pub returns-in_err-n-clause-puts : goal.returns-in_err-n-clause-puts
returns-in_err-n-clause-puts g c = rw c.from_residual.ensures (float-none c.args.work _ (asked _ c.in_err-n.ensures c.widths-w.ensures.0), refl)

pub result-value-requires : goal.result-value-requires
result-value-requires g c = pattern-below _ _ _ (asked _ c.in_ok-n.ensures c.widths-w.ensures.0)

pub put_float-requires : goal.put_float-requires
put_float-requires g c =
    let w = wide c.args.work in
    let gives = c.widths-w.ensures.1 in
    let some : 1 ≤ c.widths-w.result.gives = omega (arith, w.some, gives) in
    let most : c.widths-w.result.gives ≤ 16 = omega (arith, w.gives, gives) in
    let below : c.result-value.result < 16 ^ c.widths-w.result.gives = rw gives c.result-value.ensures.upper_bound in
    search rules

pub returns-clause-puts : goal.returns-clause-puts
returns-clause-puts g c = rw (float-some c.args.work _ (asked _ c.in_ok-n.ensures c.widths-w.ensures.0), ← c.widths-w.ensures.1, ← c.result-value.ensures.value) c.put_float.ensures.puts
