-- `rounding::pattern::decode` meets its contract: by whether the exponent's field is 0.
use Rattle.std.proofs.Common.{◌≡◌, ◌/◌, ◌%◌, ◌<◌, sym, refl, add-zero, mod-lt, arith, rules, ne_eqb}
use Rattle.rounding.proofs.pattern.decode.Goals as goal

pub returns-then-field-eq0 : goal.returns-then-field-eq0
returns-then-field-eq0 c =
    let z : c.args.b / c.args.hid ≡ 0 = search rules in
    (rw z (sym (add-zero (c.args.b % c.args.hid))), omega arith)

pub overflow_add-m : goal.overflow_add-m
overflow_add-m c = let l : c.args.b % c.args.hid < c.args.hid = mod-lt c.args.b (omega arith) in omega arith

pub returns : goal.returns
returns c =
    let n : c.args.b / c.args.hid ≡ 0 → ⊥ = search rules in
    (rw (ne_eqb (c.args.b / c.args.hid) 0 n), refl)
