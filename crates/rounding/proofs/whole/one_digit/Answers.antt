-- `rounding::whole::one_digit` meets its contract: the digit is that of the definition, by its test, and every number fits, since what is taken away is there.
use Rattle.std.proofs.Common.{◌≡◌, sym, refl, ◌∙◌, arith}
use Rattle.rounding.specs.Inner.Digits.{next_digit}
use Rattle.rounding.proofs.Digits.{digit-one, digit-zero}
use Rattle.rounding.proofs.whole.one_digit.Goals as goal
use Rattle.rounding.proofs.whole.one_digit.Goals.{then-need-have, else-need-have}

pub overflow_add-result : goal.overflow_add-result
overflow_add-result c = elim c.if-need-have.branch [ then-need-have w ↦ omega arith | else-need-have w ↦ omega arith ]

pub overflow_mul-result-2 : goal.overflow_mul-result-2
overflow_mul-result-2 c = elim c.if-need-have.branch [ then-need-have w ↦ rw w.digit-is (omega arith) | else-need-have w ↦ rw w.digit-is (omega arith) ]

pub overflow_sub-result : goal.overflow_sub-result
overflow_sub-result c = elim c.if-need-have.branch [ then-need-have w ↦ rw w.digit-is (omega arith) | else-need-have w ↦ rw w.digit-is (omega arith) ]

pub returns : goal.returns
returns c =
    let a = c.args in
    let is : c.if-need-have.digit ≡ next_digit a.r.root a.r.rest a.pair =
    elim c.if-need-have.branch [
      | then-need-have w ↦ w.digit-is ∙ sym (digit-one a.r.root a.r.rest a.pair (omega arith))
      | else-need-have w ↦ w.digit-is ∙ sym (digit-zero a.r.root a.r.rest a.pair (omega arith))
    ]
    in
    rw is (refl, refl)
