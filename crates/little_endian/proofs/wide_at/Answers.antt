-- `little_endian::wide_at` meets its contract: by the test of the pattern, as in `f32_of`; an f64 holds every f32, and has the same NaN.
use mathlib.Core.Path.{ap, sym, ◌∙◌}
use native.Mathlib.Omega.{arith}
use borrow.Author.Rules.{rules}
use lib.Ieee.{binary32, binary64, of_bits}
use lib.Ieee.Bits.{nan_bits_is}
use Rattle.float_laws.proofs.Nan.{nan-decoded, number-pattern, zero_by_zero}
use Rattle.little_endian.proofs.wide_at.Goals as goal

pub float_from_bits-result : goal.float_from_bits-result
float_from_bits-result c = number-pattern binary32 c.u32_at-pattern.result (omega arith)

pub float_to_float-result : goal.float_to_float-result
float_to_float-result c =
    let number = rw nan_bits_is at (number-pattern binary32 c.u32_at-pattern.result (omega arith)) in
    search rules

pub returns-then-pattern-le2139095040 : goal.returns-then-pattern-le2139095040
returns-then-pattern-le2139095040 c = ap (of_bits binary32) c.u32_at-pattern.ensures

pub returns-else-pattern-le2139095040 : goal.returns-else-pattern-le2139095040
returns-else-pattern-le2139095040 c =
    let at = c.u32_at-pattern in
    zero_by_zero binary64 ∙ sym (zero_by_zero binary32) ∙ nan-decoded binary32 at.result (omega arith) ∙ ap (of_bits binary32) at.ensures
