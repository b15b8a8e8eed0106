-- Of no elements zeros, else by their range.
use borrow.Author.Tests.{eq-eqb, ne_eqb}
use lib.Ieee.{of_bits, of_int}
use Rattle.convert_parts.specs.Quantized.{scale_for}
use Rattle.convert_parts.proofs.quantized.scale_for.Goals as goal

pub returns-then-dims-eq0 : goal.returns-then-dims-eq0
unfolding scale_for of_bits
returns-then-dims-eq0 c = rw (eq-eqb _ _ c.if-dims-eq0.true)

pub returns : goal.returns
unfolding scale_for of_bits of_int
returns c = rw (ne_eqb _ _ c.if-dims-eq0.false)
