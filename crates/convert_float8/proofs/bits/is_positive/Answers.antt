-- By the test of i, and of element i, which is scaled by alpha and shift of its body.
use lib.Ieee.{binary32}
use borrow.Author.Tests.{lt-ltb, le-ltb}
use Rattle.bodies.proofs.Elements.{literal-zero}
use Rattle.convert_float8.proofs.bits.is_positive.Goals as goal

pub returns : goal.returns
returns c =
    rw (lt-ltb _ _ c.if-dims-i.false, c.element.ensures, c.requires.scale_value, literal-zero binary32)

pub returns-then-dims-i : goal.returns-then-dims-i
returns-then-dims-i c = simp (le-ltb _ _ c.if-dims-i.true)
