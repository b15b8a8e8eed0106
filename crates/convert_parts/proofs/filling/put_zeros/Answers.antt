-- The loop fills, byte by byte.
use mathlib.Core.Path.{refl}
use Rattle.convert_parts.proofs.Pieces.{fill_none, fill-byte, fill-all, pieces-zeros}
use Rattle.convert_parts.proofs.filling.put_zeros.Goals as goal

pub loop-i-init : goal.loop-i-init
loop-i-init c = fill_none _ _ _

pub loop-i-preserved : goal.loop-i-preserved
loop-i-preserved c = fill-byte (λ _. 0) c.loop-i.invariant c.loop-i-test.true c.requires _ refl

pub returns : goal.returns
returns c = rw pieces-zeros at (fill-all c.loop-i.invariant c.loop-i-test.false)
