-- The loop fills, float by float.
use lib.Ieee.{binary32}
use Rattle.convert_parts.proofs.Pieces.{fill_none, fill-float}
use Rattle.vecs.specs.Vecs.{byte_element}
use Rattle.vecs.proofs.reading.put_floats.Goals as goal

pub loop-i-init : goal.loop-i-init
loop-i-init c = fill_none _ _ _

pub loop-i-preserved : goal.loop-i-preserved
loop-i-preserved c = fill-float binary32 (byte_element c.args.s.now) c.loop-i.invariant c.loop-i-test.true c.requires _ _ c.from.ensures c.put_f32.ensures
