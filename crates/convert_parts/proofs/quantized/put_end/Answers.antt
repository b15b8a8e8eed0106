-- Three parts written one after another (`end-put`).
use native.Mathlib.Omega.{arith}
use Rattle.convert_parts.proofs.RangeSoFar.{end-put}
use Rattle.convert_parts.proofs.quantized.put_end.Goals as goal

pub returns : goal.returns
returns c =
    end-put c.args.dims _ _ _ _ _ _ (omega arith) c.put_zeros.ensures c.put_f32.ensures c.put_f32-2.ensures
