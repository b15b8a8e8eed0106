-- By the test the first pattern is a number's, or a NaN's.
use native.Mathlib.Omega.{arith}
use lib.Ieee.{binary32}
use Rattle.float_laws.proofs.Nan.{number-pattern}
use Rattle.float_laws.proofs.Nan.{nan_pattern}
use Rattle.jaccard.proofs.Tested.{number-itself}
use Rattle.jaccard.proofs.sums.JaccardSums32.step_bits.Goals as goal

pub float_from_bits-x : goal.float_from_bits-x
float_from_bits-x c = number-pattern binary32 c.args.p (omega arith)

pub with_number-requires : goal.with_number-requires
with_number-requires c = number-itself binary32 c.args.p (omega arith)

pub returns-then-p-le2139095040 : goal.returns-then-p-le2139095040
returns-then-p-le2139095040 c = rw (← c.f32_of-y.ensures) c.with_number.ensures

pub returns-else-p-le2139095040 : goal.returns-else-p-le2139095040
returns-else-p-le2139095040 c =
    rw (nan_pattern binary32 c.args.p (omega arith), ← c.f32_of-y.ensures) c.with_nan.ensures
