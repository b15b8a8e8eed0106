-- `little_endian::f32_of` meets its contract: by whether the pattern, the sign aside, is above an infinity's, and so a NaN's (`Nan` of `float_laws`).
use mathlib.Core.Path.{refl}
use native.Mathlib.Omega.{arith}
use lib.Ieee.{binary32}
use Rattle.float_laws.proofs.Nan.{nan-decoded, number-pattern}
use Rattle.little_endian.proofs.f32_of.Goals as goal

pub float_from_bits-result : goal.float_from_bits-result
float_from_bits-result c = number-pattern binary32 c.args.bits (omega arith)

pub returns-then-bits-le2139095040 : goal.returns-then-bits-le2139095040
returns-then-bits-le2139095040 c = refl

pub returns-else-bits-le2139095040 : goal.returns-else-bits-le2139095040
returns-else-bits-le2139095040 c = nan-decoded binary32 c.args.bits (omega arith)
