-- `little_endian::f64_of` meets its contract: by whether the pattern, the sign aside, is above an infinity's, and so a NaN's (`Nan` of `float_laws`).
use mathlib.Core.Path.{refl}
use native.Mathlib.Omega.{arith}
use lib.Ieee.{binary64}
use Rattle.float_laws.proofs.Nan.{nan-decoded, number-pattern}
use Rattle.little_endian.proofs.f64_of.Goals as goal

pub float_from_bits-result : goal.float_from_bits-result
float_from_bits-result c = number-pattern binary64 c.args.bits (omega arith)

pub returns-then-bits-le9218868437227405312 : goal.returns-then-bits-le9218868437227405312
returns-then-bits-le9218868437227405312 c = refl

pub returns-else-bits-le9218868437227405312 : goal.returns-else-bits-le9218868437227405312
returns-else-bits-le9218868437227405312 c = nan-decoded binary64 c.args.bits (omega arith)
