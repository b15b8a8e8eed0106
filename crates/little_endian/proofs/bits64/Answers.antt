-- `little_endian::bits64` meets its contract: what differs from itself is NaN, whose pattern is written out; all else is no NaN (`Nan` of `float_laws`).
use mathlib.Core.Path.{refl}
use lib.Ieee.{binary64}
use Rattle.float_laws.proofs.Nan.{nan-encoded, number-value}
use Rattle.little_endian.proofs.bits64.Goals as goal

pub float_to_bits-result : goal.float_to_bits-result
float_to_bits-result c = number-value _ c.if-x.false

pub returns-then-x : goal.returns-then-x
returns-then-x c = nan-encoded binary64 _ c.if-x.true

pub returns-else-x : goal.returns-else-x
returns-else-x c = refl
