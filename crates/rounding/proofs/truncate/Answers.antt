-- `rounding::truncate` meets its contract: by whether x is below 1, below 256, or neither (`TruncateLaw`).
use Rattle.rounding.proofs.TruncateLaw.{InRange, in-range, in-range-number, field-ge, field_lt, shifted-lt, shifted-truncated, truncated-above, truncated-below}
use Rattle.std.proofs.Common.{arith, rules}
use Rattle.rounding.proofs.truncate.Goals as goal
use Rattle.rounding.proofs.truncate.Goals.{Then-x-2}

range : (c : Then-x-2) → InRange c.args.x
range c = in-range c.args.x c.if-x.true c.if-x-2.true

pub overflow_sub-result : goal.overflow_sub-result
overflow_sub-result c = omega (arith, field_lt c.args.x (search rules) (range c))

pub overflow_shr-result : goal.overflow_shr-result
overflow_shr-result c = omega (arith, field-ge c.args.x (search rules) (range c))

pub overflow_cast-result : goal.overflow_cast-result
overflow_cast-result c = record { fits = shifted-lt c.args.x (search rules) (range c) }

pub returns-then-x-2 : goal.returns-then-x-2
returns-then-x-2 c = shifted-truncated c.args.x (search rules) (range c)

pub returns-else-x-2 : goal.returns-else-x-2
returns-else-x-2 c = truncated-above c.args.x c.if-x.true c.if-x-2.false

pub returns-else-x : goal.returns-else-x
returns-else-x c = truncated-below c.args.x c.if-x.false

pub float_to_bits-b : goal.float_to_bits-b
float_to_bits-b c = in-range-number c.args.x (range c)
