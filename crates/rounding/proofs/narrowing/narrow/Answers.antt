-- `rounding::narrowing::narrow` meets its contract: a NaN gives NaN; else `narrow_bits` gives the pattern, which is no NaN's.
use Rattle.std.proofs.Common.{◌≡◌, ap, ◌∙◌, rules}
use lib.Ieee.{binary32, binary64, to_bits}
use lib.Ieee.Bits.{of_bits-to_bits}
use Rattle.float_laws.proofs.Nan.{number-value}
use Rattle.rounding.specs.Narrow.{narrowed}
use Rattle.rounding.proofs.NarrowLaw.{nan-narrowed}
use Rattle.rounding.proofs.NarrowBits.{narrowed-bits-number, narrowed-by-bits}
use Rattle.rounding.proofs.narrowing.narrow.Goals as goal
use Rattle.rounding.proofs.narrowing.narrow.Goals.{After-narrow_bits}

pub returns-then-x : goal.returns-then-x
returns-then-x c = nan-narrowed c.args.x c.if-x.true

-- the pattern is that of x's f32
pattern : (c : After-narrow_bits) → c.narrow_bits.result ≡ to_bits binary32 (narrowed c.args.x)
pattern c = c.narrow_bits.ensures ∙ ap (λ x. to_bits binary32 (narrowed x)) (of_bits-to_bits binary64 c.args.x (search rules))

pub float_from_bits-result : goal.float_from_bits-result
float_from_bits-result c = let x = c.args.x in narrowed-bits-number x c.narrow_bits.result (pattern c) (number-value x c.if-x.false)

pub returns : goal.returns
returns c = narrowed-by-bits c.args.x c.narrow_bits.result (pattern c)

pub float_to_bits-x : goal.float_to_bits-x
float_to_bits-x c = number-value c.args.x c.if-x.false
