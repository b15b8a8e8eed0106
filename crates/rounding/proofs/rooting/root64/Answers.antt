-- `rounding::rooting::root64` meets its contract: finite and above zero by `root_pattern`, and elsewhere by the laws of special values (`RootSpecial`).
use Rattle.std.proofs.Common.{refl, le_of_lt, rules}
use lib.Ieee.{binary64}
use Rattle.rounding.proofs.RootSpecial.{above-number, bits_pos, infinite-root, zero-root, nan-root, not-nan-bits}
use Rattle.rounding.proofs.Widths.{root-of-bits}
use Rattle.rounding.proofs.rooting.root64.Goals as goal

pub float_to_bits-b : goal.float_to_bits-b
float_to_bits-b c = above-number binary64 c.args.x c.if-x.true

pub root_pattern-requires : goal.root_pattern-requires
root_pattern-requires c = record { widths = record { digits = refl; lead = refl; least = refl }; b_positive = bits_pos binary64 c.args.x c.if-x.true (search rules); b_finite = search rules }

pub float_from_bits-result : goal.float_from_bits-result
float_from_bits-result c = not-nan-bits binary64 c.root_pattern.result (le_of_lt c.root_pattern.ensures.finite)

pub returns-then-b-lt9218868437227405312 : goal.returns-then-b-lt9218868437227405312
returns-then-b-lt9218868437227405312 c = root-of-bits c.args.x (search rules) c.root_pattern.ensures

pub returns-else-b-lt9218868437227405312 : goal.returns-else-b-lt9218868437227405312
returns-else-b-lt9218868437227405312 c = infinite-root binary64 c.args.x c.if-x.true (search rules) (search rules)

pub returns-then-x-2 : goal.returns-then-x-2
returns-then-x-2 c = zero-root binary64 c.args.x c.if-x-2.true

pub returns-else-x-2 : goal.returns-else-x-2
returns-else-x-2 c = nan-root binary64 c.args.x c.if-x.false c.if-x-2.false
