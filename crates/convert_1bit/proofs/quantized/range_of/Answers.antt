-- The loop's invariant: the range of the elements passed, which no element makes wider where it has two ends (`both-met`).
use Rattle.convert_parts.proofs.RangeSoFar.{range_none, range-next, range_all}
use Rattle.convert_1bit.proofs.Units.{both-met}
use Rattle.convert_1bit.proofs.quantized.range_of.Goals as goal

pub loop-i-preserved : goal.loop-i-preserved
loop-i-preserved c =
    range-next _ c.loop-i.invariant c.loop-i-test.true c.element-x.ensures c.wider-found.ensures

pub returns-then-found : goal.returns-then-found
returns-then-found c =
    both-met c.args.body.now c.loop-i.invariant c.if-found.true

pub no_range-found-requires : goal.no_range-found-requires
no_range-found-requires c = tt

pub loop-i-init : goal.loop-i-init
loop-i-init c = range_none _ _ c.no_range-found.ensures

pub wider-found-requires : goal.wider-found-requires
wider-found-requires c = tt

pub returns : goal.returns
returns c = range_all _ c.loop-i.invariant c.loop-i-test.false
