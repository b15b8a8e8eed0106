-- `rounding::narrowing::narrow_bits` meets its contract: by whether the f32 is normal, and whether the pattern is a NaN's (`NarrowBits`).
use Rattle.std.proofs.Common.{inl, inr, rules}
use Rattle.rounding.proofs.NarrowBits.{narrow-nan-bits, narrow-number-bits}
use Rattle.rounding.proofs.narrowing.narrow_bits.Goals as goal
use Rattle.rounding.proofs.narrowing.narrow_bits.Goals.{else-size-ge4039728865751334912-via-then-size-ge4039728865751334912+else-size-lt5183643170835005440, else-size-ge4039728865751334912-via-else-size-ge4039728865751334912}

pub returns-then-size-lt5183643170835005440 : goal.returns-then-size-lt5183643170835005440
returns-then-size-lt5183643170835005440 c = narrow-number-bits c.args.b c.narrow_normal.result (search rules) c.narrow_normal.ensures

pub returns-then-size-gt9218868437227405312 : goal.returns-then-size-gt9218868437227405312
returns-then-size-gt9218868437227405312 c = narrow-nan-bits c.args.b c.if-size-gt9218868437227405312.true

pub narrow_edge-requires : goal.narrow_edge-requires
narrow_edge-requires c = record {
  outside_normal = elim c.else-size-ge4039728865751334912.branch [
    | else-size-ge4039728865751334912-via-then-size-ge4039728865751334912+else-size-lt5183643170835005440 w ↦ inr w.if-size-lt5183643170835005440.false
    | else-size-ge4039728865751334912-via-else-size-ge4039728865751334912 w ↦ inl w.if-size-ge4039728865751334912.false
  ];
  b_bound = c.if-size-gt9218868437227405312.false;
}

pub returns : goal.returns
returns c = narrow-number-bits c.args.b c.narrow_edge.result (search rules) c.narrow_edge.ensures
