-- The shifted byte holds the unused bits.
use Rattle.std.proofs.Common.{◌/◌}
use Rattle.vector_types.proofs.Unused.{some-unused}
use Rattle.vector_types.proofs.strictness.unused_set.Goals as goal

pub returns : goal.returns
returns c =
    let a = c.args in
    some-unused a.s.now a.dims (c.type_inv.s (a.dims / 8)).fits c.if-used-eq0.false
