-- What any mode shows, the plain mode shows.
use Rattle.std.proofs.Common.{rules}
use Rattle.vector_types.proofs.Modes.{shown-plainly}
use Rattle.vector_types.proofs.vector.Vector.from_slice.Goals as goal

pub invariant_of-result : goal.invariant_of-result
invariant_of-result c = record { is_view = shown-plainly c.args.mode c.args.blob.now c.in_ok-view.view (search rules) }
