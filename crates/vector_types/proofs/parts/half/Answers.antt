-- Two halves lie within the body.
use Rattle.std.proofs.Common.{sym, ◌∙◌}
use Rattle.vector_types.proofs.Views.{half-within}
use Rattle.vector_types.proofs.parts.half.Goals as goal

pub returns-in-Ok-clause-result_in_bounds : goal.returns-in-Ok-clause-result_in_bounds
returns-in-Ok-clause-result_in_bounds c = rw c.half_of.ensures (half-within _ _ (sym c.read.ensures ∙ c.in-Ok.is))
