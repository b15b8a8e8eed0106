-- No index that was passed lies outside.
use Rattle.std.proofs.Common.{◌≡◌, false, ℕ, ◌<◌}
use Rattle.vector_types.specs.Layout.{is_outside}
use Rattle.vector_types.proofs.reading.first_index_outside.Given as goal

abbrev pub invariant-loop-entry : goal.invariant-loop-entry
invariant-loop-entry l = (j : ℕ) → j < l.entry → is_outside l.s l.count l.dims j ≡ false
