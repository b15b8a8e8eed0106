-- Every index that was passed is above the one before it.
use Rattle.std.proofs.Common.{◌≡◌, false, ℕ, ◌<◌}
use Rattle.vector_types.specs.Read.{is_not_above_previous}
use Rattle.vector_types.proofs.strictness.first_not_above_previous.Given as goal

abbrev pub invariant-loop-entry : goal.invariant-loop-entry
invariant-loop-entry l = (j : ℕ) → j < l.entry → is_not_above_previous l.s l.count j ≡ false
