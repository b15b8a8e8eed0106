-- The mode that a byte names. No refusal has a number for a byte that names none: it reads strictly, so that a wrong byte never accepts
-- more than a right one.
use Rattle.std.specs.Prelude.{ℕ, cond, eqb}
use Rattle.vector_types.specs.declared.Mode.{Mode}
use Rattle.vector_types.specs.declared.Mode.TheVariants.{Plain, Strict}

abbrev pub mode_of : ℕ → Mode
mode_of byte = cond (eqb byte 0) Plain Strict
