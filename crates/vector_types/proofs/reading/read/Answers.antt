-- What the tests of every mode refuse, the strict mode refuses.
use Rattle.std.proofs.Common.{arith}
use Rattle.vector_types.proofs.Modes.{refused-in-every-mode}
use Rattle.vector_types.proofs.reading.read.Goals as goal

pub returns-in_err-view-in-Strict : goal.returns-in_err-view-in-Strict
returns-in_err-view-in-Strict c = grind (arith, refused-in-every-mode)
