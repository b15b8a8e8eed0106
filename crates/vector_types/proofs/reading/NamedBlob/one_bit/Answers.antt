-- By the law of 1-bit blobs: the body that would reach into the count, and what passes every test.
use Rattle.std.proofs.Common.{ap, ◌∙◌, Ok, arith}
use Rattle.std.proofs.lemmas.Grind.{common_steps}
use Rattle.vector_types.proofs.ByKind.{read-one-bit}
use Rattle.vector_types.proofs.reading.NamedBlob.one_bit.Goals as goal

pub returns-then-n-length : goal.returns-then-n-length
returns-then-n-length c = let law = read-one-bit _ c.args.self.short (c.args.self.named ∙ ap Ok c.requires) in grind (arith, common_steps)

pub returns : goal.returns
returns c = let law = read-one-bit _ c.args.self.short (c.args.self.named ∙ ap Ok c.requires) in grind (arith, common_steps)
