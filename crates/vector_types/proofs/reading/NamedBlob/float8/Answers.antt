-- By the law of Float8 blobs: the tests of too few bytes and of the body's length, and what passes every test.
use Rattle.std.proofs.Common.{ap, ◌∙◌, Ok, arith}
use Rattle.std.proofs.lemmas.Grind.{common_steps}
use Rattle.vector_types.proofs.ByKind.{read-float8}
use Rattle.vector_types.proofs.reading.NamedBlob.float8.Goals as goal

pub returns-then-n-lt10 : goal.returns-then-n-lt10
returns-then-n-lt10 c = let law = read-float8 _ c.args.self.short (c.args.self.named ∙ ap Ok c.requires) in grind (arith, common_steps)

pub returns-then-length-align4 : goal.returns-then-length-align4
returns-then-length-align4 c = let law = read-float8 _ c.args.self.short (c.args.self.named ∙ ap Ok c.requires) in grind (arith, common_steps)

pub returns : goal.returns
returns c = let law = read-float8 _ c.args.self.short (c.args.self.named ∙ ap Ok c.requires) in grind (arith, common_steps)
