-- By the law of sparse blobs: the entry that is found is the first.
use Rattle.std.proofs.Common.{ap, ◌∙◌, Ok, arith}
use Rattle.std.proofs.lemmas.Grind.{common_steps}
use Rattle.vector_types.proofs.ByKind.{read-sparse}
use Rattle.vector_types.proofs.Some.{found-some}
use Rattle.vector_types.proofs.reading.NamedBlob.sparse.Goals as goal

pub returns-in-Some : goal.returns-in-Some
returns-in-Some c = let law = read-sparse _ c.args.self.short (c.args.self.named ∙ ap Ok c.requires) in grind (arith, common_steps, found-some)
