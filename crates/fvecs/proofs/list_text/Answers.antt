-- All vectors are listed; where nothing is put after them, the listing goes on.
use Rattle.std.proofs.Common.{arith, sym, ◌∙◌}
use Rattle.promises.proofs.Onto.{tail-lent}
use Rattle.vecs_lines.proofs.Cutting.{all-cut}
use Rattle.fvecs.proofs.ListingAll.{goes-on-after}
use Rattle.fvecs.proofs.list_text.Goals as goal

pub overflow_add-listed : goal.overflow_add-listed
overflow_add-listed g c = let cut = all-cut c.args.text.now in let all = c.in_ok-listed.ensures.lists_all in omega (arith, all.numbered, cut.few, cut.within)

pub returns-then-is_empty-clause-lists_on : goal.returns-then-is_empty-clause-lists_on
returns-then-is_empty-clause-lists_on g c =
    goes-on-after _ c.in_ok-listed.ensures.lists_all (rw (c.clear.ensures, tail-lent) at c.put_refused.ensures) (sym c.is_empty.ensures ∙ c.if-is_empty.true)
