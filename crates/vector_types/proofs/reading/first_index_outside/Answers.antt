-- The first hit is found, after misses alone.
use Rattle.std.proofs.Common.{sym, ap, ◌∙◌, leb, le-leb}
use Rattle.vector_types.proofs.Some.{found_first}
use Rattle.vector_types.proofs.reading.first_index_outside.Goals as goal

pub returns-then-dims-index : goal.returns-then-dims-index
returns-then-dims-index c =
    found_first _ _ _ c.loop-entry-test.true (ap (leb _) (sym c.u32_at-index.ensures) ∙ le-leb _ _ c.if-dims-index.true) c.loop-entry.invariant
