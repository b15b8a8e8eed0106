-- A zero changes nothing, and what is no zero is put as it is narrowed.
use borrow.Author.Rules.{rules}
use borrow.Author.Tests.{eq-eqb, ne_eqb}
use Rattle.convert_f64.proofs.sparse.put_narrowed.Goals as goal

pub returns-then-bits-eq0 : goal.returns-then-bits-eq0
returns-then-bits-eq0 c = rw (eq-eqb _ _ c.if-bits-eq0.true) record { value = search rules; out_after = search rules }

pub put_entry-requires : goal.put_entry-requires
put_entry-requires c =
    record { i_lt_max_dims = c.requires.i_lt_max_dims; i_bound = rw (ne_eqb _ _ c.if-bits-eq0.false) at c.requires.i_bound; count_in_bounds = c.requires.count_in_bounds }

pub returns : goal.returns
returns c =
    rw (ne_eqb _ _ c.if-bits-eq0.false) record { value = c.put_entry.ensures.value; out_after = rw (← c.narrow_bits.ensures) c.put_entry.ensures.out_after }
