-- Both puts where the element is stored, and no change where it is not.
use borrow.Author.Rules.{rules}
use Rattle.convert_parts.proofs.entries.put_entry.Goals as goal

pub put_u32-requires : goal.put_u32-requires
put_u32-requires c =
    let less = rw c.if-stored.true at c.requires.i_bound in
    search rules

pub put_u32-requires-then-stored : goal.put_u32-requires-then-stored
put_u32-requires-then-stored c =
    let less = rw c.if-stored.true at c.requires.i_bound in
    search rules

pub returns-then-stored : goal.returns-then-stored
returns-then-stored c =
    rw c.if-stored.true record { value = search rules; out_after = rw (c.put_u32-then-stored.ensures, c.put_u32.ensures) }

pub returns : goal.returns
returns c = rw c.if-stored.false record { value = search rules; out_after = search rules }
