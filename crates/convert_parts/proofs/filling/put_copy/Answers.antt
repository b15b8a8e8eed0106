-- A copy of all bytes.
use Rattle.convert_parts.proofs.filling.put_copy.Goals as goal

pub returns : goal.returns
returns c = c.copy.ensures.left
