-- The first i bytes are put.
use Rattle.std.proofs.Common.{◌≡◌, take}
use Rattle.promises.specs.Onto.{onto}
use Rattle.byte_slices.proofs.copy.Given as goal

abbrev pub invariant-loop-i : goal.invariant-loop-i
invariant-loop-i l = l.out ≡ onto (take l.i l.bytes) l.initial.out
