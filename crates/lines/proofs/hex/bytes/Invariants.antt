-- The bytes of the pairs passed are written, and those of the others are to come.
use Rattle.std.proofs.Common.{◌≡◌, ◌+◌, ◌*◌, length}
use Rattle.lines.specs.Hex.{hex_bytes}
use Rattle.lines.proofs.Writing.{Writing}
use Rattle.lines.proofs.hex.bytes.Given as goal

abbrev pub invariant-loop-n : goal.invariant-loop-n
invariant-loop-n l =
    let left = l.n-iterator.iter.rest.now in
    let n = l.n-iterator.count in
    (l.n-iterator.iter.size ≡ 2) × Writing (hex_bytes l.s) l.initial.out l.out n (hex_bytes left) × (2 * n + length left ≡ length l.s)
