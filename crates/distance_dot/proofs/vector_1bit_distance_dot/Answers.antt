-- The count of the whole bytes of dims, which is at most how many bits these have.
use Prim.Native.Nat.{◌*◌}
use native.Mathlib.Omega.{arith}
use lib.ListN.{length}
use Rattle.distance_sums.specs.OneBit.{differing}
use Rattle.distance_sums.specs.Values.{dot_of}
use Rattle.distance_sums.proofs.Counts.{tally-le, xor-digits}
use Rattle.distance_dot.proofs.vector_1bit_distance_dot.Goals as goal

pub bit_dot-requires : goal.bit_dot-requires
unfolding differing
bit_dot-requires c =
    let a = c.args in
    let few = tally-le xor-digits a.a.now a.b.now (8 * length a.a.now) in
    record { dims_le_max_dims = omega arith; count_le_max_dims = omega (arith, c.differing-count.ensures) }

pub returns : goal.returns
unfolding dot_of
returns c =
    rw (← c.requires.a_len, ← c.differing-count.ensures) c.bit_dot.ensures
