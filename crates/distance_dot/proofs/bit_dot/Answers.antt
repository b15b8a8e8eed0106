-- Both are whole numbers, so the product and the difference are exact.
use mathlib.Core.Path.{◌≡◌, refl}
use Prim.Native.Nat.{◌*◌}
use native.Mathlib.Omega.{arith}
use lib.Count.{count_trailing_zeros}
use lib.IntN.{pos}
use lib.Ieee.{binary64, of_int, of_bits, round, units, odd, size, span, climb}
use Rattle.float_laws.proofs.Whole.{mul-int, sub-int}
use Rattle.distance_sums.specs.OneBit.{bit_dot}
use Rattle.distance_dot.proofs.bit_dot.Goals as goal

-- 2.0
literal-two : of_bits binary64 0x4000000000000000 ≡ of_int binary64 (pos 2)
unfolding of_bits of_int round units odd size span climb count_trailing_zeros
literal-two = refl

pub returns : goal.returns
unfolding bit_dot
returns c =
    let a = c.args in
    let twice = mul-int binary64 2 a.count (omega arith) (omega arith) in
    rw (literal-two, twice, sub-int binary64 (pos a.dims) (pos (2 * a.count)) (omega arith) (omega arith))
