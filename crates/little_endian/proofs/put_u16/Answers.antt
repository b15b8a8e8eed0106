-- `little_endian::put_u16` meets its contract: by the definition, two bytes set one after the other.
use native.Mathlib.Numerals.{add-one}
use native.Mathlib.Omega.{arith}
use mathlib.Core.Path.{◌≡◌}
use mathlib.Core.List.{[], ◌∷◌}
use Prim.Native.Nat.{◌/◌, ◌%◌}
use lib.ListN.{length-set}
use lib.Seq.{sets-eq}
use Rattle.little_endian.specs.Bytes.{bytes_of, put}
use Rattle.little_endian.proofs.put_u16.Goals as goal

pub bounds-out-at-2 : goal.bounds-out-at-2
bounds-out-at-2 c = simp length-set (omega arith)

pub returns : goal.returns
unfolding put bytes_of
returns c =
    let a = c.args in
    let high : a.v / 256 % 256 ≡ a.v / 256 = omega arith in
    rw (add-one, high) (sets-eq (a.v % 256 ∷ a.v / 256 ∷ []) a.out.now a.at (omega arith))
