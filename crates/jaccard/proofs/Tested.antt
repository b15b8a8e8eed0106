-- The two tests of the code, of a value and of a pattern: a float is NaN, or equals itself.
use mathlib.Core.Path.{◌≡◌, ◌∙◌}
use mathlib.Core.Bool.{true, false}
use Prim.Native.Nat.{ℕ, ◌*◌, ◌%◌, ◌≤◌}
use borrow.Author.Tests.{le-ltb}
use lib.Ieee.{Float, nan, Format, eq, ne, ones, hid, top, of_bits}
use lib.Ieee.Compare.{differs_from_itself}
use Rattle.float_laws.proofs.Nan.{nan-tested}
use Rattle.float_laws.proofs.Order.{eq_self}

pub nan-value : (x : Float) → eq x x ≡ false → x ≡ nan
unfolding ne
nan-value x e = differs_from_itself x (rw e tt)

module _ (f : Format) (b : ℕ) where
  pub number-itself : b % top f ≤ ones f * hid f → eq (of_bits f b) (of_bits f b) ≡ true
  number-itself h = eq_self (of_bits f b) (nan-tested f b ∙ le-ltb _ _ h)
