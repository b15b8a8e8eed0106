-- The whole-number sums of two Float8 bodies are exact in f64: each is at most 65,025 * 65,536, below 2 ^ 53.
use Prim.Native.Nat.{ℕ, ◌*◌, ◌≤◌}
use native.Mathlib.Omega.{arith}
use mathlib.Core.Bool.{false}
use mathlib.Core.List.{List}
use lib.Ieee.{binary64}
use lib.Ieee.Exact.{HasValue}
use Rattle.float_laws.proofs.Whole.{of-whole}
use Rattle.little_endian.specs.Bytes.{AreBytes}
use Rattle.vector_types.specs.Layout.{max_dims}
use Rattle.distance_sums.specs.Float8.{whole, totals_of}
use Rattle.distance_sums.specs.declared.float8.Totals.{Totals}
use Rattle.distance_sums.proofs.Totalled.{totals-at-most}

-- n as a float is n
abbrev pub IsExact : ℕ → Type 0
IsExact n = (n ≤ 65025 * max_dims) × HasValue (whole n) false n 1

pub record AreExact (t : Totals) (d : ℕ) : Type 0 where
  pub sum1 : IsExact t.sum1
  pub sum2 : IsExact t.sum2
  pub squares1 : IsExact t.squares1
  pub squares2 : IsExact t.squares2
  pub products : IsExact t.products
  pub dims : IsExact d

exact : {n d : ℕ} → d ≤ max_dims → n ≤ d * 65025 → IsExact n
exact {n} D h = (omega arith, of-whole binary64 n (omega arith))

pub totals-exact : (a b : List ℕ) (d : ℕ) → AreBytes a → AreBytes b → d ≤ max_dims → AreExact (totals_of a b d) d
totals-exact a b d A B D =
    let most = totals-at-most a b A B d in
    record {
      sum1 = exact D most.sum1;
      sum2 = exact D most.sum2;
      squares1 = exact D most.squares1;
      squares2 = exact D most.squares2;
      products = exact D most.products;
      dims = exact D (omega arith);
    }
