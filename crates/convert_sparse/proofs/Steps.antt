-- The dense body in scratch: it fits, it stands at the front, and what is made of it is the result.
use mathlib.Core.Path.{◌≡◌, refl}
use mathlib.Core.List.{List}
use Prim.Native.Nat.{ℕ, ◌*◌}
use native.Mathlib.Omega.{arith}
use lib.ListN.{length, take, drop}
use lib.Seq.{take_at}
use lib.Ieee.{binary32}
use borrow.Author.Tests.{eq-eqb}
use Rattle.promises.specs.Onto.{onto}
use Rattle.vector_types.specs.Layout.{body_fits}
use Rattle.vector_types.specs.declared.VectorType.TheVariants.{Float32Dense, Float32Sparse, Float1Bit, Float8}
use Rattle.bodies.specs.Entries.{stored_count}
use Rattle.convert_parts.specs.Spread.{spread_body}
use Rattle.convert_parts.specs.Result.{result_of}
use Rattle.convert_parts.specs.Inner.Fitting.{Fitting}
use Rattle.convert_parts.proofs.Spread.{length-spread}

module _ (d : ℕ) (body : List ℕ) where
  abbrev dense : List ℕ
  dense = spread_body binary32 d body

  module _ (h : Fitting Float32Sparse d body) where
    pub dense-long : length dense ≡ 4 * d
    dense-long = length-spread binary32 d body h.inside (stored_count body) (omega arith)

    pub dense-fitting : Fitting Float32Dense d dense
    unfolding body_fits
    dense-fitting = record { limited = h.limited; fit = eq-eqb (length dense) (4 * d) dense-long; inside = refl }

    pub dense-front : (scratch s : List ℕ) → s ≡ onto dense scratch → take (4 * d) s ≡ dense
    dense-front scratch s e = rw e (take_at dense (drop (length dense) scratch) (4 * d) dense-long)

  pub bits-second : result_of Float32Dense Float1Bit d dense ≡ result_of Float32Sparse Float1Bit d body
  unfolding result_of
  bits-second = refl

  pub float8-second : result_of Float32Dense Float8 d dense ≡ result_of Float32Sparse Float8 d body
  unfolding result_of
  float8-second = refl
