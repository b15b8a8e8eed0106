-- How many bytes the sparse form of a Float64Dense body has.
use mathlib.Core.Path.{◌≡◌}
use mathlib.Core.List.{List}
use Prim.Native.Nat.{ℕ, ◌*◌, ◌<◌}
use lib.ListN.{length}
use lib.Ieee.{binary32, binary64, to_bits}
use Rattle.rounding.specs.Narrow.{narrowed}
use Rattle.little_endian.proofs.Numbers.{length-bytes_of}
use Rattle.vector_types.specs.declared.VectorType.TheVariants.{Float64Dense, Float32Sparse}
use Rattle.bodies.specs.Elements.{dense_element}
use Rattle.convert_parts.specs.Pieces.{places_of}
use Rattle.convert_parts.specs.Sparse.{is_nonzero, value_bytes}
use Rattle.convert_parts.specs.Result.{result_of}
use Rattle.convert_parts.proofs.Places.{length-stored}

module _ (d : ℕ) (body : List ℕ) where
  -- each value has four bytes
  pub length-value : (i : ℕ) → i < d → length (value_bytes binary64 body i) ≡ 4
  length-value i h = length-bytes_of 4 (to_bits binary32 (narrowed (dense_element binary64 body i)))

  pub length-sparse : length (result_of Float64Dense Float32Sparse d body) ≡ 8 * length (places_of (λ i. is_nonzero (dense_element binary64 body i)) d)
  unfolding result_of
  length-sparse = length-stored (value_bytes binary64 body) d length-value (λ i. is_nonzero (dense_element binary64 body i))
