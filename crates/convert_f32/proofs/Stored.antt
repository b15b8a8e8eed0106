-- How many bytes the sparse form of a Float32Dense body has.
use mathlib.Core.Path.{◌≡◌}
use mathlib.Core.List.{List}
use Prim.Native.Nat.{ℕ, ◌*◌, ◌<◌}
use native.Mathlib.Omega.{arith}
use lib.ListN.{length, drop, length-drop}
use lib.Seq.{length-take-le}
use lib.Ieee.{binary32}
use Rattle.vector_types.specs.declared.VectorType.TheVariants.{Float32Dense, Float32Sparse}
use Rattle.bodies.specs.Elements.{dense_element}
use Rattle.convert_parts.specs.Pieces.{places_of}
use Rattle.convert_parts.specs.Sparse.{is_nonzero, value_bytes}
use Rattle.convert_parts.specs.Result.{result_of}
use Rattle.convert_parts.proofs.Places.{length-stored}

module _ (d : ℕ) (body : List ℕ) (long : length body ≡ 4 * d) where
  -- each value has four bytes
  pub length-value : (i : ℕ) → i < d → length (value_bytes binary32 body i) ≡ 4
  length-value i h = length-take-le 4 (drop (4 * i) body) (rw length-drop (omega arith))

  pub length-sparse : length (result_of Float32Dense Float32Sparse d body) ≡ 8 * length (places_of (λ i. is_nonzero (dense_element binary32 body i)) d)
  unfolding result_of
  length-sparse = length-stored (value_bytes binary32 body) d length-value (λ i. is_nonzero (dense_element binary32 body i))
