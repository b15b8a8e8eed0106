-- The elements of a Float8 body: what the code computes for a byte, and the sparse and the 1-bit form by elements.
use mathlib.Core.Path.{◌≡◌, ◌∙◌}
use mathlib.Core.List.{List}
use Prim.Native.Nat.{ℕ, ◌*◌, ◌<◌}
use lib.ListN.{length, get_or}
use lib.Ieee.{Float, binary32, ne, of_bits, to_bits}
use Rattle.little_endian.specs.Bytes.{float_bytes}
use Rattle.little_endian.proofs.Numbers.{length-bytes_of}
use Rattle.vector_types.specs.declared.VectorType.TheVariants.{Float32Sparse, Float1Bit, Float8}
use Rattle.bodies.specs.Elements.{scaled, float8_element}
use Rattle.bodies.specs.Scale.{scale_in}
use Rattle.bodies.specs.declared.float8.Scale.{Scale}
use Rattle.bodies.proofs.Elements.{literal-zero, float8-fits}
use Rattle.convert_parts.specs.Pieces.{places_of}
use Rattle.convert_parts.specs.Sparse.{is_nonzero, stored_body}
use Rattle.convert_parts.specs.Bits.{is_positive, packed_bits}
use Rattle.convert_parts.specs.Result.{result_of}
use Rattle.convert_parts.proofs.Places.{length-stored}
use Rattle.convert_parts.proofs.Through.{sparse-through, bits-through}

module _ (d : ℕ) (body : List ℕ) where
  abbrev e : ℕ → Float
  e = float8_element binary32 d body

  -- element i, by the scale that the body holds, and the test for zero
  pub element-computed : (i : ℕ) {c : Scale} {x : Float} → c ≡ scale_in d body → x ≡ scaled binary32 c.alpha c.shift (get_or body i 0) → x ≡ e i
  element-computed i s h = h ∙ rw s

  pub nonzero-computed : (i : ℕ) {x : Float} → x ≡ e i → ne x (of_bits binary32 0) ≡ is_nonzero (e i)
  unfolding ne
  nonzero-computed i h = rw (h, literal-zero)

  pub length-value : (i : ℕ) → i < d → length (float_bytes binary32 (e i)) ≡ 4
  length-value i h = length-bytes_of 4 (to_bits binary32 (e i))

  pub stored-elements : result_of Float8 Float32Sparse d body ≡ stored_body (λ i. is_nonzero (e i)) (λ i. float_bytes binary32 (e i)) d
  unfolding result_of
  stored-elements = sparse-through e d (float8-fits binary32 d body)

  pub length-sparse : length (result_of Float8 Float32Sparse d body) ≡ 8 * length (places_of (λ i. is_nonzero (e i)) d)
  length-sparse = rw stored-elements (length-stored (λ i. float_bytes binary32 (e i)) d length-value (λ i. is_nonzero (e i)))

  pub packed-elements : result_of Float8 Float1Bit d body ≡ packed_bits (λ i. is_positive (e i)) d
  unfolding result_of
  packed-elements = bits-through e d (float8-fits binary32 d body)
