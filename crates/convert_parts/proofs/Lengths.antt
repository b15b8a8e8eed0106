-- How long the results are whose length the dims alone tell, and how much scratch a pair takes.
use mathlib.Core.Path.{◌≡◌, refl}
use mathlib.Core.Bool.{Bool, true, false, cond, ◌&&◌}
use mathlib.Core.List.{List, []}
use Prim.Native.Nat.{ℕ, ◌+◌, ◌*◌}
use native.Mathlib.Omega.{arith}
use lib.ListN.{length}
use lib.Ieee.{binary32, binary64}
use Rattle.rounding.specs.Narrow.{narrowed}
use Rattle.vector_types.specs.Layout.{ceil, has_byte, has_trailing_count}
use Rattle.vector_types.specs.declared.VectorType.{VectorType}
use Rattle.vector_types.specs.declared.VectorType.TheVariants.{Float32Dense, Float64Dense, Float32Sparse, Float1Bit, Float8}
use Rattle.bodies.specs.Elements.{dense_element, bit_element, float8_element}
use Rattle.bodies.specs.Entries.{stored_count}
use Rattle.bodies.proofs.Lengths.{float32-length, float64-length, one-bit-length, float8-length}
use Rattle.convert_parts.specs.Dense.{singles}
use Rattle.convert_parts.specs.Bits.{is_positive}
use Rattle.convert_parts.specs.Quantized.{fitted_scale, quantized_body}
use Rattle.convert_parts.specs.Result.{result_of, scratch_body}
use Rattle.convert_parts.specs.Inner.Fitting.{Fitting}
use Rattle.convert_parts.proofs.Pieces.{length-floats}
use Rattle.convert_parts.proofs.Packed.{length-packed}
use Rattle.convert_parts.proofs.RangeSoFar.{length-quantized}
use Rattle.convert_parts.proofs.Spread.{length-spread}

quantized-length : (d : ℕ) (body : List ℕ) → length (quantized_body d body) ≡ 4 * ceil d 4 + 8
unfolding quantized_body
quantized-length d body = let e = dense_element binary32 body in length-quantized (fitted_scale e d) e d

module _ (d : ℕ) (body : List ℕ) where
  pub length-float32 : (k : VectorType) → Fitting k d body → length (result_of k Float32Dense d body) ≡ 4 * d
  unfolding result_of
  length-float32 Float32Dense h = float32-length d (length body) refl h.fit
  length-float32 Float64Dense h = length-floats binary32 (λ i. narrowed (dense_element binary64 body i)) d
  length-float32 Float32Sparse h = length-spread binary32 d body h.inside (stored_count body) (omega arith)
  length-float32 Float1Bit h = length-floats binary32 (bit_element body) d
  length-float32 Float8 h = length-floats binary32 (float8_element binary32 d body) d

  pub length-float64 : (k : VectorType) → Fitting k d body → length (result_of k Float64Dense d body) ≡ 8 * d
  unfolding result_of
  length-float64 Float32Dense h = length-floats binary64 (dense_element binary32 body) d
  length-float64 Float64Dense h = float64-length d (length body) refl h.fit
  length-float64 Float32Sparse h = length-spread binary64 d body h.inside (stored_count body) (omega arith)
  length-float64 Float1Bit h = length-floats binary64 (bit_element body) d
  length-float64 Float8 h = length-floats binary64 (float8_element binary64 d body) d

  pub length-one-bit : (k : VectorType) → Fitting k d body → length (result_of k Float1Bit d body) ≡ ceil d 8
  unfolding result_of
  length-one-bit Float32Dense h = length-packed (λ i. is_positive (dense_element binary32 body i)) d
  length-one-bit Float64Dense h = length-packed (λ i. is_positive (dense_element binary64 body i)) d
  length-one-bit Float32Sparse h = length-packed (λ i. is_positive (dense_element binary32 (singles Float32Sparse d body) i)) d
  length-one-bit Float1Bit h = one-bit-length d (length body) refl h.fit
  length-one-bit Float8 h = length-packed (λ i. is_positive (dense_element binary32 (singles Float8 d body) i)) d

  pub length-float8 : (k : VectorType) → Fitting k d body → length (result_of k Float8 d body) ≡ 4 * ceil d 4 + 8
  unfolding result_of
  length-float8 Float32Dense h = quantized-length d (singles Float32Dense d body)
  length-float8 Float64Dense h = quantized-length d (singles Float64Dense d body)
  length-float8 Float32Sparse h = quantized-length d (singles Float32Sparse d body)
  length-float8 Float1Bit h = quantized-length d (singles Float1Bit d body)
  length-float8 Float8 h = float8-length d (length body) refl h.fit

  -- the need of 17: 4 bytes an element from sparse to 1-bit and Float8, and else nothing
  pub length-scratch : (k t : VectorType) → Fitting k d body → length (scratch_body k t d body) ≡ cond (has_byte 9 k && has_trailing_count t) (4 * d) 0
  unfolding scratch_body result_of
  length-scratch k t h = by (has_byte 9 k && has_trailing_count t)
    where
      by : (b : Bool) → length (cond b (singles k d body) []) ≡ cond b (4 * d) 0
      by true = length-float32 k h
      by false = refl
