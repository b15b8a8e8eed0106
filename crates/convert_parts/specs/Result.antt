-- The body that a conversion makes, for each of the twenty-five pairs, and what it leaves in scratch. Only from Float64Dense are
-- elements tested in f64; all other kinds go through Float32Dense. A body of the same kind is copied.
use Rattle.std.specs.Prelude.{ℕ, cond, ◌&&◌, List, []}
use Rattle.std.specs.Float.{binary32, binary64}
use Rattle.vector_types.specs.Layout.{has_byte, has_trailing_count}
use Rattle.vector_types.specs.declared.VectorType.{VectorType}
use Rattle.vector_types.specs.declared.VectorType.TheVariants.{Float32Dense, Float64Dense, Float32Sparse, Float1Bit, Float8}
use Rattle.convert_parts.specs.Dense.{singles, doubles}
use Rattle.convert_parts.specs.Sparse.{stored_body, sparse_body}
use Rattle.convert_parts.specs.Bits.{packed_bits, bit_body}
use Rattle.convert_parts.specs.Quantized.{quantized_body}

-- from the first kind to the second
unfoldable pub result_of : VectorType → VectorType → ℕ → List ℕ → List ℕ
unfolding singles doubles stored_body packed_bits quantized_body
result_of k Float32Dense d body = singles k d body
result_of k Float64Dense d body = doubles k d body
result_of Float32Dense Float32Sparse d body = sparse_body binary32 d (singles Float32Dense d body)
result_of Float64Dense Float32Sparse d body = sparse_body binary64 d body
result_of Float32Sparse Float32Sparse d body = body
result_of Float1Bit Float32Sparse d body = sparse_body binary32 d (singles Float1Bit d body)
result_of Float8 Float32Sparse d body = sparse_body binary32 d (singles Float8 d body)
result_of Float32Dense Float1Bit d body = bit_body binary32 d (singles Float32Dense d body)
result_of Float64Dense Float1Bit d body = bit_body binary64 d body
result_of Float32Sparse Float1Bit d body = bit_body binary32 d (singles Float32Sparse d body)
result_of Float1Bit Float1Bit d body = body
result_of Float8 Float1Bit d body = bit_body binary32 d (singles Float8 d body)
result_of Float32Dense Float8 d body = quantized_body d (singles Float32Dense d body)
result_of Float64Dense Float8 d body = quantized_body d (singles Float64Dense d body)
result_of Float32Sparse Float8 d body = quantized_body d (singles Float32Sparse d body)
result_of Float1Bit Float8 d body = quantized_body d (singles Float1Bit d body)
result_of Float8 Float8 d body = body

-- from sparse to 1-bit and Float8 the dense body is left in scratch, and by every other pair nothing
unfoldable pub scratch_body : VectorType → VectorType → ℕ → List ℕ → List ℕ
unfolding singles
scratch_body k t d body = cond (has_byte 9 k && has_trailing_count t) (singles k d body) []
