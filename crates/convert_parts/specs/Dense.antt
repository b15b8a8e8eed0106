-- To Float32Dense and Float64Dense: the dense body of a vector of each kind.
use Rattle.std.specs.Prelude.{ℕ, List, Float}
use Rattle.std.specs.Float.{Format, binary32, binary64}
use Rattle.rounding.specs.Narrow.{narrowed}
use Rattle.little_endian.specs.Bytes.{float_bytes}
use Rattle.vector_types.specs.declared.VectorType.{VectorType}
use Rattle.vector_types.specs.declared.VectorType.TheVariants.{Float32Dense, Float64Dense, Float32Sparse, Float1Bit, Float8}
use Rattle.bodies.specs.Elements.{dense_element, bit_element, float8_element}
use Rattle.convert_parts.specs.Pieces.{pieces}
use Rattle.convert_parts.specs.Spread.{spread, spread_body}

-- d elements as floats of a width
abbrev pub floats_of : Format → (ℕ → Float) → ℕ → List ℕ
floats_of f e d = pieces (λ i. float_bytes f (e i)) d

-- the body of d elements in f32
unfoldable pub singles : VectorType → ℕ → List ℕ → List ℕ
unfolding pieces spread narrowed
singles Float32Dense d body = body
singles Float64Dense d body = floats_of binary32 (λ i. narrowed (dense_element binary64 body i)) d
singles Float32Sparse d body = spread_body binary32 d body
singles Float1Bit d body = floats_of binary32 (bit_element body) d
singles Float8 d body = floats_of binary32 (float8_element binary32 d body) d

-- and in f64
unfoldable pub doubles : VectorType → ℕ → List ℕ → List ℕ
unfolding pieces spread
doubles Float32Dense d body = floats_of binary64 (dense_element binary32 body) d
doubles Float64Dense d body = body
doubles Float32Sparse d body = spread_body binary64 d body
doubles Float1Bit d body = floats_of binary64 (bit_element body) d
doubles Float8 d body = floats_of binary64 (float8_element binary64 d body) d
