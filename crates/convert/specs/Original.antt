-- The Rust's `vector_convert`, to be laid beside convert.rs: the test for equal kinds, and then the arms of the match in their order.
use Rattle.std.specs.Prelude.{ℕ, cond, ◌&&◌, List, [], ◌∷◌}
use Rattle.std.specs.Float.{binary32, binary64}
use Rattle.vector_types.specs.Layout.{byte_of, has_byte}
use Rattle.vector_types.specs.declared.VectorType.{VectorType}
use Rattle.vector_types.specs.declared.VectorType.TheVariants.{Float32Dense, Float64Dense, Float32Sparse, Float1Bit, Float8}
use Rattle.convert_parts.specs.Dense.{singles, doubles}
use Rattle.convert_parts.specs.Sparse.{sparse_body}
use Rattle.convert_parts.specs.Bits.{bit_body}
use Rattle.convert_parts.specs.Quantized.{quantized_body}

-- what is done: the vector is handed back, a new body is made of its dims and body, it is converted to Float32Dense and that to the
-- target, or the last arm is taken
pub data Way : Type 0 where
  copied : Way
  in_one_step : (ℕ → List ℕ → List ℕ) → Way
  in_two_steps : Way
  unreachable : Way

pub record Arm : Type 0 where
  pub source : VectorType
  pub target : VectorType
  pub way : Way

-- an arm that makes the new body, and one that converts in two steps
abbrev pub makes : VectorType → VectorType → (ℕ → List ℕ → List ℕ) → Arm
makes k t new = record { source = k; target = t; way = in_one_step new }

abbrev pub goes_through : VectorType → VectorType → Arm
goes_through k t = record { source = k; target = t; way = in_two_steps }

abbrev pub arms : List Arm
unfolding singles doubles quantized_body
arms =
    makes Float32Dense Float64Dense (doubles Float32Dense)
    ∷ makes Float64Dense Float32Dense (singles Float64Dense)
    ∷ makes Float32Dense Float32Sparse (sparse_body binary32)
    ∷ makes Float64Dense Float32Sparse (sparse_body binary64)
    ∷ makes Float32Sparse Float32Dense (singles Float32Sparse)
    ∷ makes Float32Sparse Float64Dense (doubles Float32Sparse)
    ∷ makes Float32Dense Float1Bit (bit_body binary32)
    ∷ makes Float64Dense Float1Bit (bit_body binary64)
    ∷ makes Float1Bit Float32Dense (singles Float1Bit)
    ∷ makes Float1Bit Float64Dense (doubles Float1Bit)
    ∷ makes Float32Dense Float8 quantized_body
    ∷ makes Float64Dense Float8 (λ d body. quantized_body d (singles Float64Dense d body))
    ∷ makes Float8 Float32Dense (singles Float8)
    ∷ makes Float8 Float64Dense (doubles Float8)
    ∷ goes_through Float1Bit Float8
    ∷ goes_through Float8 Float1Bit
    ∷ goes_through Float1Bit Float32Sparse
    ∷ goes_through Float8 Float32Sparse
    ∷ goes_through Float32Sparse Float1Bit
    ∷ goes_through Float32Sparse Float8
    ∷ []

-- the first arm of this pair of kinds; the last one of the Rust catches what is left
abbrev pub first_arm : List Arm → VectorType → VectorType → Way
first_arm [] k t = unreachable
first_arm (a ∷ rest) k t = cond (has_byte (byte_of k) a.source && has_byte (byte_of t) a.target) a.way (first_arm rest k t)

-- equal kinds return before the match
unfoldable pub way_of : VectorType → VectorType → Way
way_of k t = cond (has_byte (byte_of t) k) copied (first_arm arms k t)

-- the body that is made of dims and body, where two steps make x
abbrev pub body_by : Way → List ℕ → ℕ → List ℕ → List ℕ
body_by copied x d body = body
body_by (in_one_step new) x d body = new d body
body_by in_two_steps x d body = x
body_by unreachable x d body = []

-- the body that the Rust makes: two steps are two calls, each of one step
unfoldable pub original_body : VectorType → VectorType → ℕ → List ℕ → List ℕ
unfolding way_of
original_body k t d body =
    let dense = body_by (way_of k Float32Dense) [] d body in
    body_by (way_of k t) (body_by (way_of Float32Dense t) [] d dense) d body
