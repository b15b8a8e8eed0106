-- Examples of conversions: one table, and one statement about all of it, which antt computes. The results are the Rust's.
use Rattle.std.specs.Prelude.{◌≡◌, refl, List, [], ◌∷◌, ◌++◌, map, ℕ, replicate}
use Rattle.std.specs.Float.Ieee.{add, sub, mul, div, lt, eq, of_int, of_bits, to_bits}
use Rattle.rounding.specs.Narrow.{narrowed}
use Rattle.rounding.specs.Truncate.{truncated}
use Rattle.little_endian.specs.Bytes.{number_at, bytes_of, put}
use Rattle.vector_types.specs.declared.VectorType.{VectorType}
use Rattle.vector_types.specs.declared.VectorType.TheVariants.{Float32Dense, Float64Dense, Float32Sparse, Float1Bit, Float8}
use Rattle.convert_parts.specs.Pieces.{pieces_at}
use Rattle.convert_parts.specs.Spread.{spread}
use Rattle.convert_parts.specs.Result.{result_of}

-- a body of a kind and dims, and what it is as another kind
pub record Example : Type 0 where
  pub kind : VectorType
  pub dims : ℕ
  pub body : List ℕ
  pub target : VectorType
  pub result : List ℕ

abbrev pub becomes : VectorType → ℕ → List ℕ → VectorType → List ℕ → Example
becomes k d body t result = record { kind = k; dims = d; body = body; target = t; result = result }

-- the bytes of patterns of f32, or of indices, and of patterns of f64
abbrev pub words : List ℕ → List ℕ
words ns = pieces_at (bytes_of 4) ns

abbrev pub long_words : List ℕ → List ℕ
long_words ns = pieces_at (bytes_of 8) ns

-- patterns of f32: 1.0, -1.0, 2.0, -0.0, a NaN, and one with a payload
abbrev pub one : ℕ
one = 0x3f80_0000

abbrev pub minus_one : ℕ
minus_one = 0xbf80_0000

abbrev pub two : ℕ
two = 0x4000_0000

abbrev pub minus_zero : ℕ
minus_zero = 0x8000_0000

abbrev pub nan : ℕ
nan = 0x7fc0_0000

abbrev pub payload : ℕ
payload = 0x7fa0_0001

-- the f64 1e-60, which is 0.0 as an f32
abbrev pub tiny : List ℕ
tiny = long_words (0x3379_b604_aaac_a626 ∷ [])

-- sparse: 1.0 and then 2.0, both at index 1; and Float8: 3 and 255 by 0.5 from -1.0, and 3 by 0.1
abbrev pub twice : List ℕ
twice = words (one ∷ two ∷ 1 ∷ 1 ∷ [])

abbrev pub halves : List ℕ
halves = 3 ∷ 0xff ∷ 0 ∷ 0 ∷ words (0x3f00_0000 ∷ minus_one ∷ [])

abbrev pub tenths : List ℕ
tenths = 3 ∷ 0 ∷ 0 ∷ 0 ∷ words (0x3dcc_cccd ∷ 0 ∷ [])

abbrev pub table : List Example
table =
    -- to sparse: zeros of either sign are dropped, by the test of the element before it is rounded
    becomes Float32Dense 3 (words (one ∷ minus_zero ∷ two ∷ [])) Float32Sparse (words (one ∷ two ∷ 0 ∷ 2 ∷ []))
    ∷ becomes Float64Dense 1 tiny Float32Sparse (words (0 ∷ 0 ∷ []))
    -- from sparse: zeros, and the last of equal indices
    ∷ becomes Float32Sparse 2 twice Float32Dense (words (0 ∷ two ∷ []))
    ∷ becomes Float32Sparse 2 twice Float64Dense (long_words (0 ∷ 0x4000_0000_0000_0000 ∷ []))
    -- to 1-bit: 0.5 is positive; 0.0, -1.0 and NaN are not; the tiny element is
    ∷ becomes Float32Dense 4 (words (0x3f00_0000 ∷ 0 ∷ minus_one ∷ nan ∷ [])) Float1Bit (0x01 ∷ [])
    ∷ becomes Float64Dense 1 tiny Float1Bit (0x01 ∷ [])
    -- from 1-bit; a copy keeps the unused bits
    ∷ becomes Float1Bit 3 (0x05 ∷ []) Float32Dense (words (one ∷ minus_one ∷ one ∷ []))
    ∷ becomes Float1Bit 3 (0xfd ∷ []) Float1Bit (0xfd ∷ [])
    -- to Float8: 0.0 and 255.0; no element; elements that are equal; zeros, of which the first is the least; NaN, which is passed over; and nothing but NaN
    ∷ becomes Float32Dense 2 (words (0 ∷ 0x437f_0000 ∷ [])) Float8 (0x00 ∷ 0xff ∷ 0 ∷ 0 ∷ words (one ∷ 0 ∷ []))
    ∷ becomes Float32Dense 0 [] Float8 (replicate 8 0)
    ∷ becomes Float32Dense 2 (words (one ∷ one ∷ [])) Float8 (replicate 4 0 ++ words (0 ∷ one ∷ []))
    ∷ becomes Float32Dense 2 (words (minus_zero ∷ 0 ∷ [])) Float8 (replicate 4 0 ++ words (0 ∷ minus_zero ∷ []))
    ∷ becomes Float32Dense 3 (words (nan ∷ one ∷ two ∷ [])) Float8 (0x00 ∷ 0x00 ∷ 0xff ∷ 0 ∷ words (0x3b80_8081 ∷ one ∷ []))
    ∷ becomes Float32Dense 2 (words (nan ∷ nan ∷ [])) Float8 (replicate 4 0 ++ words (0xff80_0000 ∷ 0x7f80_0000 ∷ []))
    -- from Float8, in the width of the target
    ∷ becomes Float8 2 halves Float32Dense (words (0x3f00_0000 ∷ 0x42fd_0000 ∷ []))
    ∷ becomes Float8 1 tenths Float32Dense (words (0x3e99_999a ∷ []))
    ∷ becomes Float8 1 tenths Float64Dense (long_words (0x3fd3_3333_3800_0000 ∷ []))
    -- a NaN is kept where it is copied, and is the one NaN where it is widened
    ∷ becomes Float32Dense 1 (words (payload ∷ [])) Float32Sparse (words (payload ∷ 0 ∷ []))
    ∷ becomes Float32Sparse 1 (words (payload ∷ 0 ∷ [])) Float32Dense (words (payload ∷ []))
    ∷ becomes Float32Dense 1 (words (payload ∷ [])) Float64Dense (long_words (0x7ff8_0000_0000_0000 ∷ []))
    -- in two steps
    ∷ becomes Float32Sparse 3 (words (one ∷ minus_one ∷ 2 ∷ 0 ∷ [])) Float1Bit (0x04 ∷ [])
    ∷ becomes Float1Bit 3 (0x05 ∷ []) Float8 (0xff ∷ 0x00 ∷ 0xff ∷ 0 ∷ words (0x3c00_8081 ∷ minus_one ∷ []))
    ∷ []

pub table-holds : map (λ (e : Example). result_of e.kind e.target e.dims e.body) table ≡ map (λ (e : Example). e.result) table
unfolding result_of spread pieces_at narrowed truncated number_at bytes_of put add sub mul div lt eq of_int of_bits to_bits
table-holds = refl
