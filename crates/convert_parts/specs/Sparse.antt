-- To sparse, from a dense body of the width g: elements equal to 0.0, of either sign, are dropped.
use Rattle.std.specs.Prelude.{ℕ, ◌*◌, Bool, not, List, ◌++◌, take, drop, Float}
use Rattle.std.specs.Float.{Format, binary32, binary64}
use Rattle.std.specs.Float.Ieee.{eq}
use Rattle.float_laws.specs.Zero.{plus_zero}
use Rattle.rounding.specs.Narrow.{narrowed}
use Rattle.little_endian.specs.Bytes.{bytes_of, float_bytes}
use Rattle.bodies.specs.Elements.{dense_element}
use Rattle.convert_parts.specs.Pieces.{places_of, pieces_at}

abbrev pub is_nonzero : Float → Bool
is_nonzero x = not (eq x plus_zero)

-- the places below d that pass a test: their values, then their indices
unfoldable pub stored_body : (ℕ → Bool) → (ℕ → List ℕ) → ℕ → List ℕ
unfolding places_of pieces_at
stored_body p value d = let places = places_of p d in pieces_at value places ++ pieces_at (bytes_of 4) places

-- the value of element i: an f32 is copied, an f64 rounded
abbrev pub value_bytes : Format → List ℕ → ℕ → List ℕ
value_bytes binary32 body i = take 4 (drop (4 * i) body)
value_bytes binary64 body i = float_bytes binary32 (narrowed (dense_element binary64 body i))

-- the test is on the element before it is rounded
abbrev pub sparse_body : Format → ℕ → List ℕ → List ℕ
sparse_body g d body = stored_body (λ i. is_nonzero (dense_element g body i)) (value_bytes g body) d
