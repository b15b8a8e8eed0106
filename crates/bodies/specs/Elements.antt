-- The elements of a body, kind by kind.
use Rattle.std.specs.Prelude.{ℕ, ◌+◌, ◌*◌, Bool, List, eqb, pos, get_or, Float}
use Rattle.std.specs.Float.{fin, Format}
use Rattle.std.specs.Float.Ieee.{add, mul, of_int}
use Rattle.little_endian.specs.Bytes.{f32_at, float_at, width}
use Rattle.vector_types.specs.Layout.{ceil, bit_at}

-- element i of a dense body of the width f
abbrev pub dense_element : Format → List ℕ → ℕ → Float
dense_element f body i = float_at f body (width f * i)

-- 1.0, or with a minus sign -1.0
abbrev pub unit : Bool → Float
unit minus = fin minus 1 (pos 0)

-- element i of a 1-bit body: 1.0 where the bit is 1, -1.0 where it is 0
abbrev pub bit_element : List ℕ → ℕ → Float
bit_element body i = unit (eqb (bit_at body i) 0)

-- alpha and shift of a Float8 body of d elements stand after its bytes, padded to a multiple of 4
abbrev pub alpha_of : ℕ → List ℕ → Float
alpha_of d body = f32_at body (4 * ceil d 4)

abbrev pub shift_of : ℕ → List ℕ → Float
shift_of d body = f32_at body (4 * ceil d 4 + 4)

-- alpha * q + shift, with two roundings in the width f
abbrev pub scaled : Format → Float → Float → ℕ → Float
scaled f alpha shift q = add f (mul f alpha (of_int f (pos q))) shift

-- element i of a Float8 body of d elements, worked out in the width f
abbrev pub float8_element : Format → ℕ → List ℕ → ℕ → Float
float8_element f d body i = scaled f (alpha_of d body) (shift_of d body) (get_or body i 0)
