-- Numbers and floats in little-endian bytes, over how many bytes there are.
use Rattle.std.specs.Prelude.{ℕ, zero, suc, ◌+◌, ◌*◌, ◌/◌, ◌%◌, ◌^◌, ◌<◌, List, [], ◌∷◌, ◌++◌, length, get_or, take, drop, Float}
use Rattle.std.specs.Float.{Format, binary32, binary64}
use Rattle.std.specs.Float.Ieee.{of_bits, to_bits}

-- the number that the w bytes from i on compose, little end first: the byte at i + k counts 256 ^ k
unfoldable pub number_at : ℕ → List ℕ → ℕ → ℕ
number_at zero s i = 0
number_at (suc w) s i = number_at w s i + get_or s (i + w) 0 * 256 ^ w

-- the w bytes of a number, little end first
unfoldable pub bytes_of : ℕ → ℕ → List ℕ
bytes_of zero v = []
bytes_of (suc w) v = v % 256 ∷ bytes_of w (v / 256)

-- l with the bytes from i on replaced by vs
unfoldable pub put : List ℕ → ℕ → List ℕ → List ℕ
put l i vs = take i l ++ vs ++ drop (i + length vs) l

-- how many bytes a float has
abbrev pub width : Format → ℕ
width binary32 = 4
width binary64 = 8

-- the float at i: every NaN's pattern is the one `nan`
abbrev pub float_at : Format → List ℕ → ℕ → Float
float_at f s i = of_bits f (number_at (width f) s i)

-- the bytes of a float: those of `nan` are 7fc00000 or 7ff8000000000000
abbrev pub float_bytes : Format → Float → List ℕ
float_bytes f x = bytes_of (width f) (to_bits f x)

abbrev pub u32_at : List ℕ → ℕ → ℕ
u32_at s i = number_at 4 s i

abbrev pub f32_at : List ℕ → ℕ → Float
f32_at s i = float_at binary32 s i

abbrev pub f64_at : List ℕ → ℕ → Float
f64_at s i = float_at binary64 s i

-- every element is a byte
abbrev pub AreBytes : List ℕ → Type 0
AreBytes s = (k : ℕ) → get_or s k 0 < 256
