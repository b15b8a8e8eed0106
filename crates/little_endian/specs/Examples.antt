-- Worked examples, computed: floats in bytes, with what is written for each, and a number at an offset.
use Rattle.std.specs.Prelude.{◌≡◌, refl, true, false, List, [], ◌∷◌, ℕ, pos, negsuc, Float}
use Rattle.std.specs.Float.{nan, inf, fin, Format, binary32, binary64}
use Rattle.std.specs.Float.Ieee.{of_bits, to_bits}
use Rattle.little_endian.specs.Bytes.{number_at, bytes_of, put, float_at, float_bytes, u32_at}

-- the float that the bytes are in a format, and the bytes that are written for it
pub record Example : Type 0 where
  pub format : Format
  pub bytes : List ℕ
  pub float : Float
  pub written : List ℕ

-- a float that is written as it was read, and a NaN, whose bytes may be others
abbrev pub round_trip : Format → List ℕ → Float → Example
round_trip f b x = record { format = f; bytes = b; float = x; written = b }

abbrev pub any_nan : Format → List ℕ → List ℕ → Example
any_nan f b w = record { format = f; bytes = b; float = nan; written = w }

-- 1.0, -0.0, the smallest and the largest value, -infinity; NaNs of either sign, signalling or quiet, with any payload
abbrev pub table : List Example
table =
    round_trip binary32 (0x00 ∷ 0x00 ∷ 0x80 ∷ 0x3f ∷ []) (fin false 1 (pos 0))
    ∷ round_trip binary32 (0x00 ∷ 0x00 ∷ 0x00 ∷ 0x80 ∷ []) (fin true 0 (pos 0))
    ∷ round_trip binary32 (0x01 ∷ 0x00 ∷ 0x00 ∷ 0x00 ∷ []) (fin false 1 (negsuc 148))
    ∷ round_trip binary32 (0xff ∷ 0xff ∷ 0x7f ∷ 0x7f ∷ []) (fin false 0xffffff (pos 104))
    ∷ round_trip binary32 (0x00 ∷ 0x00 ∷ 0x80 ∷ 0xff ∷ []) (inf true)
    ∷ any_nan binary32 (0x01 ∷ 0x00 ∷ 0x80 ∷ 0x7f ∷ []) (0x00 ∷ 0x00 ∷ 0xc0 ∷ 0x7f ∷ [])
    ∷ any_nan binary32 (0x34 ∷ 0x12 ∷ 0xc0 ∷ 0xff ∷ []) (0x00 ∷ 0x00 ∷ 0xc0 ∷ 0x7f ∷ [])
    ∷ round_trip binary64 (0 ∷ 0 ∷ 0 ∷ 0 ∷ 0 ∷ 0 ∷ 0xf0 ∷ 0x3f ∷ []) (fin false 1 (pos 0))
    ∷ round_trip binary64 (0 ∷ 0 ∷ 0 ∷ 0 ∷ 0 ∷ 0 ∷ 0xf0 ∷ 0xff ∷ []) (inf true)
    ∷ any_nan binary64 (1 ∷ 0 ∷ 0 ∷ 0 ∷ 0 ∷ 0 ∷ 0xf0 ∷ 0xff ∷ []) (0 ∷ 0 ∷ 0 ∷ 0 ∷ 0 ∷ 0 ∷ 0xf8 ∷ 0x7f ∷ [])
    ∷ []

abbrev pub Holds : List Example → Type 0
Holds [] = Unit
Holds (e ∷ es) = (float_at e.format e.bytes 0 ≡ e.float) × (float_bytes e.format e.float ≡ e.written) × Holds es

pub table-holds : Holds table
unfolding number_at bytes_of of_bits to_bits
table-holds =
    (refl, refl, (refl, refl, (refl, refl, (refl, refl, (refl, refl, (refl, refl, (refl, refl, (refl, refl, (refl, refl, (refl, refl, tt))))))))))

-- 04030201 at offset 1, read and written
pub offset-example-holds :
    (u32_at (0xaa ∷ 0x01 ∷ 0x02 ∷ 0x03 ∷ 0x04 ∷ 0xbb ∷ []) 1 ≡ 0x04030201)
    × (put (0xaa ∷ 0 ∷ 0 ∷ 0 ∷ 0 ∷ 0xbb ∷ []) 1 (bytes_of 4 0x04030201) ≡ 0xaa ∷ 0x01 ∷ 0x02 ∷ 0x03 ∷ 0x04 ∷ 0xbb ∷ [])
unfolding number_at bytes_of put
offset-example-holds = (refl, refl)
