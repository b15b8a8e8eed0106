-- Cosine and dot of Float8 tell the two vectors apart: one pair of blobs, measured both ways, which antt computes.
use Rattle.std.specs.Prelude.{◌≡◌, refl, List, [], ◌∷◌, ◌++◌, map, ℕ, Result, Ok}
use Rattle.std.specs.Float.Ieee.{add, sub, mul, div, neg, of_int, of_bits}
use Rattle.std.specs.Float.{binary64}
use Rattle.float_laws.specs.Running.{total}
use Rattle.little_endian.specs.Bytes.{number_at}
use Rattle.rounding.specs.Root.{root}
use Rattle.vector_types.specs.Layout.{named_kind, by_byte, length_before_type, body_fits, layout_row}
use Rattle.vector_types.specs.Read.{read_of, refusals, shown}
use Rattle.vector_types.specs.Parts.{body_of}
use Rattle.distance.specs.Answer.{counts, measured, distance_of}
use Rattle.distance.specs.declared.Distance.{Distance}
use Rattle.distance.specs.declared.Distance.TheVariants.{Cos, Dot}
use Rattle.distance.specs.declared.Measured.{Measured}
use Rattle.distance.specs.declared.refused.Refused.{Refused}
use Rattle.distance.specs.declared.Which.{Which}

-- dims 1, the byte 1 and the shift 2 ^ -26, of some alpha
abbrev pub float8_blob : List ℕ → List ℕ
float8_blob alpha = (1 ∷ 0 ∷ 0 ∷ 0 ∷ []) ++ alpha ++ (0 ∷ 0 ∷ 0x80 ∷ 0x32 ∷ []) ++ 0 ∷ 3 ∷ 4 ∷ []

-- of alpha 2 ^ 26, and of alpha 2 ^ 27
abbrev pub low_alpha : List ℕ
low_alpha = float8_blob (0 ∷ 0 ∷ 0x80 ∷ 0x4c ∷ [])

abbrev pub high_alpha : List ℕ
high_alpha = float8_blob (0 ∷ 0 ∷ 0 ∷ 0x4d ∷ [])

abbrev pub both_ways : Distance → List (Result Measured (Refused Which))
both_ways m = distance_of m low_alpha high_alpha ∷ distance_of m high_alpha low_alpha ∷ []

-- each of the two holds one reading
abbrev pub patterns : List ℕ → List (Result Measured (Refused Which))
patterns = map (λ n. Ok (measured (of_bits binary64 n) (counts 1 1)))

-- the terms are 2 ^ 53, 1, 2 and 2 ^ -52, or 2 ^ 53, 2, 1 and 2 ^ -52: the sum is 2 ^ 53 + 2, or 2 ^ 53 + 4
pub dot-both-ways : both_ways Dot ≡ patterns (0xc340_0000_0000_0001 ∷ 0xc340_0000_0000_0002 ∷ [])
unfolding distance_of read_of body_of named_kind by_byte length_before_type body_fits refusals shown number_at layout_row total add mul neg of_int of_bits
dot-both-ways = refl

-- the root of the norms is 2 ^ 53 + 2: the cosine is 0, or -2 ^ -52
pub cosine-both-ways : both_ways Cos ≡ patterns (0 ∷ 0xbcb0_0000_0000_0000 ∷ [])
unfolding distance_of read_of body_of named_kind by_byte length_before_type body_fits refusals shown number_at layout_row total root add sub mul div of_int of_bits
cosine-both-ways = refl
