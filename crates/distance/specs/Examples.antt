-- The customer's examples marked P, reading and distances: one table with one statement about all of it, which antt computes; and a table of others.
use Rattle.std.specs.Prelude.{◌≡◌, refl, List, [], ◌∷◌, ◌++◌, map, ℕ, Result, Ok, Err}
use Rattle.std.specs.Float.Ieee.{add, sub, mul, div, neg, eq, lt, of_int, of_bits}
use Rattle.std.specs.Float.{binary64}
use Rattle.float_laws.specs.Running.{running, total}
use Rattle.little_endian.specs.Bytes.{number_at}
use Rattle.rounding.specs.Root.{root}
use Rattle.vector_types.specs.Answers.{accepted_as}
use Rattle.vector_types.specs.Search.{first_from}
use Rattle.vector_types.specs.Layout.{named_kind, by_byte, length_before_type, body_fits, layout_row}
use Rattle.vector_types.specs.Read.{read_of, refusals, shown}
use Rattle.vector_types.specs.Parts.{body_of}
use Rattle.vector_types.specs.declared.VectorType.TheVariants.{Float32Dense, Float1Bit, Float8}
use Rattle.vector_types.specs.declared.Refusal.{Refusal}
use Rattle.vector_types.specs.declared.Refusal.TheVariants.{TypeByte5Or6, TypeByteUnknown, NoTrailingCount, TrailingCountTooLarge, TrailingBitsTooFew, BodyLengthUnfit, IndexNotBelowDims, DimsDiffer, KindsDiffer, L2OfFloat1Bit}
use Rattle.vector_types.specs.declared.View.{View}
use Rattle.vector_types.specs.declared.Mode.TheVariants.{Plain}
use Rattle.vector_types.specs.Examples.{ride, twice_at_zero}
use Rattle.bodies.specs.Merged.{merged}
use Rattle.distance_sums.specs.Dense.{squares_with}
use Rattle.distance_sums.specs.Examples.{zero_bytes as zero, one_bytes as one, nan_pattern as nan}
use Rattle.distance.specs.Answer.{about, about_none, counts, measured, distance_of}
use Rattle.distance.specs.declared.Distance.{Distance}
use Rattle.distance.specs.declared.Distance.TheVariants.{Cos, L2, Dot, Jaccard}
use Rattle.distance.specs.declared.Which.{Which}
use Rattle.distance.specs.declared.Which.TheVariants.{First, Second}
use Rattle.distance.specs.declared.Measured.{Measured}
use Rattle.distance.specs.declared.refused.Refused.{Refused}

-- what a blob shows, and its body; or the distance of two
pub data Answer : Type 0 where
  read : Result View Refusal → List ℕ → Answer
  distance : Result Measured (Refused Which) → Answer

-- what the definitions say, and what the customer says
pub record Example : Type 0 where
  pub defined : Answer
  pub expected : Answer

-- a blob, what it shows in the plain mode, and the body shown
abbrev pub shows : List ℕ → Result View Refusal → List ℕ → Example
shows s r body = record { defined = read (read_of Plain s) (body_of s); expected = read r body }

abbrev pub refuses : List ℕ → Refusal → Example
refuses s r = shows s (Err r) []

-- two blobs and what the distance of them is
abbrev pub answers : Distance → List ℕ → List ℕ → Result Measured (Refused Which) → Example
answers m a b r = record { defined = distance (distance_of m a b); expected = distance r }

-- two blobs, the readings that each holds, and their distance, by its pattern
abbrev pub measures : Distance → List ℕ → List ℕ → ℕ → ℕ → Example
measures m a b n bits = answers m a b (Ok (measured (of_bits binary64 bits) (counts n n)))

-- a Float8 body of dims 1 (the byte 7, alpha 1.0, shift 0.0), and its blob of 15 bytes with the trailing count t
abbrev pub seven : List ℕ
seven = (7 ∷ 0 ∷ 0 ∷ 0 ∷ []) ++ one ++ zero

abbrev pub fifteen : ℕ → List ℕ
fifteen t = seven ++ (0 ∷ t ∷ 4 ∷ [])

-- sparse blobs of dims 2 with the index 2, and with the indices 1 and 5
abbrev pub index_two : List ℕ
index_two = one ++ (2 ∷ 0 ∷ 0 ∷ 0 ∷ 2 ∷ 0 ∷ 0 ∷ 0 ∷ 9 ∷ [])

abbrev pub wrong_entry : List ℕ
wrong_entry = one ++ one ++ (1 ∷ 0 ∷ 0 ∷ 0 ∷ 5 ∷ 0 ∷ 0 ∷ 0 ∷ 2 ∷ 0 ∷ 0 ∷ 0 ∷ 9 ∷ [])

-- 1-bit blobs of dims 8
abbrev pub bits : ℕ → List ℕ
bits byte = byte ∷ 0x08 ∷ 0x03 ∷ []

-- dense f32: 3.0, 4.0
abbrev pub three : List ℕ
three = 0 ∷ 0 ∷ 0x40 ∷ 0x40 ∷ []

abbrev pub four : List ℕ
four = 0 ∷ 0 ∷ 0x80 ∷ 0x40 ∷ []

-- a sparse blob of dims 2 with no entry, and a Float8 blob of dims 1 whose alpha and shift are 0
abbrev pub no_entry : List ℕ
no_entry = 2 ∷ 0 ∷ 0 ∷ 0 ∷ 9 ∷ []

-- of dims 3 with no entry, and of dims 1 with 1.0 at index 0
abbrev pub no_reading : List ℕ
no_reading = 3 ∷ 0 ∷ 0 ∷ 0 ∷ 9 ∷ []

abbrev pub once_at_zero : List ℕ
once_at_zero = one ++ zero ++ (1 ∷ 0 ∷ 0 ∷ 0 ∷ 9 ∷ [])

abbrev pub unscaled : List ℕ
unscaled = (7 ∷ 0 ∷ 0 ∷ 0 ∷ []) ++ zero ++ zero ++ 0 ∷ 3 ∷ 4 ∷ []

-- Every row is one of the customer's examples marked P, in the paper's order and words
abbrev pub document_table : List Example
document_table =
    -- P: empty blob, dims 0
    shows [] (accepted_as Float32Dense 0 0) []
    -- P: `01`, Float32Dense, dims 0
    ∷ shows (0x01 ∷ []) (accepted_as Float32Dense 0 0) []
    -- P: `05`, 2
    ∷ refuses (0x05 ∷ []) TypeByte5Or6
    -- P: `03`, 4
    ∷ refuses (0x03 ∷ []) NoTrailingCount
    -- P: `aa 08 03`, dims 8, body `aa`
    ∷ shows (bits 0xaa) (accepted_as Float1Bit 8 1) (0xaa ∷ [])
    -- P: `aa 07 03`, 6
    ∷ refuses (0xaa ∷ 0x07 ∷ 0x03 ∷ []) TrailingBitsTooFew
    -- P: `aa 10 03`, 7
    ∷ refuses (0xaa ∷ 0x10 ∷ 0x03 ∷ []) BodyLengthUnfit
    -- P: `aa 11 03`, 5
    ∷ refuses (0xaa ∷ 0x11 ∷ 0x03 ∷ []) TrailingCountTooLarge
    -- P: Float8 with L = 15: t = 3 gives dims 1; t = 4 gives 7; t = 5 gives 5
    ∷ shows (fifteen 3) (accepted_as Float8 1 12) seven
    ∷ refuses (fifteen 4) BodyLengthUnfit
    ∷ refuses (fifteen 5) TrailingCountTooLarge
    -- P: sparse, index 2, dims 2: 8; it names entry 0
    ∷ refuses index_two (IndexNotBelowDims 0)
    -- P: 1-bit `aa`, `ab` (dims 8): cosine 1.0, Jaccard 3fc9999999999998
    ∷ measures Cos (bits 0xaa) (bits 0xab) 8 0x3ff0_0000_0000_0000
    ∷ measures Jaccard (bits 0xaa) (bits 0xab) 8 0x3fc9_9999_9999_9998
    -- P: dense f32 (0,0), (3,4): L2 4014000000000000
    ∷ measures L2 (zero ++ zero) (three ++ four) 2 0x4014_0000_0000_0000
    ∷ []

-- examples that the paper does not mark
abbrev pub further_table : List Example
further_table =
    -- those that it runs only
    measures Dot (one ++ zero) (zero ++ one) 2 0x8000_0000_0000_0000
    ∷ measures Cos unscaled unscaled 1 nan
    -- those of the program's lines
    ∷ measures Cos [] [] 0 0
    ∷ measures Dot (bits 0xaa) (bits 0xab) 8 0xc018_0000_0000_0000
    ∷ answers L2 (bits 0xaa) (bits 0xab) (Err (about_none L2OfFloat1Bit))
    ∷ answers Cos (0x07 ∷ []) (0x05 ∷ []) (Err (about First TypeByteUnknown))
    ∷ measures Cos no_entry no_entry 0 nan
    -- the empty dot, and L2 of empty vectors
    ∷ measures Dot [] [] 0 0x8000_0000_0000_0000
    ∷ measures L2 [] [] 0 0
    -- each count is that of its own blob, whichever comes first; two readings in one place are two
    ∷ answers L2 ride no_reading (Ok (measured (of_bits binary64 0x4059_0000_0000_0000) (counts 2 0)))
    ∷ answers L2 no_reading ride (Ok (measured (of_bits binary64 0x4059_0000_0000_0000) (counts 0 2)))
    ∷ answers L2 twice_at_zero once_at_zero (Ok (measured (of_bits binary64 0x3ff0_0000_0000_0000) (counts 2 1)))
    -- which entry is wrong, in the first blob and in the second
    ∷ answers Cos wrong_entry no_entry (Err (about First (IndexNotBelowDims 1)))
    ∷ answers Cos no_entry wrong_entry (Err (about Second (IndexNotBelowDims 1)))
    -- the second blob is read before the two are compared; dims are compared before kinds
    ∷ answers Cos one (0x05 ∷ []) (Err (about Second TypeByte5Or6))
    ∷ answers Cos one no_entry (Err (about_none DimsDiffer))
    ∷ answers Cos (one ++ zero) no_entry (Err (about_none KindsDiffer))
    ∷ []

abbrev pub Holds : List Example → Type 0
Holds table = map (λ (e : Example). e.defined) table ≡ map (λ (e : Example). e.expected) table

pub document-table-holds : Holds document_table
unfolding distance_of read_of body_of named_kind by_byte length_before_type body_fits refusals shown first_from number_at layout_row running total root add sub mul div neg eq lt of_int of_bits
document-table-holds = refl

pub further-table-holds : Holds further_table
unfolding distance_of read_of body_of named_kind by_byte length_before_type body_fits refusals shown first_from number_at layout_row running total root merged squares_with add sub mul div neg eq lt of_int of_bits
further-table-holds = refl
