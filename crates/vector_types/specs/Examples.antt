-- Blobs that the two modes answer differently, counts of readings, and refusals that the customer's own examples (distance/specs/Examples.antt) do not have: one table, which antt computes.
-- The P examples of reading stand with those of distances, in the crate `distance`.
use Rattle.std.specs.Prelude.{◌≡◌, refl, List, [], ◌∷◌, ◌++◌, map, ℕ, ◌*◌, length, Result, Ok, Err}
use Rattle.little_endian.specs.Bytes.{number_at}
use Rattle.vector_types.specs.Answers.{dims, readings, number_of, accepted_as}
use Rattle.vector_types.specs.Search.{first_from}
use Rattle.vector_types.specs.Layout.{named_kind, by_byte, length_before_type, body_fits, layout_row}
use Rattle.vector_types.specs.Read.{read_of, refusals, shown}
use Rattle.vector_types.specs.declared.VectorType.{VectorType}
use Rattle.vector_types.specs.declared.VectorType.TheVariants.{Float32Dense, Float64Dense, Float32Sparse, Float1Bit, Float8}
use Rattle.vector_types.specs.declared.Refusal.{Refusal}
use Rattle.vector_types.specs.declared.Refusal.TheVariants.{LengthOverLimit, TypeByte5Or6, TypeByteUnknown, NoTrailingCount, TrailingCountTooLarge, TrailingBitsTooFew, BodyLengthUnfit, IndexNotBelowDims, DimsOverLimit, SparseOrder, UnusedBitSet, DimsDiffer, KindsDiffer, L2OfFloat1Bit, OutputTooShort, WriterDims0, ScratchTooShort, BothDistancesNan, FileEndsInside}
use Rattle.vector_types.specs.declared.View.{View}
use Rattle.vector_types.specs.declared.Mode.TheVariants.{Plain, Strict}

-- the answers in the plain mode and in the strict one
pub record Answers : Type 0 where
  pub plain : Result View Refusal
  pub strict : Result View Refusal

-- what the definitions answer to a blob, and what is expected
pub record Example : Type 0 where
  pub defined : Answers
  pub expected : Answers

abbrev pub answers : List ℕ → Result View Refusal → Result View Refusal → Example
answers s plain strict = record {
  defined = record { plain = read_of Plain s; strict = read_of Strict s };
  expected = record { plain = plain; strict = strict };
}

abbrev pub both_answer : List ℕ → Result View Refusal → Example
both_answer s r = answers s r r

abbrev pub both_refuse : List ℕ → Refusal → Example
both_refuse s r = both_answer s (Err r)

-- the bytes of the value 1.0, once for each of these indices, and those of the indices, each below 256
abbrev pub ones_at : List ℕ → List ℕ
ones_at [] = []
ones_at (i ∷ is) = 0 ∷ 0 ∷ 0x80 ∷ 0x3f ∷ ones_at is

abbrev pub index_bytes_at : List ℕ → List ℕ
index_bytes_at [] = []
index_bytes_at (i ∷ is) = i ∷ 0 ∷ 0 ∷ 0 ∷ index_bytes_at is

-- a sparse blob of dims 4 with the value 1.0 at each of these indices
abbrev pub sparse_at : List ℕ → List ℕ
sparse_at is = ones_at is ++ index_bytes_at is ++ (4 ∷ 0 ∷ 0 ∷ 0 ∷ 9 ∷ [])

abbrev pub both_show : List ℕ → Example
both_show is = both_answer (sparse_at is) (accepted_as Float32Sparse 4 (8 * length is))

-- the strict mode alone refuses it, and names an entry
abbrev pub strict_names : List ℕ → ℕ → Example
strict_names is entry = answers (sparse_at is) (accepted_as Float32Sparse 4 (8 * length is)) (Err (SparseOrder entry))

-- an answer with its count of readings written out
abbrev pub holding : VectorType → (d m count : ℕ) → Result View Refusal
holding k d m count = Ok (record { kind = k; dims = dims d; length = m; readings = readings count })

-- the readings 60 and 80 as f32, and a ride of dims 3 that holds them, its middle reading absent
abbrev pub sixty : List ℕ
sixty = 0 ∷ 0 ∷ 0x70 ∷ 0x42 ∷ []

abbrev pub eighty : List ℕ
eighty = 0 ∷ 0 ∷ 0xa0 ∷ 0x42 ∷ []

abbrev pub ride : List ℕ
ride = sixty ++ eighty ++ index_bytes_at (0 ∷ 2 ∷ []) ++ (3 ∷ 0 ∷ 0 ∷ 0 ∷ 9 ∷ [])

-- two readings in the one place of a vector of dims 1
abbrev pub twice_at_zero : List ℕ
twice_at_zero = ones_at (0 ∷ 0 ∷ []) ++ index_bytes_at (0 ∷ 0 ∷ []) ++ (1 ∷ 0 ∷ 0 ∷ 0 ∷ 9 ∷ [])

-- a 1-bit blob of five elements in the byte b
abbrev pub five : ℕ → List ℕ
five b = b ∷ 11 ∷ 3 ∷ []

abbrev pub table : List Example
table =
    both_show []
    ∷ both_show (0 ∷ [])
    ∷ both_show (1 ∷ 2 ∷ [])
    -- 10 names the first entry that is not above the one before it: equal neighbours first, last, before a fall and after one
    ∷ strict_names (0 ∷ 0 ∷ []) 1
    ∷ strict_names (1 ∷ 1 ∷ 2 ∷ []) 1
    ∷ strict_names (1 ∷ 2 ∷ 2 ∷ []) 2
    ∷ strict_names (1 ∷ 2 ∷ 2 ∷ 0 ∷ []) 2
    ∷ strict_names (1 ∷ 2 ∷ 0 ∷ 0 ∷ []) 2
    ∷ strict_names (2 ∷ 1 ∷ []) 1
    -- 8 names the first entry that is not below dims, and comes before 10
    ∷ both_refuse (sparse_at (5 ∷ 1 ∷ [])) (IndexNotBelowDims 0)
    ∷ both_refuse (sparse_at (1 ∷ 4 ∷ [])) (IndexNotBelowDims 1)
    ∷ both_refuse (sparse_at (4 ∷ 9 ∷ [])) (IndexNotBelowDims 0)
    ∷ both_refuse (sparse_at (1 ∷ 1 ∷ 4 ∷ [])) (IndexNotBelowDims 2)
    ∷ both_answer (five 0x1f) (accepted_as Float1Bit 5 1)
    ∷ answers (five 0x3f) (accepted_as Float1Bit 5 1) (Err UnusedBitSet)
    -- readings: stored entries, whatever the dims, zeros too; of every other kind the dims
    ∷ both_answer ride (holding Float32Sparse 3 16 2)
    ∷ both_answer (3 ∷ 0 ∷ 0 ∷ 0 ∷ 9 ∷ []) (holding Float32Sparse 3 0 0)
    ∷ answers twice_at_zero (holding Float32Sparse 1 16 2) (Err (SparseOrder 1))
    ∷ both_answer ((0 ∷ 0 ∷ 0 ∷ 0 ∷ []) ++ index_bytes_at (1 ∷ []) ++ (3 ∷ 0 ∷ 0 ∷ 0 ∷ 9 ∷ [])) (holding Float32Sparse 3 8 1)
    ∷ both_answer [] (holding Float32Dense 0 0 0)
    ∷ both_answer (0 ∷ 0 ∷ 0 ∷ 0 ∷ 0 ∷ 0 ∷ 0 ∷ 0 ∷ []) (holding Float32Dense 2 8 2)
    ∷ both_answer (0 ∷ 0 ∷ 0 ∷ 0 ∷ 0 ∷ 0 ∷ 0 ∷ 0 ∷ 2 ∷ []) (holding Float64Dense 1 8 1)
    ∷ both_answer (five 0x1f) (holding Float1Bit 5 1 5)
    ∷ both_answer (ones_at (0 ∷ 0 ∷ 0 ∷ []) ++ (0 ∷ 3 ∷ 4 ∷ [])) (holding Float8 1 12 1)
    ∷ both_refuse (0x07 ∷ []) TypeByteUnknown
    ∷ both_refuse (0x09 ∷ []) BodyLengthUnfit
    ∷ both_refuse (1 ∷ 0 ∷ 1 ∷ 0 ∷ 9 ∷ []) DimsOverLimit
    -- 8 comes before 9 and 9 before 10: the dims are 65,537, and an index is as great, or two indices are equal
    ∷ both_refuse (ones_at (0 ∷ []) ++ (1 ∷ 0 ∷ 1 ∷ 0 ∷ 1 ∷ 0 ∷ 1 ∷ 0 ∷ 9 ∷ [])) (IndexNotBelowDims 0)
    ∷ both_refuse (ones_at (0 ∷ 0 ∷ []) ++ index_bytes_at (0 ∷ 0 ∷ []) ++ (1 ∷ 0 ∷ 1 ∷ 0 ∷ 9 ∷ [])) DimsOverLimit
    ∷ []

pub table-holds : map (λ (e : Example). e.defined) table ≡ map (λ (e : Example). e.expected) table
unfolding read_of named_kind by_byte length_before_type body_fits refusals shown first_from number_at layout_row
table-holds = refl

-- every refusal, in the order of their numbers
abbrev pub all_refusals : ℕ → List Refusal
all_refusals x =
    LengthOverLimit ∷ TypeByte5Or6 ∷ TypeByteUnknown ∷ NoTrailingCount ∷ TrailingCountTooLarge ∷ TrailingBitsTooFew ∷ BodyLengthUnfit
    ∷ IndexNotBelowDims x ∷ DimsOverLimit ∷ SparseOrder x ∷ UnusedBitSet ∷ DimsDiffer ∷ KindsDiffer ∷ L2OfFloat1Bit ∷ OutputTooShort x
    ∷ WriterDims0 ∷ ScratchTooShort x ∷ BothDistancesNan ∷ FileEndsInside x ∷ []

pub numbers-hold : (x : ℕ) → map number_of (all_refusals x) ≡ 1 ∷ 2 ∷ 3 ∷ 4 ∷ 5 ∷ 6 ∷ 7 ∷ 8 ∷ 9 ∷ 10 ∷ 11 ∷ 12 ∷ 13 ∷ 14 ∷ 15 ∷ 16 ∷ 17 ∷ 18 ∷ 19 ∷ []
numbers-hold x = refl
