-- The dot of two 1-bit blobs, and of the two as Float32Dense and as Float64Dense: one table, which antt computes. In the third pair one blob has an
-- unused bit set, and the dots differ; the strict mode refuses that blob.
use Rattle.std.specs.Prelude.{◌≡◌, refl, List, [], ◌∷◌, map, ℕ, Result, Err}
use Rattle.std.specs.Float.{binary32, binary64}
use Rattle.std.specs.Float.Ieee.{add, mul, neg, of_int, of_bits, to_bits}
use Rattle.float_laws.specs.Running.{running, total}
use Rattle.little_endian.specs.Bytes.{number_at, bytes_of}
use Rattle.vector_types.specs.Answers.{accepted_as}
use Rattle.vector_types.specs.Search.{first_from}
use Rattle.vector_types.specs.Layout.{named_kind, by_byte, length_before_type, body_fits, layout_row}
use Rattle.vector_types.specs.Read.{read_of, refusals, shown}
use Rattle.vector_types.specs.Parts.{body_of}
use Rattle.vector_types.specs.declared.VectorType.TheVariants.{Float1Bit}
use Rattle.vector_types.specs.declared.Mode.TheVariants.{Strict}
use Rattle.blob_writer.specs.Write.{tail_of, blob_of}
use Rattle.convert_parts.specs.Pieces.{pieces}
use Rattle.convert_parts.specs.Result.{result_of}
use Rattle.distance.specs.Answer.{counts, distance_of}
use Rattle.distance.specs.declared.Distance.TheVariants.{Dot}
use Rattle.distance.specs.declared.Measured.{Measured}
use Rattle.distance.specs.declared.refused.Refused.{Refused}
use Rattle.distance.specs.declared.Which.{Which}
use Rattle.vector_types.specs.declared.Refusal.TheVariants.{UnusedBitSet}
use Rattle.vector_laws.specs.DenseFormExamples.{answer, as_dense}

-- two blobs of so many elements, the pattern of their dot, and that of both dense forms
pub record Pair : Type 0 where
  pub first_blob : List ℕ
  pub second_blob : List ℕ
  pub dims : ℕ
  pub one_bit : ℕ
  pub dense : ℕ

abbrev pub pair : List ℕ → List ℕ → ℕ → ℕ → ℕ → Pair
pair s t d x y = record { first_blob = s; second_blob = t; dims = d; one_bit = x; dense = y }

-- one element, 1.0; the second has an unused bit set
abbrev pub none_set : List ℕ
none_set = 1 ∷ 0x0f ∷ 3 ∷ []

abbrev pub one_set : List ℕ
one_set = 3 ∷ 0x0f ∷ 3 ∷ []

abbrev pub table : List Pair
table =
    -- 1, -1 and 1, 1: the sum is 0, and its negation -0.0
    pair (1 ∷ 0x0e ∷ 3 ∷ []) (3 ∷ 0x0e ∷ 3 ∷ []) 2 0x8000_0000_0000_0000 0x8000_0000_0000_0000
    -- eight elements, of which seven agree
    ∷ pair (0xaa ∷ 8 ∷ 3 ∷ []) (0xab ∷ 8 ∷ 3 ∷ []) 8 0xc018_0000_0000_0000 0xc018_0000_0000_0000
    -- an unused bit set in one alone counts as one that differs: 1.0, where the elements give -1.0
    ∷ pair none_set one_set 1 0x3ff0_0000_0000_0000 0xbff0_0000_0000_0000
    -- set in both it does not
    ∷ pair one_set one_set 1 0xbff0_0000_0000_0000 0xbff0_0000_0000_0000
    ∷ []

-- as 1-bit blobs, as Float32Dense and as Float64Dense; all hold dims readings
abbrev pub defined : Pair → List (Result Measured (Refused Which))
defined p =
    let s = p.first_blob in
    let t = p.second_blob in
    distance_of Dot s t ∷ distance_of Dot (as_dense binary32 s) (as_dense binary32 t) ∷ distance_of Dot (as_dense binary64 s) (as_dense binary64 t) ∷ []

abbrev pub stated : Pair → List (Result Measured (Refused Which))
stated p = map (λ (n : ℕ). answer n (counts p.dims p.dims)) (p.one_bit ∷ p.dense ∷ p.dense ∷ [])

pub table-holds : map defined table ≡ map stated table
unfolding distance_of read_of body_of named_kind by_byte length_before_type body_fits refusals shown number_at bytes_of layout_row tail_of blob_of result_of pieces running total add mul neg of_int of_bits to_bits
table-holds = refl

pub unused-set-refused : map (read_of Strict) (none_set ∷ one_set ∷ []) ≡ accepted_as Float1Bit 1 1 ∷ Err UnusedBitSet ∷ []
unfolding read_of named_kind by_byte length_before_type body_fits refusals shown layout_row first_from
unused-set-refused = refl
