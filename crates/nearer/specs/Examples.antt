-- The nearer of two: one table, and one statement about all of it, which antt computes.
use Rattle.std.specs.Prelude.{◌≡◌, refl, List, [], ◌∷◌, ◌++◌, map, ℕ, Result, Ok, Err}
use Rattle.std.specs.Float.Ieee.{add, sub, mul, div, neg, eq, lt, le, is_nan, of_int, of_bits}
use Rattle.std.specs.Float.{binary64}
use Rattle.float_laws.specs.Running.{running, total}
use Rattle.little_endian.specs.Bytes.{number_at}
use Rattle.rounding.specs.Root.{root}
use Rattle.vector_types.specs.Answers.{readings}
use Rattle.vector_types.specs.Search.{first_from}
use Rattle.vector_types.specs.Layout.{named_kind, by_byte, length_before_type, body_fits, layout_row}
use Rattle.vector_types.specs.Read.{read_of, refusals, shown}
use Rattle.vector_types.specs.Parts.{body_of}
use Rattle.vector_types.specs.declared.Refusal.{Refusal}
use Rattle.vector_types.specs.declared.Refusal.TheVariants.{TypeByte5Or6, TypeByteUnknown, DimsDiffer, KindsDiffer, L2OfFloat1Bit, BothDistancesNan}
use Rattle.vector_types.specs.Examples.{sixty, ride}
use Rattle.bodies.specs.Merged.{merged}
use Rattle.distance_sums.specs.Dense.{squares_with}
use Rattle.distance_sums.specs.Examples.{zero_bytes, one_bytes}
use Rattle.distance.specs.Answer.{about, about_none}
use Rattle.distance.specs.Examples.{bits, no_entry, no_reading}
use Rattle.distance.specs.declared.Distance.{Distance}
use Rattle.distance.specs.declared.Distance.TheVariants.{Cos, L2, Dot}
use Rattle.distance.specs.declared.refused.Refused.{Refused}
use Rattle.nearer.specs.Nearer.{near, nearer_of}
use Rattle.nearer.specs.declared.Candidate.{Candidate}
use Rattle.nearer.specs.declared.Candidate.TheVariants.{First, Second}
use Rattle.nearer.specs.declared.Near.{Near}
use Rattle.nearer.specs.declared.Among.{Among}
use Rattle.nearer.specs.declared.Among.TheVariants.{Probe, First as TheFirst, Second as TheSecond}

-- what the definitions say of a probe and two candidates, and what the rules say
pub record Example : Type 0 where
  pub defined : Result Near (Refused Among)
  pub written : Result Near (Refused Among)

abbrev pub answers : Distance → List ℕ → List ℕ → List ℕ → Result Near (Refused Among) → Example
answers m p a b r = record { defined = nearer_of m p a b; written = r }

-- a candidate, its distance by its pattern, and its readings; a refusal that is about none
abbrev pub finds : Distance → List ℕ → List ℕ → List ℕ → Candidate → (pattern count : ℕ) → Example
finds m p a b c pattern count = answers m p a b (Ok (near c (of_bits binary64 pattern) (readings count)))

abbrev pub refuses : Distance → List ℕ → List ℕ → List ℕ → Refusal → Example
refuses m p a b r = answers m p a b (Err (about_none r))

-- dense f32: -0.0, -1.0 and a NaN
abbrev pub minus_zero_bytes : List ℕ
minus_zero_bytes = 0 ∷ 0 ∷ 0 ∷ 0x80 ∷ []

abbrev pub minus_one_bytes : List ℕ
minus_one_bytes = 0 ∷ 0 ∷ 0x80 ∷ 0xbf ∷ []

abbrev pub nan_bytes : List ℕ
nan_bytes = 0 ∷ 0 ∷ 0xc0 ∷ 0x7f ∷ []

-- a sparse blob of dims 3 with the reading 60 at index 0
abbrev pub one_reading : List ℕ
one_reading = sixty ++ zero_bytes ++ (3 ∷ 0 ∷ 0 ∷ 0 ∷ 9 ∷ [])

-- a Float8 blob of dims 1, its byte 0, with an alpha and a shift
abbrev pub scaled : List ℕ → List ℕ → List ℕ
scaled alpha shift = zero_bytes ++ alpha ++ shift ++ 0 ∷ 3 ∷ 4 ∷ []

abbrev pub table : List Example
table =
    finds Dot one_bytes zero_bytes one_bytes Second 0xbff0_0000_0000_0000 1
    ∷ finds Dot one_bytes one_bytes zero_bytes First 0xbff0_0000_0000_0000 1
    -- a tie of 0.0 and -0.0 gives the first, with its own sign
    ∷ finds Dot (scaled one_bytes one_bytes) (scaled minus_one_bytes minus_zero_bytes) (scaled zero_bytes zero_bytes) First 0 1
    ∷ finds Dot (scaled one_bytes one_bytes) (scaled zero_bytes zero_bytes) (scaled minus_one_bytes minus_zero_bytes) First 0x8000_0000_0000_0000 1
    -- the readings are the winner's own: the probe holds two, the first none, the second one
    ∷ finds L2 ride no_reading one_reading Second 0x4054_0000_0000_0000 1
    ∷ finds L2 ride one_reading no_reading First 0x4054_0000_0000_0000 1
    ∷ finds L2 no_reading ride no_reading Second 0 0
    -- NaN loses to a number; two of them give neither
    ∷ finds Dot one_bytes nan_bytes one_bytes Second 0xbff0_0000_0000_0000 1
    ∷ finds Dot one_bytes one_bytes nan_bytes First 0xbff0_0000_0000_0000 1
    ∷ refuses Cos no_entry no_entry no_entry BothDistancesNan
    -- 12 and 13 of the second are named before 14
    ∷ refuses L2 (bits 0xaa) (bits 0xab) one_bytes DimsDiffer
    ∷ refuses L2 (bits 0xaa) (bits 0xab) (8 ∷ 0 ∷ 0 ∷ 0 ∷ 9 ∷ []) KindsDiffer
    ∷ refuses L2 (bits 0xaa) (bits 0xab) (bits 0xac) L2OfFloat1Bit
    -- 13 of the first before 12 of the second
    ∷ refuses Dot (one_bytes ++ zero_bytes) no_entry one_bytes KindsDiffer
    -- the probe is read first, then the first and the second, before any two are compared
    ∷ answers Dot (0x07 ∷ []) (0x05 ∷ []) one_bytes (Err (about Probe TypeByteUnknown))
    ∷ answers Dot one_bytes (0x05 ∷ []) (0x07 ∷ []) (Err (about TheFirst TypeByte5Or6))
    ∷ answers Dot one_bytes no_entry (0x05 ∷ []) (Err (about TheSecond TypeByte5Or6))
    ∷ []

pub table-holds : map (λ (e : Example). e.defined) table ≡ map (λ (e : Example). e.written) table
unfolding nearer_of read_of body_of named_kind by_byte length_before_type body_fits refusals shown first_from number_at layout_row running total root merged squares_with add sub mul div neg eq lt le is_nan of_int of_bits
table-holds = refl
