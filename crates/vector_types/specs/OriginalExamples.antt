-- A blob for each outcome of the Rust's checks that is not dead: one table, which antt computes. So no other outcome is dead.
use Rattle.std.specs.Prelude.{◌≡◌, refl, List, [], ◌∷◌, ◌++◌, map, ℕ, replicate}
use Rattle.little_endian.specs.Bytes.{number_at}
use Rattle.vector_types.specs.Search.{first_from}
use Rattle.vector_types.specs.Original.{Outcome, one_bit_empty, one_bit_trailing, one_bit_full, float8_under_two, float8_under_ten, float8_trailing, unsupported_type, unknown_type, float32_length, float64_length, sparse_empty, sparse_not_words, sparse_not_entries, sparse_outside, one_bit_no_dims, float8_no_dims, float8_length, vector, from_slice, vector_type, by_type_byte, one_bit_type, float8_type, from_data_with_dims}
use Rattle.vector_types.specs.declared.VectorType.TheVariants.{Float32Dense, Float64Dense, Float32Sparse, Float1Bit, Float8}

pub record Ending : Type 0 where
  pub blob : List ℕ
  pub outcome : Outcome

abbrev pub ends : List ℕ → Outcome → Ending
ends s o = record { blob = s; outcome = o }

abbrev pub zeros : ℕ → List ℕ
zeros n = replicate n 0

abbrev pub table : List Ending
table =
    ends (3 ∷ []) one_bit_empty
    ∷ ends (0xaa ∷ 0x11 ∷ 3 ∷ []) one_bit_trailing
    ∷ ends (0xaa ∷ 7 ∷ 3 ∷ []) one_bit_full
    ∷ ends (4 ∷ []) float8_under_two
    ∷ ends (0 ∷ 0 ∷ 4 ∷ []) float8_under_ten
    ∷ ends (zeros 13 ++ (5 ∷ 4 ∷ [])) float8_trailing
    ∷ ends (5 ∷ []) unsupported_type
    ∷ ends (6 ∷ []) unsupported_type
    ∷ ends (7 ∷ []) unknown_type
    ∷ ends (0 ∷ 0 ∷ []) float32_length
    ∷ ends (0 ∷ 0 ∷ 2 ∷ []) float64_length
    ∷ ends (9 ∷ []) sparse_empty
    ∷ ends (0 ∷ 0 ∷ 9 ∷ []) sparse_not_words
    ∷ ends (zeros 8 ++ (9 ∷ [])) sparse_not_entries
    ∷ ends (zeros 4 ++ (2 ∷ 0 ∷ 0 ∷ 0 ∷ 2 ∷ 0 ∷ 0 ∷ 0 ∷ 9 ∷ [])) (sparse_outside 0)
    ∷ ends (0xaa ∷ 0x10 ∷ 3 ∷ []) one_bit_no_dims
    ∷ ends (zeros 13 ++ (4 ∷ 4 ∷ [])) float8_no_dims
    ∷ ends (zeros 12 ++ (4 ∷ [])) float8_length
    ∷ ends [] (vector Float32Dense 0 0)
    ∷ ends (1 ∷ []) (vector Float32Dense 0 0)
    ∷ ends (zeros 8 ++ (2 ∷ [])) (vector Float64Dense 1 8)
    ∷ ends (zeros 8 ++ (2 ∷ 0 ∷ 0 ∷ 0 ∷ 9 ∷ [])) (vector Float32Sparse 2 8)
    ∷ ends (0xaa ∷ 8 ∷ 3 ∷ []) (vector Float1Bit 8 1)
    ∷ ends (zeros 13 ++ (3 ∷ 4 ∷ [])) (vector Float8 1 12)
    ∷ []

pub table-holds : map (λ (e : Ending). from_slice e.blob) table ≡ map (λ (e : Ending). e.outcome) table
unfolding from_slice vector_type by_type_byte one_bit_type float8_type from_data_with_dims first_from number_at
table-holds = refl
