-- Sparse blobs whose distances change when they become Float32Dense, one for each premise of `dense-form-same-distance` (proofs/DenseForm.antt):
-- one table, which antt computes, and what the strict mode answers to the blobs whose indices do not rise.
use Rattle.std.specs.Prelude.{◌≡◌, refl, List, [], ◌∷◌, ◌++◌, map, false, ℕ, eqb, Result, Ok, Err}
use Rattle.std.specs.Float.{Format, binary32, binary64}
use Rattle.std.specs.Float.Ieee.{add, sub, mul, div, neg, eq, lt, of_bits}
use Rattle.float_laws.specs.Running.{running}
use Rattle.little_endian.specs.Bytes.{number_at, bytes_of, put}
use Rattle.rounding.specs.Root.{root}
use Rattle.vector_types.specs.declared.View.{View}
use Rattle.vector_types.specs.declared.Refusal.{Refusal}
use Rattle.vector_types.specs.declared.Refusal.TheVariants.{SparseOrder}
use Rattle.vector_types.specs.Search.{first_from}
use Rattle.vector_types.specs.Layout.{named_kind, by_byte, length_before_type, body_fits, layout_row}
use Rattle.vector_types.specs.Read.{read_of, refusals, shown}
use Rattle.vector_types.specs.Parts.{body_of}
use Rattle.blob_writer.specs.Write.{tail_of, blob_of}
use Rattle.vector_types.specs.declared.VectorType.TheVariants.{Float32Sparse}
use Rattle.vector_types.specs.declared.Mode.TheVariants.{Plain, Strict}
use Rattle.convert_parts.specs.Spread.{spread}
use Rattle.convert_parts.specs.Result.{result_of}
use Rattle.distance_sums.specs.Extremes.{lesser, greater}
use Rattle.distance_sums.specs.Dense.{products_with, squares_with, dots_with, shares_with}
use Rattle.bodies.specs.Merged.{merged}
use Rattle.distance.specs.Answer.{counts, measured, distance_of}
use Rattle.distance_sums.specs.Examples.{one_bytes, two_bytes, nan_pattern}
use Rattle.distance.specs.declared.Counts.{Counts}
use Rattle.distance.specs.declared.Distance.{Distance}
use Rattle.distance.specs.declared.Distance.TheVariants.{Cos, L2, Dot, Jaccard}
use Rattle.distance.specs.declared.Measured.{Measured}
use Rattle.distance.specs.declared.refused.Refused.{Refused}
use Rattle.distance.specs.declared.Which.{Which}
use Rattle.vector_laws.specs.DenseForm.{dense_form}

-- two sparse blobs, the readings that they hold, and the patterns of their distance and of that of their dense forms
pub record Example : Type 0 where
  pub measure : Distance
  pub first_blob : List ℕ
  pub second_blob : List ℕ
  pub held : Counts
  pub sparse : ℕ
  pub dense : ℕ

-- a blob and its readings
abbrev pub Held : Type 0
Held = List ℕ × ℕ

-- both ways round
abbrev pub changes : Distance → Held → Held → ℕ → ℕ → List Example
changes measure (s, m) (t, n) x y =
    record { measure = measure; first_blob = s; second_blob = t; held = counts m n; sparse = x; dense = y }
    ∷ record { measure = measure; first_blob = t; second_blob = s; held = counts n m; sparse = x; dense = y }
    ∷ []

-- the dense form of a blob, by what the reader answers
abbrev pub dense_form_in : Format → Result View Refusal → List ℕ → List ℕ
dense_form_in f (Ok v) s = dense_form f s v
dense_form_in f (Err r) s = s

abbrev pub as_dense : Format → List ℕ → List ℕ
as_dense f s = dense_form_in f (read_of Plain s) s

-- a sparse blob of dims 2: the bytes of its values, and those of their indices
abbrev pub sparse_blob : List ℕ → List ℕ → List ℕ
sparse_blob values indices = blob_of Float32Sparse 2 (values ++ indices)

-- an index below 256
abbrev pub index_bytes : ℕ → List ℕ
index_bytes i = i ∷ 0 ∷ 0 ∷ 0 ∷ []

-- 1.0 at index 0, and at index 1
abbrev pub one_at_zero : List ℕ
one_at_zero = sparse_blob one_bytes (index_bytes 0)

abbrev pub one_at_one : List ℕ
one_at_one = sparse_blob one_bytes (index_bytes 1)

-- indices that repeat, and that fall
abbrev pub repeating : List ℕ
repeating = sparse_blob (one_bytes ++ two_bytes) (index_bytes 0 ++ index_bytes 0)

abbrev pub falling : List ℕ
falling = sparse_blob (one_bytes ++ two_bytes) (index_bytes 1 ++ index_bytes 0)

-- an infinity, at index 0
abbrev pub infinite : List ℕ
infinite = sparse_blob ((0 ∷ 0 ∷ 0x80 ∷ 0x7f ∷ []) ++ one_bytes) (index_bytes 0 ++ index_bytes 1)

-- 2 ^ -80, whose square is 0 as an f32; and 2 ^ -40, whose square is not, but the square of that is
abbrev pub tiny : List ℕ
tiny = sparse_blob (0 ∷ 0 ∷ 0x80 ∷ 0x17 ∷ []) (index_bytes 0)

abbrev pub small : ℕ → List ℕ
small i = sparse_blob (0 ∷ 0 ∷ 0x80 ∷ 0x2b ∷ []) (index_bytes i)

abbrev pub table : List Example
table =
    -- indices that repeat: the merge takes every entry, the dense form has the last of an index
    changes Cos (repeating, 2) (one_at_zero, 1) 0x3fe1_b06d_2000_0000 0
    ++ changes L2 (repeating, 2) (one_at_zero, 1) 0x4000_0000_0000_0000 0x3ff0_0000_0000_0000
    ++ changes Dot (repeating, 2) (one_at_zero, 1) 0xbff0_0000_0000_0000 0xc000_0000_0000_0000
    ++ changes Jaccard (repeating, 2) (one_at_zero, 1) 0x3fe5_5555_5000_0000 0x3fe0_0000_0000_0000
    -- indices that fall: the merge has passed by what both have
    ++ changes L2 (falling, 2) (one_at_zero, 1) 0x4003_988e_1409_212e 0x3ff6_a09e_667f_3bcd
    -- an infinity where the other has no entry: times +0.0 it is NaN
    ++ changes Dot (infinite, 2) (one_at_one, 1) 0xbff0_0000_0000_0000 nan_pattern
    ++ changes Cos (infinite, 2) (one_at_one, 1) 0x3ff0_0000_0000_0000 nan_pattern
    -- one norm is 0, and no other sum is
    ++ changes Cos (tiny, 1) (one_at_zero, 1) nan_pattern 0xfff0_0000_0000_0000
    -- the sum of products is 0, and no norm is
    ++ changes Cos (small 0, 1) (small 1, 1) nan_pattern 0x3ff0_0000_0000_0000

abbrev pub answer : ℕ → Counts → Result Measured (Refused Which)
answer bits c = Ok (measured (of_bits binary64 bits) c)

-- as they are, and as dense ones, which hold dims readings each: two
abbrev pub defined : Example → Result Measured (Refused Which) × Result Measured (Refused Which)
defined e =
    let s = e.first_blob in
    let t = e.second_blob in
    (distance_of e.measure s t, distance_of e.measure (as_dense binary32 s) (as_dense binary32 t))

pub table-holds : map defined table ≡ map (λ (e : Example). (answer e.sparse e.held, answer e.dense (counts 2 2))) table
unfolding distance_of read_of body_of named_kind by_byte length_before_type body_fits refusals shown first_from number_at bytes_of put layout_row tail_of blob_of result_of spread running root merged products_with squares_with dots_with shares_with lesser greater add sub mul div neg eq lt of_bits
table-holds = refl

-- and no two of them are one
pub all-change : map (λ (e : Example). eqb e.sparse e.dense) table ≡ map (λ (e : Example). false) table
all-change = refl

-- the strict mode refuses the two whose indices do not rise, and names entry 1
pub not-rising-refused : map (read_of Strict) (repeating ∷ falling ∷ []) ≡ Err (SparseOrder 1) ∷ Err (SparseOrder 1) ∷ []
unfolding read_of named_kind by_byte length_before_type body_fits refusals shown first_from number_at bytes_of put layout_row tail_of blob_of
not-rising-refused = refl
