-- The layouts of blobs: the table of docs/RULES.md, row by row.
use Rattle.std.specs.Prelude.{ℕ, ◌+◌, ◌-◌, ◌*◌, ◌/◌, ◌%◌, ◌^◌, Bool, false, cond, not, ◌&&◌, ◌||◌, List, leb, eqb, length, get_or, Result, Ok, Err}
use Rattle.little_endian.specs.Bytes.{u32_at}
use Rattle.vector_types.specs.Search.{any_index}
use Rattle.vector_types.specs.declared.VectorType.{VectorType}
use Rattle.vector_types.specs.declared.VectorType.TheVariants.{Float32Dense, Float64Dense, Float32Sparse, Float1Bit, Float8}
use Rattle.vector_types.specs.declared.KindError.{KindError}
use Rattle.vector_types.specs.declared.KindError.TheVariants.{Unsupported, Unknown}

-- the limits: the longest blob, and the greatest dims
abbrev pub max_blob_length : ℕ
max_blob_length = 524293

abbrev pub max_dims : ℕ
max_dims = 65536

-- a / b, rounded up
abbrev pub ceil : ℕ → ℕ → ℕ
ceil a b = (a + (b - 1)) / b

-- the byte that names a kind
abbrev pub byte_of : VectorType → ℕ
byte_of Float32Dense = 1
byte_of Float64Dense = 2
byte_of Float1Bit = 3
byte_of Float8 = 4
byte_of Float32Sparse = 9

abbrev pub has_byte : ℕ → VectorType → Bool
has_byte b k = eqb (byte_of k) b

-- the kinds whose blobs carry a trailing count
abbrev pub has_trailing_count : VectorType → Bool
has_trailing_count k = has_byte 3 k || has_byte 4 k

-- what a type byte names: a kind, one that is not supported, or nothing known
unfoldable pub by_byte : ℕ → Result VectorType KindError
by_byte b =
    cond (eqb b 1) (Ok Float32Dense)
    (cond (eqb b 2) (Ok Float64Dense)
    (cond (eqb b 3) (Ok Float1Bit)
    (cond (eqb b 4) (Ok Float8)
    (cond (eqb b 9) (Ok Float32Sparse)
    (cond (eqb b 5 || eqb b 6) (Err Unsupported) (Err Unknown))))))

-- a blob of even length names no kind and is Float32Dense; of odd length, the last byte names it
abbrev pub has_even_length : List ℕ → Bool
has_even_length s = eqb (length s % 2) 0

unfoldable pub named_kind : List ℕ → Result VectorType KindError
unfolding by_byte
named_kind s = cond (has_even_length s) (Ok Float32Dense) (by_byte (get_or s (length s - 1) 0))

-- n, how many bytes stand before the type byte: all, where there is none; and t, the last of these
unfoldable pub length_before_type : List ℕ → ℕ
length_before_type s = cond (has_even_length s) (length s) (length s - 1)

abbrev pub trailing_count : List ℕ → ℕ
unfolding length_before_type
trailing_count s = get_or s (length_before_type s - 1) 0

-- of a sparse blob: how many entries it has, its dims, and the index of entry j
abbrev pub entry_count : List ℕ → ℕ
unfolding length_before_type
entry_count s = length_before_type s / 8

abbrev pub sparse_dims : List ℕ → ℕ
unfolding length_before_type
sparse_dims s = u32_at s (length_before_type s - 4)

abbrev pub index_at : List ℕ → ℕ → ℕ → ℕ
index_at s k j = u32_at s (4 * k + 4 * j)

-- whether index j of the k of a sparse body is not below d
abbrev pub is_outside : List ℕ → ℕ → ℕ → ℕ → Bool
is_outside s k d j = leb d (index_at s k j)

-- whether a sparse body of a vector of d elements has an index that is not below d; another kind has none
abbrev pub has_index_outside : VectorType → ℕ → List ℕ → Bool
has_index_outside k d body = has_byte 9 k && any_index (is_outside body (length body / 8) d) (length body / 8)

-- a row of the table, the limits apart: when a blob is accepted, its dims, and how long its body is, which are its first bytes
pub record LayoutRow : Type 0 where
  pub accepted : Bool
  pub dims : ℕ
  pub body : ℕ

abbrev pub layout : Bool → ℕ → ℕ → LayoutRow
layout when d m = record { accepted = when; dims = d; body = m }

unfoldable pub layout_row : VectorType → List ℕ → LayoutRow
unfolding length_before_type
layout_row Float32Dense s = let n = length_before_type s in layout (eqb (n % 4) 0) (n / 4) n
layout_row Float64Dense s = let n = length_before_type s in layout (eqb (n % 8) 0) (n / 8) n
layout_row Float1Bit s =
    let n = length_before_type s in
    let t = trailing_count s in
    layout (leb 2 n && leb 8 t && leb t (8 * n - 1)) (8 * n - t) (ceil (8 * n - t) 8)
layout_row Float8 s =
    let n = length_before_type s in
    let t = trailing_count s in
    layout (leb 14 n && eqb ((n - 10) % 4) 0 && leb t 3) (n - 10 - t) (n - 2)
layout_row Float32Sparse s =
    let n = length_before_type s in
    let k = entry_count s in
    let d = sparse_dims s in
    layout (eqb n (4 + 8 * k) && not (any_index (is_outside s k d) k)) d (8 * k)

abbrev pub row_accepts : VectorType → List ℕ → Bool
row_accepts k s = (layout_row k s).accepted

abbrev pub dims_of : VectorType → List ℕ → ℕ
dims_of k s = (layout_row k s).dims

abbrev pub length_of : VectorType → List ℕ → ℕ
length_of k s = (layout_row k s).body

-- whether a blob is accepted, by its row and by the limits
unfoldable pub blob_accepted : Result VectorType KindError → List ℕ → Bool
blob_accepted (Ok k) s = row_accepts k s && leb (length s) max_blob_length && leb (dims_of k s) max_dims
blob_accepted (Err e) s = false

-- whether a body of m bytes is what a vector of d elements has; a sparse one has any number of entries
unfoldable pub body_fits : VectorType → ℕ → ℕ → Bool
body_fits Float32Dense d m = eqb m (4 * d)
body_fits Float64Dense d m = eqb m (8 * d)
body_fits Float32Sparse d m = eqb (m % 8) 0
body_fits Float1Bit d m = eqb m (ceil d 8)
body_fits Float8 d m = eqb m (4 * ceil d 4 + 8)

-- whether the length of a blob's body does not fit its kind and dims; after a sparse body the dims need four bytes
abbrev pub body_unfit : VectorType → List ℕ → Bool
unfolding body_fits
body_unfit k s = not (body_fits k (dims_of k s) (length_of k s)) || (has_byte 9 k && not (eqb (length_before_type s) (4 + length_of k s)))

-- bit i of a 1-bit body: byte i / 8, place i mod 8
abbrev pub bit_at : List ℕ → ℕ → ℕ
bit_at s i = get_or s (i / 8) 0 / 2 ^ (i % 8) % 2
