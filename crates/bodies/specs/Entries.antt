-- The entries of a sparse body: k values, then k indices.
use Rattle.std.specs.Prelude.{ℕ, ◌*◌, ◌/◌, ◌<◌, List, length, Float}
use Rattle.little_endian.specs.Bytes.{f32_at}
use Rattle.vector_types.specs.Layout.{index_at}
use Rattle.vector_types.specs.Statements.{StrictlyIncreasing}

-- entry i stands at the index `index i` and has `value i`, for i below the count
pub record Entries : Type 0 where
  pub count : ℕ
  pub index : ℕ → ℕ
  pub value : ℕ → Float

-- how many entries a body has
abbrev pub stored_count : List ℕ → ℕ
stored_count body = length body / 8

abbrev pub entries_of : List ℕ → Entries
entries_of body = record { count = stored_count body; index = index_at body (stored_count body); value = λ i. f32_at body (4 * i) }

-- each index is above the one before it
abbrev pub Rising : Entries → Type 0
Rising v = StrictlyIncreasing v.index v.count

-- every index is below d
abbrev pub Below : Entries → ℕ → Type 0
Below v d = (i : ℕ) → i < v.count → v.index i < d
