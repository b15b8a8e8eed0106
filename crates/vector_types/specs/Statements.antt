-- What the modes ask of indices and unused bits, as statements about every one of them, without a test; and what a refusal carries.
use Rattle.std.specs.Prelude.{ℕ, suc, ◌-◌, ◌*◌, ◌<◌, ◌≤◌, ◌≡◌, Bool, true, false, List}
use Rattle.vector_types.specs.Layout.{index_at, bit_at}
use Rattle.vector_types.specs.declared.Detail.{Detail}
use Rattle.vector_types.specs.declared.Detail.TheVariants.{Needs, Entry}

-- each of the k indices of a sparse body is below d
abbrev pub IndicesBelow : List ℕ → ℕ → ℕ → Type 0
IndicesBelow s k d = (j : ℕ) → j < k → index_at s k j < d

-- j is the first of the k entries of a sparse body whose index is not below d
pub record FirstOutside (s : List ℕ) (k d j : ℕ) : Type 0 where
  pub entry : j < k
  pub outside : d ≤ index_at s k j
  pub before : (i : ℕ) → i < j → index_at s k i < d

-- each of the first n numbers of f, but for the first, is above the one before it
abbrev pub StrictlyIncreasing : (ℕ → ℕ) → ℕ → Type 0
StrictlyIncreasing f n = (j : ℕ) → suc j < n → f j < f (suc j)

-- the k indices of a sparse body rise, so none stands twice
abbrev pub IndicesRise : List ℕ → ℕ → Type 0
IndicesRise s k = StrictlyIncreasing (index_at s k) k

-- j is the first of the k entries of a sparse body whose index is not above that of the entry before it; entry 0 has none before it
pub record FirstNotAbove (s : List ℕ) (k j : ℕ) : Type 0 where
  pub entry : j < k
  pub positive : 0 < j
  pub not_above : index_at s k j ≤ index_at s k (j - 1)
  pub before : StrictlyIncreasing (index_at s k) j

-- the bits of a 1-bit body of m bytes that stand for none of the d elements are zero
abbrev pub UnusedZero : List ℕ → ℕ → ℕ → Type 0
UnusedZero s d m = (i : ℕ) → d ≤ i → i < 8 * m → bit_at s i ≡ 0

-- whether a refusal names an entry, and whether it tells how long a buffer would have to be
abbrev pub names_entry : Detail → Bool
names_entry (Entry entry) = true
names_entry _ = false

abbrev pub tells_need : Detail → Bool
tells_need (Needs need) = true
tells_need _ = false
