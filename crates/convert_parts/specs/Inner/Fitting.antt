-- What a conversion asks of a body, and the reader promises of every one that it shows.
use Rattle.std.specs.Prelude.{◌≡◌, true, false, List, ℕ, ◌≤◌, length}
use Rattle.vector_types.specs.Layout.{max_dims, body_fits, has_index_outside}
use Rattle.vector_types.specs.declared.VectorType.{VectorType}

-- a body of a kind and d elements
pub record Fitting (k : VectorType) (d : ℕ) (body : List ℕ) : Type 0 where
  pub limited : d ≤ max_dims
  pub fit : body_fits k d (length body) ≡ true
  pub inside : has_index_outside k d body ≡ false
