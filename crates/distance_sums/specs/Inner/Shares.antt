-- The sums of Jaccard by our choice of the lesser and the greater.
use Rattle.std.specs.Prelude.{ℕ, List, Float}
use Rattle.std.specs.Float.{Format}
use Rattle.bodies.specs.Merged.{Rule}
use Rattle.distance_sums.specs.Extremes.{lesser, greater}
use Rattle.distance_sums.specs.Dense.{Shares, shares_by}
use Rattle.distance_sums.specs.Sparse.{shares_rule_by, sparse_shares_by}

abbrev pub shares : Format → (ℕ → Float) → (ℕ → Float) → ℕ → Shares
shares = shares_by lesser greater

abbrev pub shares_rule : Format → Rule Shares
shares_rule = shares_rule_by lesser greater

abbrev pub sparse_shares : List ℕ → List ℕ → Shares
sparse_shares = sparse_shares_by lesser greater
