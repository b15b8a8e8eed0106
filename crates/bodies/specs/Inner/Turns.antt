-- Which entry the merge takes next, and what is known then.
use Rattle.std.specs.Prelude.{◌≡◌, ℕ, ◌≤◌, ◌<◌, ◌⊎◌}
use Rattle.bodies.specs.Entries.{Entries}
use Rattle.bodies.specs.declared.sparse.Turn.{Turn}
use Rattle.bodies.specs.declared.sparse.Turn.TheVariants.{Both, Left, Right, Done}

-- entry i of v and entry j of w are the next, where there are so many
abbrev pub Next : Entries → Entries → ℕ → ℕ → Turn → Type 0
Next v w i j (Both x y) = (i < v.count) × (j < w.count) × (v.index i ≡ w.index j) × (x ≡ v.value i) × (y ≡ w.value j)
Next v w i j (Left x) = (i < v.count) × ((w.count ≤ j) ⊎ (v.index i < w.index j)) × (x ≡ v.value i)
Next v w i j (Right y) = (j < w.count) × ((v.count ≤ i) ⊎ (w.index j < v.index i)) × (y ≡ w.value j)
Next v w i j Done = (v.count ≤ i) × (w.count ≤ j)
