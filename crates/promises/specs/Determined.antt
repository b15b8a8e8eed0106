-- Determinism of contracts: any two outcomes that a contract allows show the same. An outcome is the answer and the parameters at exit.
use Rattle.std.specs.Prelude.{◌≡◌}

-- `post` is what the contract says of an answer and of the parameters at exit; `shown` is what of these must be equal
abbrev pub Determined : {R X Y : Type 0} → (R → X → Type 0) → (R → X → Y) → Type 0
Determined {R} {X} post shown = (r r' : R) (x x' : X) → post r x → post r' x' → shown r x ≡ shown r' x'
