-- The parts of a blob that are shown: which bytes they are, and where they point.
use Rattle.std.specs.Prelude.{ℕ, ◌+◌, ◌/◌, List, take, drop, Result, Ok, Err}
use Rattle.vector_types.specs.Read.{read_of}
use Rattle.vector_types.specs.declared.VectorType.{VectorType}
use Rattle.vector_types.specs.declared.VectorType.TheVariants.{Float32Sparse}
use Rattle.vector_types.specs.declared.Refusal.{Refusal}
use Rattle.vector_types.specs.declared.View.{View}
use Rattle.vector_types.specs.declared.Mode.TheVariants.{Plain}

-- how long the body is that an answer shows: nothing on a refusal
abbrev pub shown_length : Result View Refusal → ℕ
shown_length (Ok v) = v.length
shown_length (Err r) = 0

-- of a sparse body half are values and half are indices; another kind has neither
abbrev pub half_of : VectorType → ℕ → ℕ
half_of Float32Sparse m = m / 2
half_of _ m = 0

abbrev pub shown_half : Result View Refusal → ℕ
shown_half (Ok v) = half_of v.kind v.length
shown_half (Err r) = 0

unfoldable pub body_of : List ℕ → List ℕ
unfolding read_of
body_of s = take (shown_length (read_of Plain s)) s

unfoldable pub values_of : List ℕ → List ℕ
unfolding read_of
values_of s = take (shown_half (read_of Plain s)) s

unfoldable pub indices_of : List ℕ → List ℕ
unfolding read_of
indices_of s = let h = shown_half (read_of Plain s) in take h (drop h s)

-- the place in memory that is k bytes past another
abbrev pub past : ℕ × ℕ → ℕ → ℕ × ℕ
past p k = (p.0, k + p.1)
