-- Which distance exists for which kind: just those that the definition has, case by case.
use mathlib.Core.Path.{◌≡◌, refl, sym, ◌∙◌}
use mathlib.Core.Bool.{Bool, true, false, true≢false}
use mathlib.Core.List.{List}
use mathlib.Core.Option.{Option, none, some}
use Prim.Native.Nat.{ℕ}
use lib.Ieee.{Float}
use Rattle.vector_types.specs.declared.VectorType.{VectorType}
use Rattle.vector_types.specs.declared.VectorType.TheVariants.{Float32Dense, Float64Dense, Float32Sparse, Float1Bit, Float8}
use Rattle.distance_sums.specs.Values.{l2_of}
use Rattle.distance.specs.Inner.Existing.{exists_for}
use Rattle.distance.specs.Values.{value_of}
use Rattle.distance.specs.declared.Distance.{Distance}
use Rattle.distance.specs.declared.Distance.TheVariants.{Cos, L2, Dot, Jaccard}

abbrev pub is_some : Option Float → Bool
is_some none = false
is_some (some x) = true

pub exists-exactly : (m : Distance) (k : VectorType) (d : ℕ) (a b : List ℕ) → exists_for m k ≡ is_some (value_of m k d a b)
unfolding value_of l2_of
exists-exactly Cos k d a b = refl
exists-exactly Dot k d a b = refl
exists-exactly Jaccard k d a b = refl
exists-exactly L2 Float32Dense d a b = refl
exists-exactly L2 Float64Dense d a b = refl
exists-exactly L2 Float32Sparse d a b = refl
exists-exactly L2 Float1Bit d a b = refl
exists-exactly L2 Float8 d a b = refl

pub absent : (m : Distance) (k : VectorType) (d : ℕ) (a b : List ℕ) → exists_for m k ≡ false → value_of m k d a b ≡ none
absent m k d a b e = by (value_of m k d a b) (sym (exists-exactly m k d a b) ∙ e)
  where
    by : (o : Option Float) → is_some o ≡ false → o ≡ none
    by none h = refl
    by (some x) h = absurd (true≢false h)
