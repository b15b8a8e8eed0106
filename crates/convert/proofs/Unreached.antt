-- The last arm of the Rust's match is never taken, and the arm that is taken makes the body that is defined: all twenty-five pairs, computed.
use mathlib.Core.Path.{◌≡◌, refl, sym, ap, ◌∙◌}
use mathlib.Core.Bool.{Bool, true, false, true≢false}
use mathlib.Core.List.{List}
use Prim.Native.Nat.{ℕ}
use Rattle.vector_types.specs.declared.VectorType.{VectorType}
use Rattle.vector_types.specs.declared.VectorType.TheVariants.{Float32Dense, Float64Dense, Float32Sparse, Float1Bit, Float8}
use Rattle.convert_parts.specs.Result.{result_of}
use Rattle.convert.specs.Original.{Way, copied, in_one_step, in_two_steps, unreachable, way_of, original_body}

abbrev is_unreachable : Way → Bool
is_unreachable copied = false
is_unreachable (in_one_step new) = false
is_unreachable in_two_steps = false
is_unreachable unreachable = true

record Taken (k t : VectorType) : Type 0 where
  reached : is_unreachable (way_of k t) ≡ false
  makes : (d : ℕ) (body : List ℕ) → original_body k t d body ≡ result_of k t d body

taken : (k t : VectorType) → Taken k t
unfolding way_of original_body result_of
taken Float32Dense Float32Dense = record { reached = refl; makes = λ d body. refl }
taken Float32Dense Float64Dense = record { reached = refl; makes = λ d body. refl }
taken Float32Dense Float32Sparse = record { reached = refl; makes = λ d body. refl }
taken Float32Dense Float1Bit = record { reached = refl; makes = λ d body. refl }
taken Float32Dense Float8 = record { reached = refl; makes = λ d body. refl }
taken Float64Dense Float32Dense = record { reached = refl; makes = λ d body. refl }
taken Float64Dense Float64Dense = record { reached = refl; makes = λ d body. refl }
taken Float64Dense Float32Sparse = record { reached = refl; makes = λ d body. refl }
taken Float64Dense Float1Bit = record { reached = refl; makes = λ d body. refl }
taken Float64Dense Float8 = record { reached = refl; makes = λ d body. refl }
taken Float32Sparse Float32Dense = record { reached = refl; makes = λ d body. refl }
taken Float32Sparse Float64Dense = record { reached = refl; makes = λ d body. refl }
taken Float32Sparse Float32Sparse = record { reached = refl; makes = λ d body. refl }
taken Float32Sparse Float1Bit = record { reached = refl; makes = λ d body. refl }
taken Float32Sparse Float8 = record { reached = refl; makes = λ d body. refl }
taken Float1Bit Float32Dense = record { reached = refl; makes = λ d body. refl }
taken Float1Bit Float64Dense = record { reached = refl; makes = λ d body. refl }
taken Float1Bit Float32Sparse = record { reached = refl; makes = λ d body. refl }
taken Float1Bit Float1Bit = record { reached = refl; makes = λ d body. refl }
taken Float1Bit Float8 = record { reached = refl; makes = λ d body. refl }
taken Float8 Float32Dense = record { reached = refl; makes = λ d body. refl }
taken Float8 Float64Dense = record { reached = refl; makes = λ d body. refl }
taken Float8 Float32Sparse = record { reached = refl; makes = λ d body. refl }
taken Float8 Float1Bit = record { reached = refl; makes = λ d body. refl }
taken Float8 Float8 = record { reached = refl; makes = λ d body. refl }

pub last-arm-unreached : (k t : VectorType) → way_of k t ≡ unreachable → ⊥
last-arm-unreached k t e = true≢false (ap is_unreachable (sym e) ∙ (taken k t).reached)

pub original-body : (k t : VectorType) (d : ℕ) (body : List ℕ) → original_body k t d body ≡ result_of k t d body
original-body k t d body = (taken k t).makes d body
