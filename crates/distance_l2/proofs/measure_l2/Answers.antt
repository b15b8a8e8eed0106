-- Each arm is the distance of its kind, and the body is as long as the kind has it; the last one is of Float8, since the kind is not Float1Bit.
use mathlib.Core.Path.{◌≡◌, refl, ap}
use mathlib.Core.Bool.{false, true≢false}
use mathlib.Core.List.{[], ◌∷◌}
use mathlib.Core.Logic.{inl, inr}
use mathlib.Core.Option.{some}
use native.Mathlib.Omega.{arith}
use denote.Enum.Declared.{tag_of}
use types.Run.{OneOf}
use Rattle.vector_types.specs.Layout.{has_byte}
use Rattle.vector_types.specs.declared.VectorType.{VectorType}
use Rattle.vector_types.specs.declared.VectorType.TheVariants.{Float32Dense, Float64Dense, Float32Sparse, Float1Bit, Float8}
use Rattle.vector_types.specs.contracts.VectorType.{the_type}
use Rattle.bodies.proofs.Lengths.{float32-length, float64-length, float8-length}
use Rattle.distance_sums.specs.Values.{l2_of}
use Rattle.distance_l2.proofs.measure_l2.Goals as goal

pub vector_f32_distance_l2-requires : goal.vector_f32_distance_l2-requires
vector_f32_distance_l2-requires c =
    let e = c.in-Float32Dense.is in
    record { dims_le_max_dims = c.requires.dims_le_max_dims; a_len = float32-length _ _ e c.requires.a_value; b_len = float32-length _ _ e c.requires.b_value }

pub vector_f64_distance_l2-requires : goal.vector_f64_distance_l2-requires
vector_f64_distance_l2-requires c =
    let e = c.in-Float64Dense.is in
    record { dims_le_max_dims = c.requires.dims_le_max_dims; a_len = float64-length _ _ e c.requires.a_value; b_len = float64-length _ _ e c.requires.b_value }

-- the kinds that are left for the last arm are Float1Bit and Float8
last-is-float8 : (k : VectorType) → OneOf (3 ∷ 4 ∷ []) (tag_of the_type k) → has_byte 3 k ≡ false → k ≡ Float8
last-is-float8 Float32Dense h n = absurd (elim h [ inl e ↦ omega arith | inr e ↦ omega arith ])
last-is-float8 Float64Dense h n = absurd (elim h [ inl e ↦ omega arith | inr e ↦ omega arith ])
last-is-float8 Float32Sparse h n = absurd (elim h [ inl e ↦ omega arith | inr e ↦ omega arith ])
last-is-float8 Float1Bit h n = absurd (true≢false n)
last-is-float8 Float8 h n = refl

pub vector_f8_distance_l2-requires : goal.vector_f8_distance_l2-requires
vector_f8_distance_l2-requires c =
    let e = last-is-float8 c.args.kind c.in_default.in_default-own.keys4 c.requires.kind_value in
    record { dims_le_max_dims = c.requires.dims_le_max_dims; a_len = float8-length _ _ e c.requires.a_value; b_len = float8-length _ _ e c.requires.b_value }

pub returns-in-Float32Dense : goal.returns-in-Float32Dense
returns-in-Float32Dense c = rw c.in-Float32Dense.is c.vector_f32_distance_l2.ensures

pub returns-in-Float64Dense : goal.returns-in-Float64Dense
returns-in-Float64Dense c = rw c.in-Float64Dense.is c.vector_f64_distance_l2.ensures

pub returns-in-Float32Sparse : goal.returns-in-Float32Sparse
unfolding l2_of
returns-in-Float32Sparse c = rw c.in-Float32Sparse.is (ap some c.vector_f32_sparse_distance_l2.ensures)

pub returns-in_default : goal.returns-in_default
returns-in_default c =
    rw (last-is-float8 c.args.kind c.in_default.in_default-own.keys4 c.requires.kind_value) c.vector_f8_distance_l2.ensures
