-- Each arm puts its row of `result_of`, for which there is room.
use mathlib.Core.Path.{◌≡◌, refl, ◌∙◌}
use Prim.Native.Nat.{ℕ, ◌+◌, ◌*◌, ◌≤◌}
use native.Mathlib.Omega.{arith}
use lib.ListN.{length}
use Rattle.vector_types.specs.Layout.{ceil}
use Rattle.vector_types.specs.declared.VectorType.{VectorType}
use Rattle.vector_types.specs.declared.VectorType.TheVariants.{Float8}
use Rattle.bodies.proofs.Lengths.{float8-length}
use Rattle.convert_parts.specs.Result.{result_of}
use Rattle.convert_parts.proofs.Lengths.{length-float32, length-float64, length-one-bit, length-float8}
use Rattle.convert_float8.proofs.Scaled.{length-sparse}
use Rattle.convert_float8.proofs.put_result.Goals as goal
use Rattle.convert_float8.proofs.put_result.Goals.{Start}

long : (c : Start) → length c.args.body.now ≡ 4 * ceil c.args.dims 4 + 8
long c = float8-length _ _ refl c.requires.fitting.fit

-- the size, to a kind that is known, and the room
exact : (c : Start) (u : VectorType) (n : ℕ) → c.args.target ≡ u → length (result_of Float8 u c.args.dims c.args.body.now) ≡ n → c.args.size ≡ n
exact c u n e size = (rw e at c.requires.size_value) ∙ size

room : (c : Start) (u : VectorType) (n : ℕ) → c.args.target ≡ u → length (result_of Float8 u c.args.dims c.args.body.now) ≡ n → n ≤ length c.args.out.now
room c u n e size = omega (arith, exact c u n e size, c.requires.size_in_bounds)

pub put_singles-requires : goal.put_singles-requires
put_singles-requires c =
    record { dims_le_max_dims = c.requires.fitting.limited; body_len = long (goal.at.put_singles-requires c).Start; dims_in_bounds = room (goal.at.put_singles-requires c).Start _ _ c.in-Float32Dense.is (length-float32 _ _ Float8 c.requires.fitting) }

pub put_doubles-requires : goal.put_doubles-requires
put_doubles-requires c =
    record { dims_le_max_dims = c.requires.fitting.limited; body_len = long (goal.at.put_doubles-requires c).Start; dims_in_bounds = room (goal.at.put_doubles-requires c).Start _ _ c.in-Float64Dense.is (length-float64 _ _ Float8 c.requires.fitting) }

pub put_sparse-requires : goal.put_sparse-requires
put_sparse-requires c =
    let size = exact (goal.at.put_sparse-requires c).Start _ _ c.in-Float32Sparse.is (length-sparse _ _) in
    record { dims_le_max_dims = c.requires.fitting.limited; body_len = long (goal.at.put_sparse-requires c).Start; count_value = omega (arith, size); count_in_bounds = omega (arith, size, c.requires.size_in_bounds) }

pub put_bits-requires : goal.put_bits-requires
put_bits-requires c =
    record { dims_le_max_dims = c.requires.fitting.limited; body_len = long (goal.at.put_bits-requires c).Start; dims_in_bounds = room (goal.at.put_bits-requires c).Start _ _ c.in-Float1Bit.is (length-one-bit _ _ Float8 c.requires.fitting) }

pub put_copy-requires : goal.put_copy-requires
put_copy-requires c =
    omega (arith, long (goal.at.put_copy-requires c).Start, room (goal.at.put_copy-requires c).Start _ _ c.in-Float8.is (length-float8 _ _ Float8 c.requires.fitting))

pub returns-in-Float32Dense : goal.returns-in-Float32Dense
returns-in-Float32Dense c = rw c.in-Float32Dense.is c.put_singles.ensures

pub returns-in-Float64Dense : goal.returns-in-Float64Dense
returns-in-Float64Dense c = rw c.in-Float64Dense.is c.put_doubles.ensures

pub returns-in-Float32Sparse : goal.returns-in-Float32Sparse
returns-in-Float32Sparse c = rw c.in-Float32Sparse.is c.put_sparse.ensures

pub returns-in-Float1Bit : goal.returns-in-Float1Bit
returns-in-Float1Bit c = rw c.in-Float1Bit.is c.put_bits.ensures

pub returns-in-Float8 : goal.returns-in-Float8
unfolding result_of
returns-in-Float8 c = rw c.in-Float8.is c.put_copy.ensures
