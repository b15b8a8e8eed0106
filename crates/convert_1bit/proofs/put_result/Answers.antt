-- Each arm puts its row of `result_of`, for which there is room.
use mathlib.Core.Path.{◌≡◌, refl}
use Prim.Native.Nat.{ℕ, ◌≤◌}
use native.Mathlib.Omega.{arith}
use lib.ListN.{length}
use Rattle.vector_types.specs.Layout.{ceil}
use Rattle.vector_types.specs.declared.VectorType.{VectorType}
use Rattle.vector_types.specs.declared.VectorType.TheVariants.{Float1Bit}
use Rattle.bodies.proofs.Lengths.{one-bit-length}
use Rattle.convert_parts.specs.Result.{result_of}
use Rattle.convert_parts.proofs.Lengths.{length-float32, length-float64, length-one-bit, length-float8}
use Rattle.convert_1bit.proofs.Units.{length-sparse}
use Rattle.convert_1bit.proofs.put_result.Goals as goal
use Rattle.convert_1bit.proofs.put_result.Goals.{Start}

long : (c : Start) → length c.args.body.now ≡ ceil c.args.dims 8
long c = one-bit-length _ _ refl c.requires.fitting.fit

-- the room, to a kind that is known
room : (c : Start) (u : VectorType) (n : ℕ) → c.args.target ≡ u → length (result_of Float1Bit u c.args.dims c.args.body.now) ≡ n → n ≤ length c.args.out.now
room c u n e size = omega (arith, size, rw e at c.requires.body_in_bounds)

pub put_singles-requires : goal.put_singles-requires
put_singles-requires c =
    record { dims_le_max_dims = c.requires.fitting.limited; body_len = long (goal.at.put_singles-requires c).Start; dims_in_bounds = room (goal.at.put_singles-requires c).Start _ _ c.in-Float32Dense.is (length-float32 _ _ Float1Bit c.requires.fitting) }

pub put_doubles-requires : goal.put_doubles-requires
put_doubles-requires c =
    record { dims_le_max_dims = c.requires.fitting.limited; body_len = long (goal.at.put_doubles-requires c).Start; dims_in_bounds = room (goal.at.put_doubles-requires c).Start _ _ c.in-Float64Dense.is (length-float64 _ _ Float1Bit c.requires.fitting) }

pub put_sparse-requires : goal.put_sparse-requires
put_sparse-requires c =
    record { dims_le_max_dims = c.requires.fitting.limited; body_len = long (goal.at.put_sparse-requires c).Start; dims_in_bounds = room (goal.at.put_sparse-requires c).Start _ _ c.in-Float32Sparse.is (length-sparse _ _) }

pub put_copy-requires : goal.put_copy-requires
put_copy-requires c =
    omega (arith, long (goal.at.put_copy-requires c).Start, room (goal.at.put_copy-requires c).Start _ _ c.in-Float1Bit.is (length-one-bit _ _ Float1Bit c.requires.fitting))

pub put_quantized-requires : goal.put_quantized-requires
put_quantized-requires c =
    record { dims_le_max_dims = c.requires.fitting.limited; body_len = long (goal.at.put_quantized-requires c).Start; dims_in_bounds = room (goal.at.put_quantized-requires c).Start _ _ c.in-Float8.is (length-float8 _ _ Float1Bit c.requires.fitting) }

pub returns-in-Float32Dense : goal.returns-in-Float32Dense
returns-in-Float32Dense c = rw c.in-Float32Dense.is c.put_singles.ensures

pub returns-in-Float64Dense : goal.returns-in-Float64Dense
returns-in-Float64Dense c = rw c.in-Float64Dense.is c.put_doubles.ensures

pub returns-in-Float32Sparse : goal.returns-in-Float32Sparse
returns-in-Float32Sparse c = rw c.in-Float32Sparse.is c.put_sparse.ensures

pub returns-in-Float1Bit : goal.returns-in-Float1Bit
unfolding result_of
returns-in-Float1Bit c = rw c.in-Float1Bit.is c.put_copy.ensures

pub returns-in-Float8 : goal.returns-in-Float8
returns-in-Float8 c = rw c.in-Float8.is c.put_quantized.ensures
