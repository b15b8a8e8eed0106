-- Each arm puts its row of `result_of`, for which there is room; two leave the dense body in scratch.
use mathlib.Core.Path.{◌≡◌, refl}
use Prim.Native.Nat.{ℕ, ◌≤◌}
use native.Mathlib.Omega.{arith}
use lib.ListN.{length}
use Rattle.vector_types.specs.declared.VectorType.{VectorType}
use Rattle.vector_types.specs.declared.VectorType.TheVariants.{Float32Sparse, Float1Bit, Float8}
use Rattle.bodies.proofs.Lengths.{sparse-length}
use Rattle.convert_parts.specs.Result.{result_of, scratch_body}
use Rattle.convert_parts.proofs.Lengths.{length-float32, length-float64, length-scratch}
use Rattle.convert_sparse.proofs.Steps.{bits-second, float8-second}
use Rattle.convert_sparse.proofs.put_result.Goals as goal
use Rattle.convert_sparse.proofs.put_result.Goals.{Start}

-- the room, to a kind that is known
room : (c : Start) (u : VectorType) (n : ℕ) → c.args.target ≡ u → length (result_of Float32Sparse u c.args.dims c.args.body.now) ≡ n → n ≤ length c.args.out.now
room c u n e size = omega (arith, size, rw e at c.requires.size_value, c.requires.size_in_bounds)

pub put_singles-requires : goal.put_singles-requires
put_singles-requires c =
    let fit = c.requires.fitting in
    record { dims_le_max_dims = fit.limited; body_len = sparse-length c.args.dims _ refl fit.fit; body_value = fit.inside; dims_in_bounds = room (goal.at.put_singles-requires c).Start _ _ c.in-Float32Dense.is (length-float32 _ _ Float32Sparse fit) }

pub put_doubles-requires : goal.put_doubles-requires
put_doubles-requires c =
    let fit = c.requires.fitting in
    record { dims_le_max_dims = fit.limited; body_len = sparse-length c.args.dims _ refl fit.fit; body_value = fit.inside; dims_in_bounds = room (goal.at.put_doubles-requires c).Start _ _ c.in-Float64Dense.is (length-float64 _ _ Float32Sparse fit) }

pub put_copy-requires : goal.put_copy-requires
unfolding result_of
put_copy-requires c = room (goal.at.put_copy-requires c).Start _ _ c.in-Float32Sparse.is refl

-- through scratch
pub put_through-requires : goal.put_through-requires
put_through-requires c =
    let a = c.args in
    let e = c.in-Float1Bit.is in
    let size = rw e at c.requires.size_value in
    let scratch = rw e at c.requires.body_in_bounds in
    record { fitting = c.requires.fitting; size_value = rw (e, bits-second a.dims a.body.now) size; size_in_bounds = c.requires.size_in_bounds; dims_in_bounds = omega (arith, scratch, length-scratch a.dims a.body.now Float32Sparse Float1Bit c.requires.fitting) }

pub put_through-requires-in-Float8 : goal.put_through-requires-in-Float8
put_through-requires-in-Float8 c =
    let a = c.args in
    let e = c.in-Float8.is in
    let size = rw e at c.requires.size_value in
    let scratch = rw e at c.requires.body_in_bounds in
    record { fitting = c.requires.fitting; size_value = rw (e, float8-second a.dims a.body.now) size; size_in_bounds = c.requires.size_in_bounds; dims_in_bounds = omega (arith, scratch, length-scratch a.dims a.body.now Float32Sparse Float8 c.requires.fitting) }

pub returns-in-Float32Dense : goal.returns-in-Float32Dense
unfolding result_of scratch_body
returns-in-Float32Dense c = rw c.in-Float32Dense.is record { scratch_after = refl; out_after = c.put_singles.ensures }

pub returns-in-Float64Dense : goal.returns-in-Float64Dense
unfolding result_of scratch_body
returns-in-Float64Dense c = rw c.in-Float64Dense.is record { scratch_after = refl; out_after = c.put_doubles.ensures }

pub returns-in-Float32Sparse : goal.returns-in-Float32Sparse
unfolding result_of scratch_body
returns-in-Float32Sparse c = rw c.in-Float32Sparse.is record { scratch_after = refl; out_after = c.put_copy.ensures }

pub returns-in-Float1Bit : goal.returns-in-Float1Bit
unfolding result_of scratch_body
returns-in-Float1Bit c =
    let e = c.in-Float1Bit.is in
    rw e record { scratch_after = c.put_through.ensures.scratch_after; out_after = rw e at c.put_through.ensures.out_after }

pub returns-in-Float8 : goal.returns-in-Float8
unfolding result_of scratch_body
returns-in-Float8 c =
    let e = c.in-Float8.is in
    rw e record { scratch_after = c.put_through-in-Float8.ensures.scratch_after; out_after = rw e at c.put_through-in-Float8.ensures.out_after }
