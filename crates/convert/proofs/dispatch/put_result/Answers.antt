-- Each arm by its kind: only that of a sparse body has something to put into scratch.
use mathlib.Core.Path.{◌≡◌, refl}
use Prim.Native.Nat.{◌≤◌}
use native.Mathlib.Omega.{arith}
use lib.ListN.{length}
use borrow.Author.Rules.{rules}
use Rattle.vector_types.specs.declared.VectorType.{VectorType}
use Rattle.convert_parts.specs.Result.{result_of, scratch_body}
use Rattle.convert_parts.specs.Inner.Fitting.{Fitting}
use Rattle.convert.proofs.dispatch.put_result.Goals as goal
use Rattle.convert.proofs.dispatch.put_result.Goals.{Start}

-- what a kind's crate asks, of a kind that is known
asked : (c : Start) (u : VectorType) → let a = c.args in a.kind ≡ u
    → Fitting u a.dims a.body.now × ((a.size ≡ length (result_of u a.target a.dims a.body.now)) × (a.size ≤ length a.out.now))
asked c u e = (rw e at c.requires.fitting, (rw e at c.requires.size_value, c.requires.size_in_bounds))

pub put_result-requires : goal.put_result-requires
put_result-requires c =
    let (fit, (size, room)) = asked (goal.at.put_result-requires c).Start _ c.in-Float32Dense.is in
    record { fitting = fit; size_value = size; size_in_bounds = room }

pub put_result-requires-in-Float64Dense : goal.put_result-requires-in-Float64Dense
put_result-requires-in-Float64Dense c =
    let (fit, (size, room)) = asked (goal.at.put_result-requires-in-Float64Dense c).Start _ c.in-Float64Dense.is in
    record { fitting = fit; size_value = size; size_in_bounds = room }

pub put_result-requires-in-Float32Sparse : goal.put_result-requires-in-Float32Sparse
put_result-requires-in-Float32Sparse c =
    let e = c.in-Float32Sparse.is in
    let (fit, (size, room)) = asked (goal.at.put_result-requires-in-Float32Sparse c).Start _ e in
    record { fitting = fit; size_value = size; size_in_bounds = room; body_in_bounds = rw e at c.requires.body_in_bounds }

pub put_result-requires-in-Float1Bit : goal.put_result-requires-in-Float1Bit
put_result-requires-in-Float1Bit c =
    let (fit, (size, room)) = asked (goal.at.put_result-requires-in-Float1Bit c).Start _ c.in-Float1Bit.is in
    record { fitting = fit; body_in_bounds = omega arith }

pub put_result-requires-in-Float8 : goal.put_result-requires-in-Float8
put_result-requires-in-Float8 c =
    let (fit, (size, room)) = asked (goal.at.put_result-requires-in-Float8 c).Start _ c.in-Float8.is in
    record { fitting = fit; size_value = size; size_in_bounds = room }

pub returns-in-Float32Dense : goal.returns-in-Float32Dense
unfolding scratch_body
returns-in-Float32Dense c = rw c.in-Float32Dense.is record { scratch_after = refl; out_after = c.put_result.ensures }

pub returns-in-Float64Dense : goal.returns-in-Float64Dense
unfolding scratch_body
returns-in-Float64Dense c = rw c.in-Float64Dense.is record { scratch_after = refl; out_after = c.put_result-in-Float64Dense.ensures }

pub returns-in-Float32Sparse : goal.returns-in-Float32Sparse
returns-in-Float32Sparse c =
    rw c.in-Float32Sparse.is c.put_result-in-Float32Sparse.ensures

pub returns-in-Float1Bit : goal.returns-in-Float1Bit
unfolding scratch_body
returns-in-Float1Bit c = rw c.in-Float1Bit.is record { scratch_after = refl; out_after = c.put_result-in-Float1Bit.ensures }

pub returns-in-Float8 : goal.returns-in-Float8
unfolding scratch_body
returns-in-Float8 c = rw c.in-Float8.is record { scratch_after = refl; out_after = c.put_result-in-Float8.ensures }
