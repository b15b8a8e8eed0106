-- Each arm tells the length of its row of `result_of`.
use mathlib.Core.Path.{refl, sym}
use native.Mathlib.Omega.{arith}
use lib.Ieee.{binary64}
use Rattle.vector_types.specs.declared.VectorType.TheVariants.{Float64Dense}
use Rattle.bodies.specs.Elements.{dense_element}
use Rattle.bodies.proofs.Lengths.{float64-length}
use Rattle.convert_parts.specs.Sparse.{is_nonzero}
use Rattle.convert_parts.specs.Result.{result_of}
use Rattle.convert_parts.proofs.Places.{places-within}
use Rattle.convert_parts.proofs.Lengths.{length-float32, length-one-bit, length-float8}
use Rattle.convert_f64.proofs.Stored.{length-sparse}
use Rattle.convert_f64.proofs.result_length.Goals as goal

pub count_stored-requires : goal.count_stored-requires
count_stored-requires c = record { dims_le_max_dims = c.requires.limited; body_len = float64-length _ _ refl c.requires.fit }

pub overflow_mul-result-in-Float32Sparse : goal.overflow_mul-result-in-Float32Sparse
overflow_mul-result-in-Float32Sparse c =
    omega (arith, c.requires.limited, c.count_stored.ensures, places-within (λ i. is_nonzero (dense_element binary64 c.args.body.now i)) c.args.dims)

pub returns-in-Float32Dense : goal.returns-in-Float32Dense
returns-in-Float32Dense c = rw c.in-Float32Dense.is (sym (length-float32 _ _ Float64Dense c.requires))

pub returns-in-Float64Dense : goal.returns-in-Float64Dense
unfolding result_of
returns-in-Float64Dense c = rw c.in-Float64Dense.is

pub returns-in-Float32Sparse : goal.returns-in-Float32Sparse
returns-in-Float32Sparse c = rw (c.in-Float32Sparse.is, c.count_stored.ensures) (sym (length-sparse _ _))

pub returns-in-Float1Bit : goal.returns-in-Float1Bit
returns-in-Float1Bit c = rw c.in-Float1Bit.is (sym (length-one-bit _ _ Float64Dense c.requires))

pub returns-in-Float8 : goal.returns-in-Float8
returns-in-Float8 c = rw c.in-Float8.is (omega (arith, length-float8 _ _ Float64Dense c.requires))
