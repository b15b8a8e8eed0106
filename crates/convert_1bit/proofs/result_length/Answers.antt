-- Each arm tells the length of its row of `result_of`.
use mathlib.Core.Path.{sym}
use native.Mathlib.Omega.{arith}
use Rattle.vector_types.specs.declared.VectorType.TheVariants.{Float1Bit}
use Rattle.convert_parts.specs.Result.{result_of}
use Rattle.convert_parts.proofs.Lengths.{length-float32, length-float64, length-float8}
use Rattle.convert_1bit.proofs.Units.{length-sparse}
use Rattle.convert_1bit.proofs.result_length.Goals as goal

pub returns-in-Float32Dense : goal.returns-in-Float32Dense
returns-in-Float32Dense c = rw c.in-Float32Dense.is (sym (length-float32 _ _ Float1Bit c.requires))

pub returns-in-Float64Dense : goal.returns-in-Float64Dense
returns-in-Float64Dense c = rw c.in-Float64Dense.is (sym (length-float64 _ _ Float1Bit c.requires))

pub returns-in-Float32Sparse : goal.returns-in-Float32Sparse
returns-in-Float32Sparse c = rw c.in-Float32Sparse.is (sym (length-sparse _ _))

pub returns-in-Float1Bit : goal.returns-in-Float1Bit
unfolding result_of
returns-in-Float1Bit c = rw c.in-Float1Bit.is

pub returns-in-Float8 : goal.returns-in-Float8
returns-in-Float8 c = rw c.in-Float8.is (omega (arith, length-float8 _ _ Float1Bit c.requires))
