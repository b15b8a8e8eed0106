-- Each arm by its kind.
use borrow.Author.Rules.{rules}
use Rattle.convert.proofs.dispatch.result_length.Goals as goal

pub result_length-requires : goal.result_length-requires
result_length-requires c = rw c.in-Float32Dense.is at c.requires

pub result_length-requires-in-Float64Dense : goal.result_length-requires-in-Float64Dense
result_length-requires-in-Float64Dense c = rw c.in-Float64Dense.is at c.requires

pub result_length-requires-in-Float32Sparse : goal.result_length-requires-in-Float32Sparse
result_length-requires-in-Float32Sparse c = rw c.in-Float32Sparse.is at c.requires

pub result_length-requires-in-Float1Bit : goal.result_length-requires-in-Float1Bit
result_length-requires-in-Float1Bit c = rw c.in-Float1Bit.is at c.requires

pub result_length-requires-in-Float8 : goal.result_length-requires-in-Float8
result_length-requires-in-Float8 c = rw c.in-Float8.is at c.requires

pub returns-in-Float32Dense : goal.returns-in-Float32Dense
returns-in-Float32Dense c = rw c.in-Float32Dense.is c.result_length.ensures

pub returns-in-Float64Dense : goal.returns-in-Float64Dense
returns-in-Float64Dense c = rw c.in-Float64Dense.is c.result_length-in-Float64Dense.ensures

pub returns-in-Float32Sparse : goal.returns-in-Float32Sparse
returns-in-Float32Sparse c = rw c.in-Float32Sparse.is c.result_length-in-Float32Sparse.ensures

pub returns-in-Float1Bit : goal.returns-in-Float1Bit
returns-in-Float1Bit c = rw c.in-Float1Bit.is c.result_length-in-Float1Bit.ensures

pub returns-in-Float8 : goal.returns-in-Float8
returns-in-Float8 c = rw c.in-Float8.is c.result_length-in-Float8.ensures
