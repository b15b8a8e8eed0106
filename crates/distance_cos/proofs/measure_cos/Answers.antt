-- Each arm is the distance of its kind, and the body is as long as the kind has it.
use Rattle.bodies.proofs.Lengths.{float32-length, float64-length, one-bit-length, float8-length}
use Rattle.distance_sums.specs.Values.{cosine_of}
use Rattle.distance_cos.proofs.measure_cos.Goals as goal

pub vector_f32_distance_cos-requires : goal.vector_f32_distance_cos-requires
vector_f32_distance_cos-requires c =
    let e = c.in-Float32Dense.is in
    record { dims_le_max_dims = c.requires.dims_le_max_dims; a_len = float32-length _ _ e c.requires.a_value; b_len = float32-length _ _ e c.requires.b_value }

pub vector_f64_distance_cos-requires : goal.vector_f64_distance_cos-requires
vector_f64_distance_cos-requires c =
    let e = c.in-Float64Dense.is in
    record { dims_le_max_dims = c.requires.dims_le_max_dims; a_len = float64-length _ _ e c.requires.a_value; b_len = float64-length _ _ e c.requires.b_value }

pub vector_1bit_distance_cos-requires : goal.vector_1bit_distance_cos-requires
vector_1bit_distance_cos-requires c =
    let e = c.in-Float1Bit.is in
    record { dims_le_max_dims = c.requires.dims_le_max_dims; a_len = one-bit-length _ _ e c.requires.a_value; b_len = one-bit-length _ _ e c.requires.b_value }

pub vector_f8_distance_cos-requires : goal.vector_f8_distance_cos-requires
vector_f8_distance_cos-requires c =
    let e = c.in-Float8.is in
    record { dims_le_max_dims = c.requires.dims_le_max_dims; a_len = float8-length _ _ e c.requires.a_value; b_len = float8-length _ _ e c.requires.b_value }

pub returns-in-Float32Dense : goal.returns-in-Float32Dense
returns-in-Float32Dense c = rw c.in-Float32Dense.is c.vector_f32_distance_cos.ensures

pub returns-in-Float64Dense : goal.returns-in-Float64Dense
returns-in-Float64Dense c = rw c.in-Float64Dense.is c.vector_f64_distance_cos.ensures

pub returns-in-Float32Sparse : goal.returns-in-Float32Sparse
unfolding cosine_of
returns-in-Float32Sparse c = rw c.in-Float32Sparse.is c.vector_f32_sparse_distance_cos.ensures

pub returns-in-Float1Bit : goal.returns-in-Float1Bit
returns-in-Float1Bit c = rw c.in-Float1Bit.is c.vector_1bit_distance_cos.ensures

pub returns-in-Float8 : goal.returns-in-Float8
returns-in-Float8 c = rw c.in-Float8.is c.vector_f8_distance_cos.ensures
