-- How long the elements of a bvecs file are as f32.
use Rattle.std.specs.Prelude.{ℕ, ◌*◌, Option, Some, None, Result, Ok, Err}
use Rattle.vector_types.specs.declared.Refusal.{Refusal}
use Rattle.vecs.specs.declared.Found.{Found}

-- of a vector; none where there is no vector
abbrev pub floats_length : Result (Option Found) Refusal → ℕ
floats_length (Ok (Some v)) = 4 * v.dims.0
floats_length (Ok None) = 0
floats_length (Err r) = 0
