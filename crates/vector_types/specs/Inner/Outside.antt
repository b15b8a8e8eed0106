-- Which entry of a body is wrong, as the writer asks for it.
use Rattle.std.specs.Prelude.{ℕ, ◌/◌, cond, List, length, Option, None}
use Rattle.vector_types.specs.Search.{found_index}
use Rattle.vector_types.specs.Layout.{has_byte, is_outside}
use Rattle.vector_types.specs.declared.VectorType.{VectorType}

-- the first entry of a sparse body whose index is not below d, if there is one; another kind has none
abbrev pub first_outside : VectorType → ℕ → List ℕ → Option ℕ
first_outside k d body = let n = length body / 8 in cond (has_byte 9 k) (found_index (is_outside body n d) n) None
