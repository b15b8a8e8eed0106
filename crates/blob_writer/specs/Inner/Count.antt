-- What the writer puts after a 1-bit or Float8 body.
use Rattle.std.specs.Prelude.{ℕ, Bool, List, [], ◌∷◌, ◌++◌}
use Rattle.blob_writer.specs.Write.{zero_if}

-- a count and the type byte, after a zero byte where one is asked for
abbrev pub count_of : Bool → ℕ → ℕ → List ℕ
count_of filled n b = zero_if filled ++ (n ∷ b ∷ [])
