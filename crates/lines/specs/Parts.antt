-- A text split at a byte: a line into its fields, an input into its lines.
use Rattle.std.specs.Prelude.{ℕ, List, [], ◌∷◌, eqb}
use Rattle.std.specs.List.{slice_split}
use Rattle.lines.specs.Text.{tab, newline}

-- what stands before, between and after the bytes b of s: one part more than s has of them
unfoldable pub parts_of : ℕ → List ℕ → List (List ℕ)
parts_of b s = slice_split (λ x. eqb x b) s

abbrev pub fields_of : List ℕ → List (List ℕ)
fields_of line = parts_of tab line

-- parts, without a last one that is empty
unfoldable pub last_unless_empty : List (List ℕ) → List (List ℕ)
last_unless_empty [] = []
last_unless_empty ([] ∷ []) = []
last_unless_empty ((x ∷ p) ∷ []) = (x ∷ p) ∷ []
last_unless_empty ([] ∷ (q ∷ ps)) = [] ∷ last_unless_empty (q ∷ ps)
last_unless_empty ((x ∷ p) ∷ (q ∷ ps)) = (x ∷ p) ∷ last_unless_empty (q ∷ ps)

-- the lines of an input: a last line needs no newline unless it is empty
abbrev pub lines_of : List ℕ → List (List ℕ)
lines_of input = last_unless_empty (parts_of newline input)
