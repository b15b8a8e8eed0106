-- Text as the bytes of its characters. All the text here is ASCII, where a character's code is its byte.
use Rattle.std.specs.Prelude.{ℕ, List, [], ◌∷◌}
use Prim.Native.Char.{Char, code}
use Prim.Native.String.{String, [] as none, ◌∷◌ as ◌then◌}

abbrev pub byte : Char → ℕ
byte c = code c

abbrev pub word : String → List ℕ
word none = []
word (◌then◌ c s) = byte c ∷ word s

abbrev pub tab : ℕ
tab = byte "\t"

abbrev pub newline : ℕ
newline = byte "\n"
