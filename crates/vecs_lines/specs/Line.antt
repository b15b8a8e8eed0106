-- What fvecs prints for a vector of a file, after its number. With | for a tab
--     V|N|H
-- where N is the dims and H the elements in hexadecimal: a Float32Dense blob. A refusal is printed as `refusal_text` of reply_texts has it.
use Rattle.std.specs.Prelude.{ℕ, List, ◌++◌}
use Rattle.lines.specs.Text.{word}
use Rattle.lines.specs.Hex.{hex_of}
use Rattle.lines.specs.Printed.{head_of}

abbrev pub vector_reply : ℕ → List ℕ → List ℕ
vector_reply d elements = word "V\t" ++ (head_of d ++ hex_of elements)
