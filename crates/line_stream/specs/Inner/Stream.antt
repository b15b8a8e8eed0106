-- An input that comes in pieces, cut into lines: what a program is to write for each piece.
use Rattle.std.specs.Prelude.{ℕ, ◌+◌, cond, List, [], ◌∷◌, ◌++◌, eqb, length, take}
use Rattle.lines.specs.Text.{newline}
use Rattle.lines.specs.Printed.{numbered_replies}

-- the lines that end in s, and the line that s leaves unfinished, where `line` is what came of the first before s
unfoldable pub ended_lines : List ℕ → List ℕ → List (List ℕ)
ended_lines line [] = []
ended_lines line (b ∷ s) = cond (eqb b newline) (line ∷ ended_lines [] s) (ended_lines (line ++ (b ∷ [])) s)

unfoldable pub unfinished_line : List ℕ → List ℕ → List ℕ
unfinished_line line [] = line
unfinished_line line (b ∷ s) = cond (eqb b newline) (unfinished_line [] s) (unfinished_line (line ++ (b ∷ [])) s)

-- as much of a line as a program keeps
unfoldable pub kept_of : ℕ → List ℕ → List ℕ
kept_of most line = take most line

-- at the end of the input a line that has bytes gets its newline
abbrev pub last_newline : List ℕ → List ℕ
last_newline line = cond (eqb (length line) 0) [] (newline ∷ [])

-- how many lines ended, what is kept of the unfinished one, and what is written
pub record Progress : Type 0 where
  pub before : ℕ
  pub line : List ℕ
  pub output : List ℕ

abbrev pub initial : Progress
initial = record { before = 0; line = []; output = [] }

-- a program that replies to a line and keeps `most` bytes of an unfinished one
module _ (reply : List ℕ → List ℕ) (most : ℕ) where
  abbrev pub after_piece : Progress → List ℕ → Progress
  after_piece p s = record {
    before = p.before + length (ended_lines p.line s);
    line = kept_of most (unfinished_line p.line s);
    output = p.output ++ numbered_replies reply (p.before + 1) (ended_lines p.line s);
  }

  unfoldable pub after_pieces : Progress → List (List ℕ) → Progress
  after_pieces p [] = p
  after_pieces p (s ∷ pieces) = after_pieces (after_piece p s) pieces

  abbrev pub at_end : Progress → Progress
  at_end p = after_piece p (last_newline p.line)

  -- what is written for an input
  abbrev pub written_for : List (List ℕ) → List ℕ
  written_for pieces = (at_end (after_pieces initial pieces)).output
