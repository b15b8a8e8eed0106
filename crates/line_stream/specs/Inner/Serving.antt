-- What the loops of the programs promise of a text that starts with a line.
use Rattle.std.specs.Prelude.{ℕ, ◌+◌, ◌-◌, ◌≤◌, ◌<◌, ◌^◌, cond, ◌≡◌, List, [], ◌∷◌, ltb, leb, length, take, drop}
use Rattle.lines.specs.Printed.{numbered_reply, numbered_replies}
use Rattle.line_stream.specs.Inner.Stream.{ended_lines, unfinished_line}
use Rattle.line_stream.specs.declared.HeldLine.{HeldLine}
use Rattle.line_stream.specs.declared.ServedLines.{ServedLines}
use Rattle.line_stream.specs.declared.ServedText.{ServedText}

-- the line that is held starts the text, no newline ends it there, and there are numbers for the lines that follow
pub record TextReady (text : List ℕ) (held : HeldLine) : Type 0 where
  pub inside : held.count ≤ length text
  pub line : ended_lines [] (take held.count text) ≡ []
  pub numbers : held.before + length text < 2 ^ 64

-- a program that replies to a line, if there is room for the longest numbered reply
module _ (reply : List ℕ → List ℕ) (longest : ℕ) where
  -- of lines that are numbered from n on, those that are answered
  unfoldable pub answered_lines : ℕ → ℕ → List (List ℕ) → List (List ℕ)
  answered_lines n room [] = []
  answered_lines n room (line ∷ lines) = cond (leb longest room) (line ∷ answered_lines (n + 1) (room - length (numbered_reply n (reply line))) lines) []

  -- the lines up to the place `at`, where a line starts, are answered, and out is their replies; `room` bytes may be put
  pub record Serves (text : List ℕ) (before room : ℕ) (out : List ℕ) (r : ServedLines) : Type 0 where
    pub within : r.at ≤ length text
    pub start : unfinished_line [] (take r.at text) ≡ []
    pub lines : ended_lines [] (take r.at text) ≡ answered_lines (before + 1) room (ended_lines [] text)
    pub numbered : r.before ≡ before + length (ended_lines [] (take r.at text))
    pub replies : out ≡ numbered_replies reply (before + 1) (ended_lines [] (take r.at text))
    pub more : r.more ≡ ltb (length (ended_lines [] (take r.at text))) (length (ended_lines [] text))

-- all lines of a text are served, and what is left of it is the unfinished one
pub record ServesAll (text : List ℕ) (before : ℕ) (r : ServedText) : Type 0 where
  pub within : r.at ≤ length text
  pub rest : drop r.at text ≡ unfinished_line [] text
  pub numbered : r.before ≡ before + length (ended_lines [] text)
