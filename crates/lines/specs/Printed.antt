-- What a program over lines prints: for each line its number from 1, a tab, the reply and a newline.
use Rattle.std.specs.Prelude.{ℕ, ◌+◌, cond, List, [], ◌∷◌, ◌++◌, ltb, length}
use Rattle.lines.specs.Text.{tab, newline}
use Rattle.lines.specs.Decimal.{decimal_of}
use Rattle.lines.specs.Parts.{lines_of}
use Rattle.lines.specs.Fields.{malformed}

-- what stands before the reply to line number n
abbrev pub head_of : ℕ → List ℕ
head_of n = decimal_of n ++ (tab ∷ [])

-- what is printed for line number n
unfoldable pub numbered_reply : ℕ → List ℕ → List ℕ
numbered_reply n reply = head_of n ++ (reply ++ (newline ∷ []))

-- X for a line over the limit, and otherwise its own reply
abbrev pub limited : ℕ → (List ℕ → List ℕ) → List ℕ → List ℕ
limited limit reply line = cond (ltb limit (length line)) malformed (reply line)

-- what is printed for lines, of which the first has the number n
unfoldable pub numbered_replies : (List ℕ → List ℕ) → ℕ → List (List ℕ) → List ℕ
numbered_replies reply n [] = []
numbered_replies reply n (line ∷ lines) = numbered_reply n (reply line) ++ numbered_replies reply (n + 1) lines

-- what is printed for an input
abbrev pub printed_of : (List ℕ → List ℕ) → List ℕ → List ℕ
printed_of reply input = numbered_replies reply 1 (lines_of input)
