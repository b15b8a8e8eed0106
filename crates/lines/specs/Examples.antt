-- What a table of examples says: lines, and what a program replies to each.
use Rattle.std.specs.Prelude.{◌≡◌, List, map, ℕ}
use Prim.Native.String.{String}
use Rattle.lines.specs.Text.{word}

pub record Example : Type 0 where
  pub line : String
  pub reply : String

abbrev pub example : String → String → Example
example l r = record { line = l; reply = r }

abbrev pub RepliesAs : (List ℕ → List ℕ) → List Example → Type 0
RepliesAs reply_to table = map (λ (e : Example). reply_to (word e.line)) table ≡ map (λ (e : Example). word e.reply) table
