-- What a read into a buffer promises. No contract says which bytes come.
use Rattle.std.specs.Prelude.{ℕ, ◌+◌, ◌-◌, ◌≤◌, ◌<◌, ◌≡◌, true, false, List, [], length, take, drop}
use Rattle.line_stream.specs.Inner.Stream.{last_newline}
use Rattle.line_stream.specs.declared.InputText.{InputText}

-- a text at the start of the buffer: what was kept, and behind it bytes that were read, at most `left` of them;
-- at the end of the input what ends it
pub record HoldsInput (kept ending : List ℕ) (left : ℕ) (buffer : List ℕ) (t : InputText) : Type 0 where
  pub count : t.count ≡ length kept
  pub front : take t.count buffer ≡ kept
  pub within : t.count ≤ t.end
  pub fits : t.end ≤ length buffer
  pub some : t.more ≡ true → t.count < t.end
  pub fewer : t.more ≡ true → t.left + (t.end - t.count) ≤ left
  pub last : t.more ≡ false → drop t.count (take t.end buffer) ≡ ending

-- a piece behind what was kept; at the end of the input nothing
abbrev pub HoldsPiece : List ℕ → ℕ → List ℕ → InputText → Type 0
HoldsPiece kept left buffer t = HoldsInput kept [] left buffer t

-- a piece behind a line; at the end of the input the newline of a line that has bytes
abbrev pub HoldsText : List ℕ → ℕ → List ℕ → InputText → Type 0
HoldsText line left buffer t = HoldsInput line (last_newline line) left buffer t
