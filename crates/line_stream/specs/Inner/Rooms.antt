-- The rooms of a program over lines.
use Rattle.std.specs.Prelude.{ℕ, ◌+◌}

-- as many bytes of a line as are kept: one more than it may have, so that a longer one is seen to be one
abbrev pub most_kept : ℕ → ℕ
most_kept limit = limit + 1

-- room for the line that is kept, and for a piece of the input behind it
abbrev pub input_room : ℕ → ℕ
input_room limit = most_kept limit + 65536

-- room for a numbered reply: twenty digits, a tab, a reply of at most `longest` bytes, and a newline
abbrev pub numbered_room : ℕ → ℕ
numbered_room longest = longest + 22
