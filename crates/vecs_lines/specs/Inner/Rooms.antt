-- The rooms of a program over files of vectors.
use Rattle.std.specs.Prelude.{ℕ, ◌+◌, ◌*◌}
use Rattle.vector_types.specs.Layout.{max_dims}
use Rattle.line_stream.specs.Inner.Rooms.{numbered_room}

-- the longest vector of an fvecs file
abbrev pub longest_vector : ℕ
longest_vector = 4 + 4 * max_dims

-- room for the numbered line of any vector: a mark, twenty digits and a tab, and two digits a byte
abbrev pub vector_line_room : ℕ
vector_line_room = numbered_room (23 + 8 * max_dims)

-- and for that of a refusal: a mark, twenty digits, a tab and twenty digits
abbrev pub refusal_line_room : ℕ
refusal_line_room = numbered_room 43
