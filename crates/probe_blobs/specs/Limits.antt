-- The rooms for a reply and to work in.
use Rattle.std.specs.Prelude.{ℕ, ◌+◌, ◌*◌}
use Rattle.vector_types.specs.Layout.{max_blob_length, max_dims}

-- no reply has more bytes: a mark, a kind and dims, the longest blob in hexadecimal, and a further field
abbrev pub reply_room : ℕ
reply_room = 65 + 2 * max_blob_length

-- room for the bytes that a line is decoded to, for the elements that a conversion goes through, and for the longest blob
abbrev pub decoded_room : ℕ
decoded_room = 550000

abbrev pub scratch_room : ℕ
scratch_room = 4 * max_dims

abbrev pub blob_room : ℕ
blob_room = max_blob_length
