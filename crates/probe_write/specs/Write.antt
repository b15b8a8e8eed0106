-- The replies to lines that write a blob. With | for a tab a line is
--     write|K|N|H
-- where K is a type byte 1, 2, 3, 4 or 9, N dims in 1 to 10 decimal digits, and H a body in lower-case hexadecimal. The replies are
--     W|H    R|number
-- where H is the blob; or X where a field is none of these.
use Rattle.std.specs.Prelude.{ℕ, List, ◌++◌, Result, Ok, Err}
use Rattle.std.specs.Option.{option_map_or}
use Rattle.std.specs.Result.{result_ok}
use Rattle.lines.specs.Text.{word}
use Rattle.lines.specs.Hex.{hex_of}
use Rattle.lines.specs.Fields.{malformed, from_hex}
use Rattle.lines.specs.Decimal.{numeral_of}
use Rattle.vector_types.specs.Layout.{max_blob_length}
use Rattle.vector_types.specs.declared.VectorType.{VectorType}
use Rattle.vector_types.specs.declared.Refusal.{Refusal}
use Rattle.blob_writer.specs.Write.{blob_of, write_of}
use Rattle.reply_texts.specs.Texts.{refusal_text}
use Rattle.probe_blobs.specs.Blobs.{kind_of}

-- the answer about the blob that is written
unfoldable pub write_text : Result ℕ Refusal → List ℕ → List ℕ
write_text (Ok n) blob = word "W\t" ++ hex_of blob
write_text (Err r) blob = refusal_text r

-- of a kind, dims and body, in room for the longest blob
abbrev pub write_body_text : VectorType → ℕ → List ℕ → List ℕ
write_body_text k d body = write_text (write_of k d body max_blob_length) (blob_of k d body)

-- where N is a number
abbrev pub write_kind_reply : VectorType → List ℕ → List ℕ → List ℕ
write_kind_reply k number field = option_map_or (λ d. from_hex (write_body_text k d) field) (numeral_of 10 number) malformed

unfoldable pub write_reply : List ℕ → List ℕ → List ℕ → List ℕ
unfolding write_text from_hex kind_of
write_reply kind number field = option_map_or (λ k. write_kind_reply k number field) (result_ok (kind_of kind)) malformed
