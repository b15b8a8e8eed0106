-- The replies to lines that show a vector. With | for a tab the lines are
--     read|H    strict|H    conv|K|H
-- where H is a blob in lower-case hexadecimal and K a type byte 1, 2, 3, 4 or 9. The replies are
--     V|K|N|H|n    C|K|N|H|n    R|number
-- where K is the kind, N the dims, H the body and n the count of readings; or X where a field is none of these.
use Rattle.std.specs.Prelude.{ℕ, List, take, Result, Ok, Err}
use Rattle.std.specs.Option.{option_map_or}
use Rattle.std.specs.Result.{result_ok}
use Rattle.lines.specs.Text.{word}
use Rattle.lines.specs.Fields.{malformed, from_hex}
use Rattle.lines.specs.Decimal.{numeral_of}
use Rattle.vector_types.specs.Layout.{max_blob_length, byte_of, by_byte}
use Rattle.vector_types.specs.Read.{read_of}
use Rattle.vector_types.specs.declared.VectorType.{VectorType}
use Rattle.vector_types.specs.declared.KindError.{KindError}
use Rattle.vector_types.specs.declared.KindError.TheVariants.{Unknown}
use Rattle.vector_types.specs.declared.Mode.{Mode}
use Rattle.vector_types.specs.declared.View.{View}
use Rattle.vector_types.specs.declared.Refusal.{Refusal}
use Rattle.convert.specs.Convert.{conversion_of}
use Rattle.reply_texts.specs.Texts.{refusal_text, counted_text}
use Rattle.probe_blobs.specs.Limits.{scratch_room}

-- a vector after a mark: its kind, dims and body, and its readings
abbrev pub vector_text : List ℕ → View → List ℕ → List ℕ
vector_text mark v body = counted_text mark (byte_of v.kind) v.dims.0 body v.readings.0

-- ---- read and strict, which name the mode: the answer about the blob s
unfoldable pub read_text : Result View Refusal → List ℕ → List ℕ
read_text (Ok v) s = vector_text (word "V\t") v (take v.length s)
read_text (Err r) s = refusal_text r

abbrev pub read_blob_text : Mode → List ℕ → List ℕ
read_blob_text mode s = read_text (read_of mode s) s

unfoldable pub read_reply : Mode → List ℕ → List ℕ
unfolding read_text from_hex
read_reply mode field = from_hex (read_blob_text mode) field

-- ---- the kind that K names, a type byte in one decimal digit
unfoldable pub kind_of : List ℕ → Result VectorType KindError
unfolding by_byte numeral_of
kind_of field = option_map_or by_byte (numeral_of 1 field) (Err Unknown)

-- ---- conv: the answer about the body that the conversion makes
unfoldable pub convert_text : Result View Refusal → List ℕ → List ℕ
convert_text (Ok v) body = vector_text (word "C\t") v body
convert_text (Err r) body = refusal_text r

-- of the blob s, in room for the most elements and for the longest blob
abbrev pub convert_blob_text : VectorType → List ℕ → List ℕ
convert_blob_text t s = let c = conversion_of s t scratch_room max_blob_length in convert_text c.answer c.out

unfoldable pub convert_reply : List ℕ → List ℕ → List ℕ
unfolding convert_text from_hex kind_of
convert_reply kind field = option_map_or (λ t. from_hex (convert_blob_text t) field) (result_ok (kind_of kind)) malformed
