-- The replies to lines that append a blob to an fvecs file. With | for a tab a line is
--     append|N|A|H
-- where N is the fill in 1 to 10 decimal digits, A the buffer in lower-case hexadecimal, of at most 524,293 bytes, and H a blob in the
-- same. The replies are
--     A|N|A    R|number    R|15|N
-- where A has the new fill and the buffer, and 15 the bytes needed after the fill; or X where a field is none of these.
use Rattle.std.specs.Prelude.{ℕ, List, ◌++◌, Result, Ok, Err}
use Rattle.std.specs.Option.{option_map_or}
use Rattle.lines.specs.Text.{word}
use Rattle.lines.specs.Hex.{hex_of}
use Rattle.lines.specs.Fields.{malformed, from_hex}
use Rattle.lines.specs.Decimal.{numeral_of}
use Rattle.lines.specs.Printed.{head_of, limited}
use Rattle.vector_types.specs.Layout.{max_blob_length}
use Rattle.vector_types.specs.declared.Refusal.{Refusal}
use Rattle.vecs.specs.Append.{AppendOutcome, append_outcome}
use Rattle.reply_texts.specs.Texts.{refusal_text}

-- the new fill, and the buffer
abbrev pub filled_text : ℕ → List ℕ → List ℕ
filled_text n out = (word "A\t" ++ head_of n) ++ hex_of out

unfoldable pub append_text : Result ℕ Refusal → List ℕ → List ℕ
append_text (Ok n) out = filled_text n out
append_text (Err r) out = refusal_text r

abbrev pub outcome_text : AppendOutcome → List ℕ
outcome_text o = append_text o.answer o.out

-- of a fill, a buffer, and the blob that H is
abbrev pub buffer_reply : ℕ → List ℕ → List ℕ → List ℕ
buffer_reply fill field out = from_hex (λ blob. outcome_text (append_outcome blob out fill)) field

-- of a fill; X where the buffer has more bytes than the longest blob
abbrev pub append_fill_reply : ℕ → List ℕ → List ℕ → List ℕ
append_fill_reply fill buffer field = from_hex (limited max_blob_length (buffer_reply fill field)) buffer

unfoldable pub append_reply : List ℕ → List ℕ → List ℕ → List ℕ
unfolding append_text append_outcome from_hex
append_reply number buffer field = option_map_or (λ fill. append_fill_reply fill buffer field) (numeral_of 10 number) malformed
