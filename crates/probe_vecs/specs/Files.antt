-- The replies to lines about a file of vectors. With | for a tab the lines are
--     fvecs|N|H    bvecs|N|H
-- where N is a place in 1 to 10 decimal digits and H a file in lower-case hexadecimal. The replies are
--     I|N|N|H    E    R|9    R|19|N
-- where I has the next place, the dims and the elements as a Float32Dense body, E is the end of the file, and 19 has the place where the
-- vector starts; or X where a field is none of these.
use Rattle.std.specs.Prelude.{ℕ, List, Option, Some, None, Result, Ok, Err}
use Rattle.std.specs.Option.{option_map_or}
use Rattle.lines.specs.Text.{word}
use Rattle.lines.specs.Fields.{malformed, from_hex}
use Rattle.lines.specs.Decimal.{numeral_of}
use Rattle.vector_types.specs.declared.Refusal.{Refusal}
use Rattle.vecs.specs.Vecs.{vector_at, elements_at, byte_floats}
use Rattle.vecs.specs.declared.Found.{Found}
use Rattle.reply_texts.specs.Texts.{refusal_text, shown_text}
use Rattle.probe_vecs.specs.declared.FileKind.{FileKind}
use Rattle.probe_vecs.specs.declared.FileKind.TheVariants.{Fvecs, Bvecs}

-- the answer about a place, where a vector's elements are this body
unfoldable pub vecs_text : Result (Option Found) Refusal → List ℕ → List ℕ
vecs_text (Ok (Some v)) body = shown_text (word "I\t") v.next v.dims.0 body
vecs_text (Ok None) body = word "E"
vecs_text (Err r) body = refusal_text r

-- of a file: the elements of fvecs as they are, those of bvecs as f32, for which there is always room
unfoldable pub file_text : FileKind → ℕ → List ℕ → List ℕ
unfolding vecs_text vector_at elements_at
file_text Fvecs place file = vecs_text (vector_at 4 file place) (elements_at 4 file place)
file_text Bvecs place file = vecs_text (vector_at 1 file place) (byte_floats (elements_at 1 file place))

unfoldable pub file_reply : FileKind → List ℕ → List ℕ → List ℕ
unfolding file_text from_hex
file_reply kind place field = option_map_or (λ n. from_hex (file_text kind n) field) (numeral_of 10 place) malformed
