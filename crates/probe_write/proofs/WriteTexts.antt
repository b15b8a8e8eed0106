-- Laws of the replies that write a blob: what the blob measures, and the reply by the fields of a line.
use Rattle.std.proofs.Common.{◌≡◌, ◌∙◌, refl, sym, ap, List, [], ◌∷◌, ◌++◌, ℕ, ◌≤◌, length, take, arith, Option, Some, None, Result, Ok, Err}
use Rattle.std.specs.Option.{option_map_or}
use Rattle.std.specs.Result.{result_ok}
use Rattle.lines.specs.Text.{word}
use Rattle.lines.specs.Hex.{decoded_of, hex_of}
use Rattle.lines.specs.Decimal.{numeral_of}
use Rattle.lines.specs.Parts.{fields_of}
use Rattle.lines.specs.Fields.{exactly, malformed}
use Rattle.lines.proofs.Fields.{exactly-first, exactly-one, exactly-last_bytes, from-hex-none, from-hex-some}
use Rattle.vector_types.specs.declared.VectorType.{VectorType}
use Rattle.vector_types.specs.declared.KindError.{KindError}
use Rattle.vector_types.specs.declared.Refusal.{Refusal}
use Rattle.blob_writer.specs.Write.{write_leaving, write_outcome}
use Rattle.blob_writer.proofs.Written.{written-clear, written-blob, write-outcome-parts}
use Rattle.reply_texts.specs.Texts.{refusal_text}
use Rattle.probe_blobs.specs.Limits.{blob_room}
use Rattle.probe_blobs.specs.Blobs.{kind_of}
use Rattle.probe_blobs.proofs.BlobTexts.{unnamed}
use Rattle.probe_write.specs.Write.{write_text, write_body_text, write_kind_reply, write_reply}

-- ---- what is written, in room for the longest blob: the first bytes of the room are the blob
module _ (k : VectorType) (d : ℕ) (body made left : List ℕ) where
  pub written_fits : (n : ℕ) → write_leaving (Ok n) left ≡ write_outcome k d body made → n ≤ length made
  written_fits n e =
      let (_, fits, long) = written-clear k d body (length made) n (sym (write-outcome-parts k d body made (Ok n) left e).0) in
      omega (arith, fits, long)

  pub written_text : (n : ℕ) → write_leaving (Ok n) left ≡ write_outcome k d body made → length made ≡ blob_room → word "W\t" ++ hex_of (take n left) ≡ write_body_text k d body
  unfolding write_text
  written_text n e longest =
      let (answer, out) = write-outcome-parts k d body made (Ok n) left e in
      let (_, _, blob) = written-blob k d body made n (sym answer) in
      let is = rw longest at answer in
      rw (out, blob, ← is) refl

  pub refused_text : (r : Refusal) → write_leaving (Err r) left ≡ write_outcome k d body made → length made ≡ blob_room → refusal_text r ≡ write_body_text k d body
  unfolding write_text
  refused_text r e longest =
      let is = rw longest at (write-outcome-parts k d body made (Err r) left e).0 in
      rw (← is) refl

-- ---- fewer than three fields
pub write-one : (rest : List ℕ) → fields_of rest ≡ rest ∷ [] → exactly 3 write_reply (fields_of rest) ≡ malformed
write-one rest e = exactly-one 1 write_reply rest e

pub write-two : (rest first more : List ℕ) → fields_of rest ≡ first ∷ fields_of more → fields_of more ≡ more ∷ [] → exactly 3 write_reply (fields_of rest) ≡ malformed
write-two rest first more e f = exactly-first 2 write_reply rest first more e ∙ exactly-one 0 (write_reply first) more f

-- ---- three: K names a kind or none, N is a number or none, H is bytes or none
module _ (rest first more number field : List ℕ) (e : fields_of rest ≡ first ∷ fields_of more) (f : fields_of more ≡ number ∷ fields_of field) where
  write-named : (o : Option VectorType) → o ≡ result_ok (kind_of first) → exactly 3 write_reply (fields_of rest) ≡ option_map_or (λ k. write_kind_reply k number field) o malformed
  unfolding write_reply
  write-named o is =
      exactly-first 2 write_reply rest first more e ∙ exactly-first 1 (write_reply first) more number field f
      ∙ exactly-last_bytes (write_reply first number) field (λ none. by (result_ok (kind_of first)) none) ∙ rw is
    where
      by : (o : Option VectorType) → decoded_of field ≡ None → option_map_or (λ k. write_kind_reply k number field) o malformed ≡ malformed
      by None none = refl
      by (Some k) none = unnamed (write_body_text k) (numeral_of 10 number) field none

  module _ (r : Result VectorType KindError) (is : r ≡ kind_of first) where
    pub write-no_kind : None ≡ result_ok r → exactly 3 write_reply (fields_of rest) ≡ malformed
    write-no_kind none = write-named None (none ∙ ap result_ok is)

    module _ (k : VectorType) (some : Some k ≡ result_ok r) where
      pub write-no_dims : None ≡ numeral_of 10 number → exactly 3 write_reply (fields_of rest) ≡ malformed
      write-no_dims none = write-named (Some k) (some ∙ ap result_ok is) ∙ rw (← none)

      module _ (d : ℕ) (dims : Some d ≡ numeral_of 10 number) where
        pub write-no_body : decoded_of field ≡ None → exactly 3 write_reply (fields_of rest) ≡ malformed
        write-no_body none = write-named (Some k) (some ∙ ap result_ok is) ∙ rw (← dims) (from-hex-none (write_body_text k d) field none)

        pub write-body : (body : List ℕ) → decoded_of field ≡ Some body → exactly 3 write_reply (fields_of rest) ≡ write_body_text k d body
        write-body body bytes = write-named (Some k) (some ∙ ap result_ok is) ∙ rw (← dims) (from-hex-some (write_body_text k d) field bytes)

pub ruleset fields = (write-one, write-two, write-no_kind, write-no_dims, write-no_body, write-body)
