-- Laws of the replies that show a vector: what a view and a converted body measure, and the reply to conv by the fields of its line.
use Rattle.std.proofs.Common.{◌≡◌, ◌∙◌, refl, sym, ap, Bool, true, false, cond, List, [], ◌∷◌, ℕ, suc, ◌+◌, ◌*◌, ◌<◌, ◌≤◌, ltb, length, take, drop, arith, Option, Some, None, option_and_then, Result, Ok, Err}
use Rattle.std.specs.Option.{option_map_or}
use Rattle.std.specs.Result.{result_ok}
use lib.Seq.{take_at}
use borrow.Author.Tests.{ltb-true, lt-ltb, lt-leb}
use Rattle.lines.specs.Text.{word}
use Rattle.lines.specs.Hex.{digit_of, number_from, decoded_of}
use Rattle.lines.specs.Decimal.{numeral_of}
use Rattle.lines.specs.Parts.{fields_of}
use Rattle.lines.specs.Fields.{exactly, malformed, from_hex}
use Rattle.lines.proofs.Fields.{exactly-first, exactly-one, exactly-last_bytes, from-hex-none, from-hex-some}
use Rattle.vector_types.specs.Layout.{max_blob_length}
use Rattle.vector_types.specs.Read.{read_of}
use Rattle.vector_types.specs.declared.VectorType.{VectorType}
use Rattle.vector_types.specs.declared.KindError.{KindError}
use Rattle.vector_types.specs.declared.Mode.{Mode}
use Rattle.vector_types.specs.declared.View.{View}
use Rattle.vector_types.specs.declared.Refusal.{Refusal}
use Rattle.vector_types.proofs.Views.{view-facts}
use Rattle.vector_types.proofs.Modes.{shown-plainly}
use Rattle.convert.specs.Convert.{conversion_of, convert_leaving, convert_outcome}
use Rattle.convert.proofs.Answered.{convert-outcome-parts, conversion-fits}
use Rattle.reply_texts.specs.Texts.{refusal_text}
use Rattle.probe_blobs.specs.Limits.{scratch_room, blob_room}
use Rattle.probe_blobs.specs.Blobs.{vector_text, read_blob_text, read_reply, kind_of, convert_text, convert_blob_text, convert_reply}

-- ---- a numeral of one digit
one_digit : (o : Option ℕ) (n : ℕ) → option_and_then (λ d. cond (ltb d 10) (Some (0 * 10 + d)) None) o ≡ Some n → n < 256
one_digit None n e = absurd cc
one_digit (Some d) n e = by (ltb d 10) refl e
  where
    by : (t : Bool) → ltb d 10 ≡ t → cond t (Some (0 * 10 + d)) None ≡ Some n → n < 256
    by true is e = let same : 0 * 10 + d ≡ n = cc in omega (arith, ltb-true d 10 is)
    by false is e = absurd cc

pub digit_below : (s : List ℕ) (n : ℕ) → Some n ≡ numeral_of 1 s → n < 256
unfolding numeral_of number_from
digit_below [] n e = absurd cc
digit_below (b ∷ []) n e = one_digit (digit_of b) n (sym e)
digit_below (b ∷ (b' ∷ s)) n e = absurd (let f = rw (lt-ltb 0 (suc (suc (length s))) (omega arith), lt-leb (suc (suc (length s))) 1 (omega arith)) at e in cc)

-- ---- what is shown
pub seen-within : (mode : Mode) (s : List ℕ) (v : View) → Ok v ≡ read_of mode s → v.length ≤ length s
seen-within mode s v e = (view-facts s v (shown-plainly mode s v (sym e))).within

pub seen-short : (mode : Mode) (s : List ℕ) (v : View) → Ok v ≡ read_of mode s → v.length ≤ max_blob_length
seen-short mode s v e = let t = view-facts s v (shown-plainly mode s v (sym e)) in omega (arith, t.within, t.short)

pub ruleset seen = (seen-within, seen-short)

-- ---- what is converted, in room for the most elements and for the longest blob: the first bytes of the room are the new body
module _ (s : List ℕ) (t : VectorType) (scratch made left after : List ℕ) where
  pub converted_fits : (v : View) → convert_leaving (Ok v) left after ≡ convert_outcome s t scratch made → v.length ≤ length made
  converted_fits v e =
      let answer = (convert-outcome-parts s t scratch made (Ok v) left after e).0 in
      (conversion-fits s t (length scratch) (length made) v (sym answer)).1

  pub converted_text : (v : View) → convert_leaving (Ok v) left after ≡ convert_outcome s t scratch made → length scratch ≡ scratch_room → length made ≡ blob_room
      → vector_text (word "C\t") v (take v.length after) ≡ convert_blob_text t s
  unfolding convert_text
  converted_text v e most longest =
      let (answer, out) = convert-outcome-parts s t scratch made (Ok v) left after e in
      let size = (conversion-fits s t (length scratch) (length made) v (sym answer)).0 in
      let new = (conversion_of s t (length scratch) (length made)).out in
      let body : take v.length after ≡ new = ap (take v.length) out ∙ take_at new (drop (length new) made) v.length size in
      let is = rw (most, longest) at answer in
      rw (body, most, longest, ← is) refl

  pub refused_text : (r : Refusal) → convert_leaving (Err r) left after ≡ convert_outcome s t scratch made → length scratch ≡ scratch_room → length made ≡ blob_room
      → refusal_text r ≡ convert_blob_text t s
  unfolding convert_text
  refused_text r e most longest =
      let is = rw (most, longest) at (convert-outcome-parts s t scratch made (Err r) left after e).0 in
      rw (← is) refl

-- ---- H is the last field, where what stands before it names something, or nothing
pub unnamed : {A : Type 0} (reply : A → List ℕ → List ℕ) (named : Option A) (field : List ℕ) → decoded_of field ≡ None → option_map_or (λ a. from_hex (reply a) field) named malformed ≡ malformed
unnamed reply None field e = refl
unnamed reply (Some a) field e = from-hex-none (reply a) field e

pub read-last : (mode : Mode) (s : List ℕ) → exactly 1 (read_reply mode) (fields_of s) ≡ read_reply mode s
unfolding read_reply
read-last mode s = exactly-last_bytes (read_reply mode) s (from-hex-none (read_blob_text mode) s)

pub ruleset hex = (from-hex-none, from-hex-some)

-- conv of a single field, and of two: K names a kind or none, H is bytes or none
pub convert-one : (rest : List ℕ) → fields_of rest ≡ rest ∷ [] → exactly 2 convert_reply (fields_of rest) ≡ malformed
convert-one rest e = exactly-one 0 convert_reply rest e

module _ (rest kind field : List ℕ) (e : fields_of rest ≡ kind ∷ fields_of field) where
  convert-named : (o : Option VectorType) → o ≡ result_ok (kind_of kind) → exactly 2 convert_reply (fields_of rest) ≡ option_map_or (λ t. from_hex (convert_blob_text t) field) o malformed
  unfolding convert_reply
  convert-named o is =
      exactly-first 1 convert_reply rest kind field e ∙ exactly-last_bytes (convert_reply kind) field (unnamed convert_blob_text (result_ok (kind_of kind)) field) ∙ rw is

  module _ (r : Result VectorType KindError) (is : r ≡ kind_of kind) where
    pub convert-no_kind : None ≡ result_ok r → exactly 2 convert_reply (fields_of rest) ≡ malformed
    convert-no_kind none = convert-named None (none ∙ ap result_ok is)

    module _ (t : VectorType) (some : Some t ≡ result_ok r) where
      pub convert-no_blob : decoded_of field ≡ None → exactly 2 convert_reply (fields_of rest) ≡ malformed
      convert-no_blob none = convert-named (Some t) (some ∙ ap result_ok is) ∙ from-hex-none (convert_blob_text t) field none

      pub convert-blob : (blob : List ℕ) → decoded_of field ≡ Some blob → exactly 2 convert_reply (fields_of rest) ≡ convert_blob_text t blob
      convert-blob blob bytes = convert-named (Some t) (some ∙ ap result_ok is) ∙ from-hex-some (convert_blob_text t) field bytes

pub ruleset conversions = (convert-one, convert-no_kind, convert-no_blob, convert-blob)
