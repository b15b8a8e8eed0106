-- Laws of the replies that append: the text of an outcome, and the reply by the fields of a line.
use Rattle.std.proofs.Common.{◌≡◌, ◌∙◌, refl, Bool, true, false, cond, List, [], ◌∷◌, ℕ, ◌*◌, ◌<◌, ◌≤◌, ◌⊎◌, inl, inr, eqb, ltb, length, take, arith, length-take, Option, Some, None}
use Rattle.std.specs.Option.{option_map_or}
use borrow.Author.Tests.{lt-ltb, le-ltb, eqb-true}
use Rattle.lines.specs.Hex.{hex_bytes, decoded_of}
use Rattle.lines.specs.Decimal.{numeral_of}
use Rattle.lines.specs.Parts.{fields_of}
use Rattle.lines.specs.Fields.{exactly, malformed, from_hex}
use Rattle.lines.specs.Printed.{limited}
use Rattle.lines.proofs.Fields.{exactly-first, exactly-one, exactly-last_bytes, from-hex-none, from-hex-some}
use Rattle.vector_types.specs.Layout.{max_blob_length}
use Rattle.vecs.specs.Append.{append_outcome}
use Rattle.probe_append.specs.Appending.{outcome_text, append_fill_reply, append_reply}

-- ---- fewer than three fields
pub append-one : (rest : List ℕ) → fields_of rest ≡ rest ∷ [] → exactly 3 append_reply (fields_of rest) ≡ malformed
append-one rest e = exactly-one 1 append_reply rest e

pub append-two : (rest number more : List ℕ) → fields_of rest ≡ number ∷ fields_of more → fields_of more ≡ more ∷ [] → exactly 3 append_reply (fields_of rest) ≡ malformed
append-two rest number more e f = exactly-first 2 append_reply rest number more e ∙ exactly-one 0 (append_reply number) more f

-- ---- three: A is longer than the longest blob, or no bytes
decoded_over : (reply : List ℕ → List ℕ) (field : List ℕ) {bytes : List ℕ} → decoded_of field ≡ Some bytes → max_blob_length < length bytes → from_hex (limited max_blob_length reply) field ≡ malformed
decoded_over reply field {bytes = bytes} whole over = from-hex-some _ field whole ∙ rw (lt-ltb max_blob_length (length bytes) over)

over_limit : (reply : List ℕ → List ℕ) (field : List ℕ) → 2 * max_blob_length < length field → from_hex (limited max_blob_length reply) field ≡ malformed
unfolding decoded_of
over_limit reply field over = by (eqb (2 * length (hex_bytes field)) (length field)) refl
  where
    by : (b : Bool) → eqb (2 * length (hex_bytes field)) (length field) ≡ b → from_hex (limited max_blob_length reply) field ≡ malformed
    by true e =
        let all = eqb-true (2 * length (hex_bytes field)) (length field) e in
        let whole : decoded_of field ≡ Some (hex_bytes field) = rw e refl in
        decoded_over reply field whole (omega (arith, all, over))
    by false e = let none : decoded_of field ≡ None = rw e refl in from-hex-none _ field none

no_buffer : (fill : ℕ) (first second : List ℕ) → (2 * max_blob_length < length first) ⊎ (decoded_of first ≡ None) → append_fill_reply fill first second ≡ malformed
no_buffer fill first second none = elim none [ inl over ↦ over_limit _ first over | inr undecoded ↦ from-hex-none _ first undecoded ]

-- ---- H is no bytes
limited-malformed : (b : Bool) {x : List ℕ} → x ≡ malformed → cond b malformed x ≡ malformed
limited-malformed true e = refl
limited-malformed false e = e

no_blob : (fill : ℕ) (first second : List ℕ) → decoded_of second ≡ None → append_fill_reply fill first second ≡ malformed
no_blob fill first second none = by (decoded_of first) refl
  where
    by : (o : Option (List ℕ)) → decoded_of first ≡ o → append_fill_reply fill first second ≡ malformed
    by None is = from-hex-none _ first is
    by (Some buffer) is = from-hex-some _ first is ∙ limited-malformed (ltb max_blob_length (length buffer)) (from-hex-none _ second none)

-- ---- N is a number or none, A is bytes or none, and at most as many as the longest blob
module _ (rest number more first second : List ℕ) (e : fields_of rest ≡ number ∷ fields_of more) (f : fields_of more ≡ first ∷ fields_of second) where
  append-numbered : (o : Option ℕ) → o ≡ numeral_of 10 number → exactly 3 append_reply (fields_of rest) ≡ option_map_or (λ fill. append_fill_reply fill first second) o malformed
  unfolding append_reply
  append-numbered o is =
      exactly-first 2 append_reply rest number more e ∙ exactly-first 1 (append_reply number) more first second f
      ∙ exactly-last_bytes (append_reply number first) second (λ none. by (numeral_of 10 number) none) ∙ rw is
    where
      by : (o : Option ℕ) → decoded_of second ≡ None → option_map_or (λ fill. append_fill_reply fill first second) o malformed ≡ malformed
      by None none = refl
      by (Some fill) none = no_blob fill first second none

  pub append-no_fill : None ≡ numeral_of 10 number → exactly 3 append_reply (fields_of rest) ≡ malformed
  append-no_fill none = append-numbered None none

  module _ (fill : ℕ) (some : Some fill ≡ numeral_of 10 number) where
    pub append-no_buffer : (2 * max_blob_length < length first) ⊎ (decoded_of first ≡ None) → exactly 3 append_reply (fields_of rest) ≡ malformed
    append-no_buffer none = append-numbered (Some fill) some ∙ no_buffer fill first second none

    pub append-no_blob : decoded_of second ≡ None → exactly 3 append_reply (fields_of rest) ≡ malformed
    append-no_blob none = append-numbered (Some fill) some ∙ no_blob fill first second none

    module _ (buffer : List ℕ) (bytes : decoded_of first ≡ Some buffer) where
      pub append-over : max_blob_length < length buffer → exactly 3 append_reply (fields_of rest) ≡ malformed
      append-over over = append-numbered (Some fill) some ∙ decoded_over _ first bytes over

    pub append-blob : (size : ℕ) (made blob : List ℕ) → decoded_of first ≡ Some (take size made) → size ≤ max_blob_length → decoded_of second ≡ Some blob
        → exactly 3 append_reply (fields_of rest) ≡ outcome_text (append_outcome blob (take size made) fill)
    append-blob size made blob bytes fits whole =
        let within : length (take size made) ≤ max_blob_length = omega (arith, fits, length-take size made) in
        append-numbered (Some fill) some ∙ from-hex-some _ first bytes ∙ rw (le-ltb max_blob_length (length (take size made)) within) (from-hex-some _ second whole)

pub ruleset fields = (append-one, append-two, append-no_fill, append-no_buffer, append-no_blob, append-over, append-blob)
