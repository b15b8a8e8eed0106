-- The reply to a line of four fields, by these.
use Rattle.std.proofs.Common.{◌≡◌, ◌∙◌, refl, List, [], ◌∷◌, ◌<◌, ℕ, length, Option, Some, None}
use Rattle.std.specs.Option.{option_map_or}
use Rattle.lines.specs.Hex.{decoded_of}
use Rattle.lines.specs.Parts.{fields_of}
use Rattle.lines.specs.Fields.{malformed, exactly, from_hex}
use Rattle.lines.proofs.Fields.{exactly-first, exactly-one, exactly-last_bytes, from-hex-none, from-hex-some}
use Rattle.distance.specs.declared.Distance.{Distance}
use Rattle.nearer.specs.Nearer.{nearer_of}
use Rattle.vecdist_lines.specs.Line.{asked_of}
use Rattle.probe_near.specs.Near.{nearer_text, nearest_reply, near_reply}

-- ---- too few fields
pub reply-one : (rest : List ℕ) → fields_of rest ≡ rest ∷ [] → exactly 4 near_reply (fields_of rest) ≡ malformed
reply-one rest e = exactly-one 2 near_reply rest e

pub reply-two : (rest field blobs : List ℕ) → fields_of rest ≡ field ∷ fields_of blobs → fields_of blobs ≡ blobs ∷ [] → exactly 4 near_reply (fields_of rest) ≡ malformed
reply-two rest field blobs e f = exactly-first 3 near_reply rest field blobs e ∙ exactly-one 1 (near_reply field) blobs f

-- ---- one of the blobs is none
pub first-none : (m : Distance) (probe first second : List ℕ) → decoded_of first ≡ None → nearest_reply m probe first second ≡ malformed
first-none m probe first second e = by (decoded_of probe) refl
  where
    by : (o : Option (List ℕ)) → decoded_of probe ≡ o → nearest_reply m probe first second ≡ malformed
    by None n = from-hex-none _ probe n
    by (Some p) s = from-hex-some _ probe s ∙ from-hex-none _ first e

pub second-none : (m : Distance) (probe first second : List ℕ) → decoded_of second ≡ None → nearest_reply m probe first second ≡ malformed
second-none m probe first second e = by (decoded_of probe) refl (decoded_of first) refl
  where
    by : (o : Option (List ℕ)) → decoded_of probe ≡ o → (q : Option (List ℕ)) → decoded_of first ≡ q → nearest_reply m probe first second ≡ malformed
    by None n q h = from-hex-none _ probe n
    by (Some p) s None h = from-hex-some _ probe s ∙ from-hex-none _ first h
    by (Some p) s (Some a) h = from-hex-some _ probe s ∙ from-hex-some _ first h ∙ from-hex-none _ second e

-- ---- four fields: D names a distance, or none
module _ (rest field blobs probe candidates : List ℕ) (e : fields_of rest ≡ field ∷ fields_of blobs) (f : fields_of blobs ≡ probe ∷ fields_of candidates) where
  pub reply-three : fields_of candidates ≡ candidates ∷ [] → exactly 4 near_reply (fields_of rest) ≡ malformed
  reply-three h = exactly-first 3 near_reply rest field blobs e ∙ exactly-first 2 (near_reply field) blobs probe candidates f ∙ exactly-one 0 (near_reply field probe) candidates h

  pub reply-asked : (first second : List ℕ) {o : Option Distance} → fields_of candidates ≡ first ∷ fields_of second → o ≡ asked_of field
      → exactly 4 near_reply (fields_of rest) ≡ option_map_or (λ m. nearest_reply m probe first second) o malformed
  unfolding near_reply
  reply-asked first second h is =
      exactly-first 3 near_reply rest field blobs e ∙ exactly-first 2 (near_reply field) blobs probe candidates f
      ∙ exactly-first 1 (near_reply field probe) candidates first second h
      ∙ exactly-last_bytes (near_reply field probe first) second (λ none. by (asked_of field) none) ∙ rw is refl
    where
      by : (o : Option Distance) → decoded_of second ≡ None → option_map_or (λ m. nearest_reply m probe first second) o malformed ≡ malformed
      by None n = refl
      by (Some m) n = second-none m probe first second n
