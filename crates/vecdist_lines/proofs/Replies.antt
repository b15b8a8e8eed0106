-- The reply to a line of three fields, by these.
use Rattle.std.proofs.Common.{◌≡◌, ◌∙◌, refl, List, [], ◌∷◌, ℕ, Option, Some, None}
use Rattle.std.specs.Option.{option_map_or}
use Rattle.lines.specs.Hex.{decoded_of}
use Rattle.lines.specs.Parts.{fields_of}
use Rattle.lines.specs.Fields.{malformed}
use Rattle.lines.proofs.Fields.{exactly-first, exactly-one, exactly-last_bytes, from-hex-none, from-hex-some}
use Rattle.distance.specs.declared.Distance.{Distance}
use Rattle.vecdist_lines.specs.Line.{asked_of, measured_reply, distance_reply, vecdist_reply}

-- ---- too few fields
pub reply-one : (line : List ℕ) → fields_of line ≡ line ∷ [] → vecdist_reply line ≡ malformed
unfolding vecdist_reply
reply-one line e = exactly-one 1 distance_reply line e

pub reply-two : (line field blobs : List ℕ) → fields_of line ≡ field ∷ fields_of blobs → fields_of blobs ≡ blobs ∷ [] → vecdist_reply line ≡ malformed
unfolding vecdist_reply
reply-two line field blobs e f = exactly-first 2 distance_reply line field blobs e ∙ exactly-one 0 (distance_reply field) blobs f

-- ---- three fields: A or B is no blob
pub measured-none : (m : Distance) (first second : List ℕ) → decoded_of second ≡ None → measured_reply m first second ≡ malformed
measured-none m first second e = by (decoded_of first) refl
  where
    by : (o : Option (List ℕ)) → decoded_of first ≡ o → measured_reply m first second ≡ malformed
    by None n = from-hex-none _ first n
    by (Some a) s = from-hex-some _ first s ∙ from-hex-none _ second e

-- D names a distance, or none
module _ (line field blobs first second : List ℕ) (e : fields_of line ≡ field ∷ fields_of blobs) (f : fields_of blobs ≡ first ∷ fields_of second) where
  pub reply-asked : {o : Option Distance} → o ≡ asked_of field → vecdist_reply line ≡ option_map_or (λ m. measured_reply m first second) o malformed
  unfolding vecdist_reply distance_reply
  reply-asked is =
      exactly-first 2 distance_reply line field blobs e ∙ exactly-first 1 (distance_reply field) blobs first second f
      ∙ exactly-last_bytes (distance_reply field first) second (λ none. by (asked_of field) none) ∙ rw is
    where
      by : (o : Option Distance) → decoded_of second ≡ None → option_map_or (λ m. measured_reply m first second) o malformed ≡ malformed
      by None e = refl
      by (Some m) e = measured-none m first second e
