-- Laws of the replies about files of vectors: what the elements measure, what bvecs leaves in the room for the most elements, and the reply by the fields of a line.
use Rattle.std.proofs.Common.{◌≡◌, ◌∙◌, refl, sym, ap, List, [], ◌∷◌, ℕ, ◌*◌, ◌≤◌, length, take, drop, arith, Option, Some, None, Result, Ok, Err}
use Rattle.std.specs.Option.{option_map_or}
use mathlib.Core.Path.{subst₂}
use lib.Dec.{lit≤}
use lib.Seq.{take_at}
use lib.Ieee.{binary32}
use Rattle.promises.specs.Onto.{onto}
use Rattle.lines.specs.Hex.{decoded_of}
use Rattle.lines.specs.Decimal.{numeral_of}
use Rattle.lines.specs.Parts.{fields_of}
use Rattle.lines.specs.Fields.{exactly, malformed, from_hex}
use Rattle.lines.proofs.Fields.{exactly-first, exactly-one, exactly-last_bytes, from-hex-none, from-hex-some}
use Rattle.vector_types.specs.Layout.{max_dims}
use Rattle.vector_types.specs.declared.Refusal.{Refusal}
use Rattle.vecs.specs.Vecs.{vector_at, elements_at, byte_floats, VecsOutcome, vecs_leaving, bvecs_outcome}
use Rattle.vecs.specs.declared.Found.{Found}
use Rattle.convert_parts.proofs.Pieces.{length-floats}
use Rattle.vecs.proofs.AtPlace.{few, length-elements, bvecs-outcome, bvecs-put}
use Rattle.probe_blobs.specs.Limits.{scratch_room}
use Rattle.probe_blobs.proofs.BlobTexts.{unnamed}
use Rattle.probe_vecs.specs.Files.{vecs_text, file_text, file_reply}
use Rattle.probe_vecs.specs.Inner.Floats.{floats_length}
use Rattle.probe_vecs.specs.declared.FileKind.{FileKind}
use Rattle.probe_vecs.specs.declared.FileKind.TheVariants.{Bvecs}

-- ---- fvecs: no vector has more elements than there may be
pub elements_few : (file : List ℕ) (place : ℕ) → length (elements_at 4 file place) ≤ 4 * max_dims
unfolding elements_at
elements_few file place = by_answer (vector_at 4 file place) refl
  where
    by_answer : (r : Result (Option Found) Refusal) → vector_at 4 file place ≡ r → length (elements_at 4 file place) ≤ 4 * max_dims
    by_answer (Ok (Some v)) e = rw (length-elements 4 file place v e) (omega (arith, few 4 file place v e))
    by_answer (Ok None) e = rw e (lit≤ tt)
    by_answer (Err r) e = rw e (lit≤ tt)

-- ---- bvecs in room for the most elements: what stands there is answered, and the first bytes of the room are its elements as f32
module _ (file : List ℕ) (place : ℕ) (room : List ℕ) (roomy : length room ≡ scratch_room) where
  abbrev pub BvecsShown : Result (Option Found) Refusal → List ℕ → Type 0
  BvecsShown r left = (floats_length r ≤ 4 * max_dims) × (vecs_text r (take (floats_length r) left) ≡ file_text Bvecs place file)

  shown-none : (r : Result (Option Found) Refusal) → vector_at 1 file place ≡ r → floats_length r ≡ 0 → ((s t : List ℕ) → vecs_text r s ≡ vecs_text r t) → BvecsShown r room
  unfolding file_text
  shown-none r h none same = (omega (arith, none), same _ (byte_floats (elements_at 1 file place)) ∙ rw h)

  shown-vector : (v : Found) → vector_at 1 file place ≡ Ok (Some v) → BvecsShown (Ok (Some v)) (onto (byte_floats (elements_at 1 file place)) room)
  unfolding file_text
  shown-vector v h =
      let floats = byte_floats (elements_at 1 file place) in
      let size : length floats ≡ 4 * v.dims.0 = length-floats binary32 _ _ ∙ rw (length-elements 1 file place v h) (omega arith) in
      (omega (arith, few 1 file place v h), rw (take_at floats (drop (length floats) room) (4 * v.dims.0) size, h))

  pub bvecs-text : (r : Result (Option Found) Refusal) (left : List ℕ) → vecs_leaving r left ≡ bvecs_outcome file place room → BvecsShown r left
  unfolding vecs_text
  bvecs-text r left e = by_answer (vector_at 1 file place) refl
    where
      by : (s : Result (Option Found) Refusal) (after : List ℕ) → bvecs_outcome file place room ≡ vecs_leaving s after → BvecsShown s after → BvecsShown r left
      by s after o a =
          let answer : s ≡ r = sym (ap (λ (x : VecsOutcome). x.answer) (e ∙ o)) in
          let out : after ≡ left = sym (ap (λ (x : VecsOutcome). x.out) (e ∙ o)) in
          subst₂ BvecsShown answer out a

      by_answer : (s : Result (Option Found) Refusal) → vector_at 1 file place ≡ s → BvecsShown r left
      by_answer (Ok (Some v)) h = by (Ok (Some v)) _ (bvecs-put file place room v h (omega (arith, few 1 file place v h, roomy))) (shown-vector v h)
      by_answer (Ok None) h = by (Ok None) room (bvecs-outcome file place room (Ok None) h) (shown-none (Ok None) h refl (λ s t. refl))
      by_answer (Err x) h = by (Err x) room (bvecs-outcome file place room (Err x) h) (shown-none (Err x) h refl (λ s t. refl))

-- ---- a single field
pub file-one : (kind : FileKind) (rest : List ℕ) → fields_of rest ≡ rest ∷ [] → exactly 2 (file_reply kind) (fields_of rest) ≡ malformed
file-one kind rest e = exactly-one 0 (file_reply kind) rest e

-- ---- two: N is a number or none, H is bytes or none
module _ (kind : FileKind) (rest number field : List ℕ) (e : fields_of rest ≡ number ∷ fields_of field) where
  file-numbered : (o : Option ℕ) → o ≡ numeral_of 10 number → exactly 2 (file_reply kind) (fields_of rest) ≡ option_map_or (λ n. from_hex (file_text kind n) field) o malformed
  unfolding file_reply
  file-numbered o is =
      exactly-first 1 (file_reply kind) rest number field e ∙ exactly-last_bytes (file_reply kind number) field (unnamed (file_text kind) (numeral_of 10 number) field) ∙ rw is

  pub file-no_place : None ≡ numeral_of 10 number → exactly 2 (file_reply kind) (fields_of rest) ≡ malformed
  file-no_place none = file-numbered None none

  module _ (place : ℕ) (some : Some place ≡ numeral_of 10 number) where
    pub file-no_bytes : decoded_of field ≡ None → exactly 2 (file_reply kind) (fields_of rest) ≡ malformed
    file-no_bytes none = file-numbered (Some place) some ∙ from-hex-none (file_text kind place) field none

    pub file-bytes : (file : List ℕ) → decoded_of field ≡ Some file → exactly 2 (file_reply kind) (fields_of rest) ≡ file_text kind place file
    file-bytes file bytes = file-numbered (Some place) some ∙ from-hex-some (file_text kind place) field bytes

pub ruleset fields = (file-one, file-no_place, file-no_bytes, file-bytes)
