-- Laws of the program's own loop: what stands in the buffer is what the pieces of the file so far leave.
use Rattle.std.proofs.Common.{◌≡◌, refl, sym, ap, ap₂, ◌∙◌, Bool, true, false, cond, List, [], ◌∷◌, ◌++◌, ℕ, ◌+◌, ◌<◌, ◌≤◌, ◌^◌, length, take, drop, length-append, length-drop, take-append-drop, arith, Option, None, Some, is_some, Result, Ok, Err}
use mathlib.Core.List.{flatten}
use lib.Seq.{take_all, take-take, length-take-le}
use Rattle.line_stream.specs.Inner.Stream.{kept_of}
use Rattle.line_stream.specs.Inner.Reading.{HoldsPiece}
use Rattle.line_stream.specs.declared.InputText.{InputText}
use Rattle.line_stream.proofs.InputRead.{flatten-more}
use Rattle.vector_types.specs.declared.Refusal.{Refusal}
use Rattle.vector_types.specs.declared.Refusal.TheVariants.{FileEndsInside}
use Rattle.vecs.specs.Vecs.{vector_at}
use Rattle.vecs.specs.declared.Found.{Found}
use Rattle.vecs_lines.specs.Inner.Rooms.{longest_vector}
use Rattle.vecs_lines.specs.Inner.Cut.{vectors_of, size_of, rest_of, refusal_at, answer_at, told, ends_listing}
use Rattle.vecs_lines.proofs.Cutting.{part-short, all-cut, rest-none}
use Rattle.fvecs.specs.Inner.Stream.{FileProgress, none_listed, after_vectors, after_text, after_file_piece, after_file_pieces, ListsOn}
use Rattle.fvecs.specs.declared.ListedText.{ListedText}

-- a refusal is told or not, wherever its text stands
told-anywhere : (last : Bool) (place : ℕ) (r : Refusal) → is_some (told last (refusal_at place r)) ≡ is_some (told last r)
told-anywhere last place (FileEndsInside p) = by last
  where
    by : (b : Bool) → is_some (cond b (Some (FileEndsInside place)) None) ≡ is_some (cond b (Some (FileEndsInside p)) None)
    by true = refl
    by false = refl
told-anywhere last place _ = refl

ends-anywhere : (last : Bool) (place : ℕ) (a : Result (Option Found) Refusal) → ends_listing last (answer_at place a) ≡ ends_listing last a
ends-anywhere last place (Ok (Some v)) = refl
ends-anywhere last place (Ok None) = refl
ends-anywhere last place (Err r) = told-anywhere last place r

-- ---- how far a listing is after so many bytes: it has no more than these, each vector has bytes, and what is left is short
record ProgressBounds (bytes : ℕ) (p : FileProgress) : Type 0 where
  size : p.place + length p.rest ≤ bytes
  few : p.before ≤ p.place
  short : p.ended ≡ false → length p.rest < longest_vector

bounds-next : (bytes : ℕ) (p : FileProgress) (s : List ℕ) → ProgressBounds bytes p → ProgressBounds (bytes + length s) (after_file_piece p s)
bounds-next bytes p s h = by p.ended refl
  where
    by : (b : Bool) → p.ended ≡ b → ProgressBounds (bytes + length s) (cond b p (after_text false p (p.rest ++ s)))
    by true e = record { size = omega (arith, h.size); few = h.few; short = λ on. absurd cc }
    by false e =
        let text = p.rest ++ s in
        let all = all-cut text in
        record {
          size = omega (arith, h.size, all.within, length-drop (size_of (vectors_of text)) text, length-append p.rest s);
          few = omega (arith, h.few, all.few);
          short = λ on. part-short (rest_of text) (rest-none text) (sym (ends-anywhere false (p.place + size_of (vectors_of text)) (vector_at 4 (rest_of text) 0)) ∙ on);
        }

bounds-after : (bytes : ℕ) (p : FileProgress) (pieces : List (List ℕ)) → ProgressBounds bytes p → ProgressBounds (bytes + length (flatten pieces)) (after_file_pieces p pieces)
unfolding flatten after_file_pieces
bounds-after bytes p [] h = let all : bytes + 0 ≡ bytes = omega arith in rw all h
bounds-after bytes p (s ∷ pieces) h =
    let all : bytes + length (s ++ flatten pieces) ≡ bytes + length s + length (flatten pieces) = omega (arith, length-append s (flatten pieces)) in
    rw all (bounds-after (bytes + length s) (after_file_piece p s) pieces (bounds-next bytes p s h))

after_more : (p : FileProgress) (pieces : List (List ℕ)) (s : List ℕ) → after_file_pieces p (pieces ++ (s ∷ [])) ≡ after_file_piece (after_file_pieces p pieces) s
unfolding after_file_pieces
after_more p [] s = refl
after_more p (t ∷ pieces) s = after_more (after_file_piece p t) pieces s

-- ---- of the pieces that came bytes are left, from `at` up to `end`; they start at a place of the file, b vectors came before it, no refusal ended
-- the listing, and `left` bytes more may come before there are `top` in all
pub record FileRead (buffer : List ℕ) (at end place b left top : ℕ) : Type 0 where
  pub pieces : List (List ℕ)
  pub within : at ≤ end
  pub inside : end ≤ length buffer
  pub rest : drop at (take end buffer) ≡ (after_file_pieces none_listed pieces).rest
  pub placed : place ≡ (after_file_pieces none_listed pieces).place
  pub numbered : b ≡ (after_file_pieces none_listed pieces).before
  pub on : (after_file_pieces none_listed pieces).ended ≡ false
  pub room : length (flatten pieces) + left ≤ top

pub no-file-read : (buffer : List ℕ) (top : ℕ) → FileRead buffer 0 0 0 0 top top
unfolding after_file_pieces flatten
no-file-read buffer top = record { pieces = []; within = omega arith; inside = omega arith; rest = refl; placed = refl; numbered = refl; on = refl; room = omega arith }

-- the next piece is read
module _ {buffer b₁ : List ℕ} {at end place b left top : ℕ} {t : InputText} (c : FileRead buffer at end place b left top) (h : HoldsPiece (kept_of longest_vector (drop at (take end buffer))) left b₁ t) where
  abbrev progress : FileProgress
  progress = after_file_pieces none_listed c.pieces

  bounds : ProgressBounds (0 + length (flatten c.pieces)) progress
  bounds = bounds-after 0 none_listed c.pieces (record { size = omega arith; few = omega arith; short = λ on. omega arith })

  -- all that was left is kept
  kept : kept_of longest_vector (drop at (take end buffer)) ≡ progress.rest
  unfolding kept_of
  kept = ap (take longest_vector) c.rest ∙ take_all longest_vector progress.rest (omega (arith, bounds.short c.on))

  front : take t.count (take t.end b₁) ≡ progress.rest
  front = take-take t.count t.end b₁ h.within ∙ h.front ∙ kept

  pub text-counted : top + t.end + 1 < 2 ^ 64 → (place + length (take t.end b₁) < 2 ^ 64) × (b + length (take t.end b₁) + 1 < 2 ^ 64)
  text-counted few =
      let size = length-take-le t.end b₁ h.fits in
      (omega (arith, size, bounds.size, c.placed, c.room), omega (arith, size, bounds.size, bounds.few, c.numbered, c.room))

  -- all its vectors are listed, and the file may go on
  pub piece-listed : {r : ListedText} → t.more ≡ true → ListsOn false (take t.end b₁) place b r → FileRead b₁ r.at t.end (place + r.at) r.before t.left top
  piece-listed {r} more p =
      let text = take t.end b₁ in
      let size = length-take-le t.end b₁ h.fits in
      let s = drop t.count text in
      let whole : text ≡ progress.rest ++ s = sym (take-append-drop t.count text) ∙ ap (λ (l : List ℕ). l ++ s) front in
      let step : after_file_pieces none_listed (c.pieces ++ (s ∷ [])) ≡ after_text false progress text
      = after_more none_listed c.pieces s ∙ rw (c.on, ← whole) in
      record {
        pieces = c.pieces ++ (s ∷ []);
        within = omega (arith, size, p.all.place, (all-cut text).within);
        inside = h.fits;
        rest = ap (λ (n : ℕ). drop n text) p.all.place ∙ ap (λ (z : FileProgress). z.rest) (sym step);
        placed = ap₂ (λ (m n : ℕ). m + n) c.placed p.all.place ∙ ap (λ (z : FileProgress). z.place) (sym step);
        numbered = p.all.numbered ∙ ap (λ (n : ℕ). n + length (vectors_of text)) c.numbered ∙ ap (λ (z : FileProgress). z.before) (sym step);
        on = ap (λ (z : FileProgress). z.ended) step ∙ ap (λ (n : ℕ). ends_listing false (after_vectors n text)) (sym c.placed) ∙ p.on;
        room = omega (arith, flatten-more c.pieces s, length-drop t.count text, size, c.room, h.fewer more);
      }
