-- Laws of a text that is listed part after part: once no vector is left, all of its vectors are.
use Rattle.std.proofs.Common.{◌≡◌, refl, sym, ap, ◌∙◌, true, false, Bool, List, [], ◌∷◌, ◌++◌, ℕ, ◌+◌, ◌-◌, ◌<◌, ◌≤◌, length, drop, length-append, length-drop, arith, eqb, Option, None, Some, is_some, Result}
use borrow.Author.Tests.{eqb-true, ltb-true, ltb-false}
use Rattle.std.specs.Option.{option_map_or}
use Rattle.line_stream.proofs.Answering.{no_lines, answered-first, some-answered}
use Rattle.vecs_lines.specs.Inner.Rooms.{vector_line_room}
use Rattle.lines.specs.Text.{newline}
use Rattle.lines.specs.Printed.{head_of, numbered_reply}
use Rattle.reply_texts.specs.Texts.{refusal_text}
use Rattle.vecs.specs.Vecs.{vector_at}
use Rattle.vecs.specs.declared.Found.{Found}
use Rattle.vector_types.specs.declared.Refusal.{Refusal}
use Rattle.vecs_lines.specs.Inner.Cut.{vectors_of, size_of, whole_reply, listed_vectors, Lists, answer_at, told_refusal, ends_listing, told_line}
use Rattle.vecs_lines.specs.declared.ListedVectors.{ListedVectors}
use Rattle.vecs_lines.proofs.Cutting.{size-append, cut-after}
use Rattle.fvecs.specs.Inner.Stream.{after_vectors, ListsAll, ListsOn}
use Rattle.fvecs.specs.declared.ListedText.{ListedText}

-- the vectors before the rest of a text are listed, and b is the number of the last
pub record TextListedUpTo (text : List ℕ) (before : ℕ) (rest : List ℕ) (b : ℕ) : Type 0 where
  pub within : length rest ≤ length text
  pub few : b + length rest ≤ before + length text
  pub place : length text - length rest + size_of (vectors_of rest) ≡ size_of (vectors_of text)
  pub numbered : b + length (vectors_of rest) ≡ before + length (vectors_of text)

-- vectors of the rest are listed
module _ {room b : ℕ} {rest out o : List ℕ} {r : ListedVectors} (s : Lists room rest b out o r) where
  abbrev new : List (List ℕ)
  new = listed_vectors rest b room

  abbrev others : List (List ℕ)
  others = (answered-first whole_reply vector_line_room (b + 1) room (vectors_of rest)).0

  parted : vectors_of rest ≡ new ++ others
  parted = (answered-first whole_reply vector_line_room (b + 1) room (vectors_of rest)).1

  ahead : vectors_of (drop r.at rest) ≡ others
  ahead = rw s.place (cut-after new others rest parted).ahead

  pub listed-within : r.at ≤ length rest
  listed-within = rw s.place (cut-after new others rest parted).within

  pub more-listed : {text : List ℕ} {before : ℕ} → TextListedUpTo text before rest b → TextListedUpTo text before (drop r.at rest) r.before
  more-listed p =
      let cut = cut-after new others rest parted in
      let left = length-drop r.at rest in
      let size = ap size_of parted ∙ size-append new others in
      let count = ap length parted ∙ length-append new others in
      record {
        within = omega (arith, p.within);
        few = omega (arith, p.few, s.numbered, s.place, cut.few, cut.within);
        place = omega (arith, p.place, p.within, ap size_of ahead, s.place, cut.within);
        numbered = omega (arith, p.numbered, ap length ahead, s.numbered);
      }

  -- where the listing does not stop, vectors were listed
  pub listing-shorter : vector_line_room ≤ room → r.more ≡ true → length (drop r.at rest) < length rest
  listing-shorter fits more =
      let left = ltb-true (length new) (length (vectors_of rest)) (sym s.more ∙ more) in
      let cut = cut-after new others rest parted in
      omega (arith, s.place, cut.few, cut.within, length-drop r.at rest, some-answered whole_reply vector_line_room (b + 1) room (vectors_of rest) fits (omega (arith, left)))

  -- and where it does, none is left
  pub all-listed : {text : List ℕ} {before : ℕ} → TextListedUpTo text before rest b → r.more ≡ false
      → ListsAll text before (record { at = length text - length (drop r.at rest); before = r.before })
  all-listed p stop =
      let all = ltb-false (length new) (length (vectors_of rest)) (sym s.more ∙ stop) in
      let count = ap length parted ∙ length-append new others in
      let none : others ≡ [] = no_lines others (omega arith) in
      let q = more-listed p in
      record { place = omega (arith, q.place, ap size_of (ahead ∙ none)); numbered = omega (arith, q.numbered, ap length (ahead ∙ none)) }

-- ---- what follows the vectors: nothing is put for it, so it ends no listing
nothing_put : (last : Bool) (n : ℕ) (a : Result (Option Found) Refusal) → length (told_line last n a) ≡ 0 → ends_listing last a ≡ false
unfolding numbered_reply
nothing_put last n a = by (told_refusal last a)
  where
    by : (told : Option Refusal) → length (option_map_or (λ r. numbered_reply n (refusal_text r)) told []) ≡ 0 → is_some told ≡ false
    by None e = refl
    by (Some r) e = absurd (omega (arith, e, length-append (head_of n) (refusal_text r ++ (newline ∷ [])), length-append (refusal_text r) (newline ∷ [])))

-- out is what is put, and it is empty
pub goes-on-after : {last : Bool} {text out : List ℕ} {place before : ℕ} {r : ListedText} (number : ℕ) → ListsAll text before r
    → out ≡ told_line last number (answer_at (place + r.at) (vector_at 4 (drop r.at text) 0)) → eqb (length out) 0 ≡ true → ListsOn last text place before r
goes-on-after {last} {text} {out} {place} {before} {r} number all is none = record {
  all = all;
  on = nothing_put last number (after_vectors place text) (rw (← all.place) (sym (ap length is) ∙ eqb-true (length out) 0 none));
}
