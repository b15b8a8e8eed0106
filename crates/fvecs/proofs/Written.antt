-- What is written for a file, however it comes in pieces, is `listed`.
use mathlib.Core.Path.{◌≡◌, refl, sym, ap, ◌∙◌}
use mathlib.Core.Bool.{Bool, true, false, cond, false≢true}
use mathlib.Core.List.{List, [], ◌∷◌, ◌++◌, append_assoc, append-nil, flatten}
use Prim.Native.Nat.{ℕ, ◌+◌, ◌≤◌}
use native.Mathlib.Omega.{arith}
use lib.ListN.{length, drop, length-append, length-drop}
use lib.Seq.{drop-append-le, drop-drop}
use Rattle.lines.specs.Printed.{numbered_replies}
use Rattle.vecs_lines.specs.Inner.Cut.{vectors_of, size_of, rest_of, whole_reply, ends_listing, told_line}
use Rattle.vecs_lines.proofs.Cutting.{all-cut, rest-none}
use Rattle.fvecs.specs.Listed.{listed_from, listed}
use Rattle.fvecs.specs.Inner.Stream.{FileProgress, none_listed, after_vectors, after_text, after_file_piece, after_file_pieces, at_file_end, written_for_file}
use Rattle.fvecs.proofs.TextInFile.{vectors-listed, told-at-once, told-at-end, none_told}

-- where the listing is after all that came of a file: whatever follows, the file is listed as it was written, and from its place on unless a refusal ended it
record ProgressIn (input : List ℕ) (p : FileProgress) : Type 0 where
  within : p.place ≤ length input
  rest : p.ended ≡ false → p.rest ≡ drop p.place input
  lists : (t : List ℕ) → listed (input ++ t) ≡ p.output ++ cond p.ended [] (listed_from (input ++ t) p.place (p.before + 1))

-- a text that stands at the place of the listing
module _ (p : FileProgress) (text file t : List ℕ) (stands : drop p.place file ≡ text ++ t) where
  abbrev next : ℕ
  next = p.place + size_of (vectors_of text)

  abbrev number : ℕ
  number = p.before + length (vectors_of text) + 1

  abbrev lines : List ℕ
  lines = numbered_replies whole_reply (p.before + 1) (vectors_of text)

  cut : (listed_from file p.place (p.before + 1) ≡ lines ++ listed_from file next number) × (drop next file ≡ rest_of text ++ t)
  cut =
      let v = vectors-listed (vectors_of text) text file t p.place (p.before + 1) refl stands in
      let same : number ≡ p.before + 1 + length (vectors_of text) = omega arith in
      (rw same v.lines, v.stands)

  -- more may follow it
  text_in-file : listed_from file p.place (p.before + 1)
      ≡ (lines ++ told_line false number (after_vectors p.place text)) ++ cond (ends_listing false (after_vectors p.place text)) [] (listed_from file next number)
  text_in-file = by (ends_listing false (after_vectors p.place text)) refl
    where
      told : List ℕ
      told = told_line false number (after_vectors p.place text)

      by : (b : Bool) → ends_listing false (after_vectors p.place text) ≡ b → listed_from file p.place (p.before + 1) ≡ (lines ++ told) ++ cond b [] (listed_from file next number)
      by true e = cut.0 ∙ ap (λ (l : List ℕ). lines ++ l) (told-at-once (rest_of text) file t next number cut.1 e) ∙ sym (append-nil (lines ++ told))
      by false e = cut.0 ∙ rw (none_told false number (after_vectors p.place text) e, append-nil)

  -- nothing follows it
  last-in-file : t ≡ [] → listed_from file p.place (p.before + 1) ≡ lines ++ told_line true number (after_vectors p.place text)
  last-in-file none =
      cut.0 ∙ ap (λ (l : List ℕ). lines ++ l) (told-at-end (rest_of text) file next number (cut.1 ∙ rw none (append-nil (rest_of text))) (rest-none text))

module _ (input : List ℕ) (p : FileProgress) (h : ProgressIn input p) where
  -- what stands at the place of the listing, where s came after the rest and t follows
  stands_on : (s t : List ℕ) → p.ended ≡ false → drop p.place (input ++ (s ++ t)) ≡ (p.rest ++ s) ++ t
  stands_on s t on = drop-append-le p.place input (s ++ t) h.within ∙ rw (← h.rest on) (sym (append_assoc p.rest s t))

  listed-on : (s t : List ℕ) → p.ended ≡ false → listed ((input ++ s) ++ t) ≡ p.output ++ listed_from ((input ++ s) ++ t) p.place (p.before + 1)
  listed-on s t on = rw append_assoc (h.lists (s ++ t) ∙ rw on)

  progress-next : (s : List ℕ) → ProgressIn (input ++ s) (after_file_piece p s)
  progress-next s = by p.ended refl
    where
      by : (b : Bool) → p.ended ≡ b → ProgressIn (input ++ s) (cond b p (after_text false p (p.rest ++ s)))
      by true e = record {
        within = omega (arith, h.within, length-append input s);
        rest = λ on. absurd (false≢true (sym on ∙ e));
        lists = λ t. rw append_assoc (h.lists (s ++ t) ∙ rw e);
      }
      by false e =
          let text = p.rest ++ s in
          let size = size_of (vectors_of text) in
          let long : length text ≡ length p.rest + length s = length-append p.rest s in
          record {
            within = omega (arith, (all-cut text).within, long, ap length (h.rest e), length-drop p.place input, h.within, length-append input s);
            rest = λ on. sym (sym (drop-drop size p.place (input ++ s)) ∙ ap (drop size) (drop-append-le p.place input s h.within ∙ rw (← h.rest e)));
            lists = λ t. listed-on s t e ∙ ap (λ (l : List ℕ). p.output ++ l) (text_in-file p text ((input ++ s) ++ t) t (rw append_assoc (stands_on s t e))) ∙ sym (append_assoc p.output _ _);
          }

  -- as no piece more, with nothing after it
  progress-at-end : (at_file_end p).output ≡ listed input
  progress-at-end = by p.ended refl
    where
      whole : listed (input ++ []) ≡ listed input
      whole = ap listed (append-nil input)

      by : (b : Bool) → p.ended ≡ b → (cond b p (after_text true p p.rest)).output ≡ listed input
      by true e = sym (h.lists [] ∙ rw (e, append-nil)) ∙ whole
      by false e =
          let stands : drop p.place (input ++ []) ≡ p.rest ++ [] = rw (append-nil, append-nil) (sym (h.rest e)) in
          sym (h.lists [] ∙ rw e (ap (λ (l : List ℕ). p.output ++ l) (last-in-file p p.rest (input ++ []) [] stands refl))) ∙ whole

progress-after : (input : List ℕ) (pieces : List (List ℕ)) (p : FileProgress) → ProgressIn input p → ProgressIn (input ++ flatten pieces) (after_file_pieces p pieces)
unfolding flatten after_file_pieces
progress-after input [] p h = rw append-nil h
progress-after input (s ∷ pieces) p h = rw (← append_assoc input s (flatten pieces)) (progress-after (input ++ s) pieces (after_file_piece p s) (progress-next input p h s))

progress-none : ProgressIn [] none_listed
progress-none = record { within = omega arith; rest = λ on. refl; lists = λ t. refl }

pub written_listed : (pieces : List (List ℕ)) → written_for_file pieces ≡ listed (flatten pieces)
written_listed pieces = progress-at-end (flatten pieces) (after_file_pieces none_listed pieces) (progress-after [] pieces none_listed progress-none)
