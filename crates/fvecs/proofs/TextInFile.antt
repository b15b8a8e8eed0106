-- A text that stands at a place of a file: what is printed from there on is what is printed for the vectors at its start, and from the place after them on.
use Rattle.std.proofs.Common.{◌≡◌, refl, sym, ap, ◌∙◌, Bool, true, false, List, [], ◌∷◌, ◌++◌, append_assoc, ℕ, suc, ◌+◌, ◌*◌, ◌≤◌, length, take, drop, length-append, length-drop, arith, Option, None, Some, is_some, Result, Ok}
use lib.Seq.{take-append-le, drop-append-le, drop-drop, length-take-le}
use Rattle.little_endian.specs.Bytes.{u32_at}
use Rattle.little_endian.proofs.Numbers.{number_at-take}
use Rattle.std.specs.Option.{option_map_or}
use Rattle.reply_texts.specs.Texts.{refusal_text}
use Rattle.lines.specs.Printed.{numbered_reply, numbered_replies}
use Rattle.vecs.specs.Vecs.{vector_at, elements_at}
use Rattle.vecs.specs.Cases.{Case, ended, over, cut, whole, CaseHolds, case_answer}
use Rattle.vecs.specs.declared.Found.{Found}
use Rattle.vector_types.specs.declared.Refusal.{Refusal}
use Rattle.vecs.proofs.AtPlace.{elements-are}
use Rattle.vecs.proofs.Vecs.{one-case, part-taken}
use Rattle.vecs_lines.specs.Line.{vector_reply}
use Rattle.vecs_lines.specs.Inner.Cut.{end_of, first_size, vectors_of, size_of, whole_reply, answer_at, told_refusal, ends_listing, told_line}
use Rattle.vecs_lines.proofs.Starting.{vector-before, over-before, moved_to}
use Rattle.vecs_lines.proofs.Cutting.{FirstVector, first-vector, vectors-none, vectors-next}
use Rattle.fvecs.specs.Listed.{listed_from}
use Rattle.fvecs.proofs.Listed.{listed-from}

-- ---- the first vector of a text
module _ (text : List ℕ) {size : ℕ} (some : first_size text ≡ Some size) where
  first : FirstVector text size
  first = first-vector text some

  abbrev count : ℕ
  count = u32_at text 0

  -- its reply is by its count and its elements
  first-reply : whole_reply (take size text) ≡ vector_reply count (take (4 * count) (drop 4 text))
  first-reply =
      let number : u32_at (take (4 + 4 * count) text) 0 ≡ count = number_at-take 4 (4 + 4 * count) text 0 (omega arith) in
      let elements = part-taken text 4 (4 * count) (omega (arith, first.is, first.within)) in
      rw (first.is, number, elements)

  module _ (file t : List ℕ) (place : ℕ) (stands : drop place file ≡ text ++ t) where
    found : Found
    found = record { dims = record { 0 = count }; start = place + 4; next = place + (4 + 4 * count) }

    shown : vector_at 4 file place ≡ Ok (Some found)
    unfolding found
    shown = moved_to file place ∙ rw (stands, vector-before text t (first.few, omega (arith, first.is, first.within)))

    elements_same : elements_at 4 file place ≡ take (4 * count) (drop 4 text)
    unfolding found
    elements_same =
        let long : 4 + 4 * count ≤ length text = omega (arith, first.is, first.within) in
        let behind : drop (place + 4) file ≡ drop 4 text ++ t = sym (drop-drop 4 place file) ∙ rw stands (drop-append-le 4 text t (omega arith)) in
        elements-are 4 file place found shown ∙ rw behind (take-append-le (4 * count) (drop 4 text) t (omega (arith, length-drop 4 text)))

    first-listed : (n : ℕ) → listed_from file place n ≡ numbered_reply n (whole_reply (take size text)) ++ listed_from file (place + size) (n + 1)
    unfolding found
    first-listed n = listed-from file place n ∙ rw (shown, elements_same, first-reply, first.is)

-- ---- all vectors of a text, and where the file goes on after them
pub record VectorsInFile (text file t : List ℕ) (place n : ℕ) (vs : List (List ℕ)) : Type 0 where
  pub lines : listed_from file place n ≡ numbered_replies whole_reply n vs ++ listed_from file (place + size_of vs) (n + length vs)
  pub stands : drop (place + size_of vs) file ≡ drop (size_of vs) text ++ t

pub vectors-listed : (vs : List (List ℕ)) (text file t : List ℕ) (place n : ℕ) → vectors_of text ≡ vs → drop place file ≡ text ++ t → VectorsInFile text file t place n vs
unfolding numbered_replies
vectors-listed [] text file t place n e stands =
    let here : place + 0 ≡ place = omega arith in
    let same : n + 0 ≡ n = omega arith in
    record { lines = rw (here, same) refl; stands = rw here stands }
vectors-listed (v ∷ vs) text file t place n e stands = by (first_size text) refl (λ k. vectors-listed vs (drop k text) file t (place + k) (n + 1))
  where
    by : (first : Option ℕ) → first_size text ≡ first
        → ((k : ℕ) → vectors_of (drop k text) ≡ vs → drop (place + k) file ≡ drop k text ++ t → VectorsInFile (drop k text) file t (place + k) (n + 1) vs)
        → VectorsInFile text file t place n (v ∷ vs)
    by None none rest = let no = vectors-none text none in absurd cc
    by (Some k) some rest =
        let next = vectors-next text some in
        let within = (first-vector text some).within in
        let is : take k text ≡ v = cc in
        let others : vectors_of (drop k text) ≡ vs = cc in
        let long : length v ≡ k = ap length (sym is) ∙ length-take-le k text within in
        let size : size_of (v ∷ vs) ≡ k + size_of vs = length-append v _ ∙ rw long in
        let far : place + size_of (v ∷ vs) ≡ place + k + size_of vs = omega (arith, size) in
        let number : n + suc (length vs) ≡ n + 1 + length vs = omega arith in
        let ih = rest k others (sym (drop-drop k place file) ∙ rw stands (drop-append-le k text t within)) in
        record {
          lines = first-listed text some file t place stands n ∙ rw (is, ih.lines, far, number) (sym (append_assoc (numbered_reply n (whole_reply v)) (numbered_replies whole_reply (n + 1) vs) _));
          stands = rw (far, size, ← drop-drop (size_of vs) k text) ih.stands;
        }

-- ---- what stands after the vectors of a text
-- a refusal that is told shows whatever follows
pub told-at-once : (rest file t : List ℕ) (place n : ℕ) → drop place file ≡ rest ++ t → ends_listing false (answer_at place (vector_at 4 rest 0)) ≡ true
    → listed_from file place n ≡ told_line false n (answer_at place (vector_at 4 rest 0))
told-at-once rest file t place n stands ends = let o = one-case 4 rest 0 in by o.case o.holds o.answers
  where
    by : (c : Case) → CaseHolds c 4 rest 0 → vector_at 4 rest 0 ≡ case_answer c 4 rest 0 → listed_from file place n ≡ told_line false n (answer_at place (vector_at 4 rest 0))
    by ended h e = let no = rw e at ends in absurd cc
    by over h e = listed-from file place n ∙ rw (moved_to file place, stands, over-before rest t h, e)
    by cut h e = let no = rw e at ends in absurd cc
    by whole h e = let no = rw e at ends in absurd cc

-- and any refusal where nothing follows
pub told-at-end : (rest file : List ℕ) (place n : ℕ) → drop place file ≡ rest → first_size rest ≡ None → listed_from file place n ≡ told_line true n (answer_at place (vector_at 4 rest 0))
told-at-end rest file place n stands none = let o = one-case 4 rest 0 in by o.case o.holds o.answers
  where
    by : (c : Case) → CaseHolds c 4 rest 0 → vector_at 4 rest 0 ≡ case_answer c 4 rest 0 → listed_from file place n ≡ told_line true n (answer_at place (vector_at 4 rest 0))
    by ended h e = listed-from file place n ∙ rw (moved_to file place, stands, e)
    by over h e = listed-from file place n ∙ rw (moved_to file place, stands, e)
    by cut h e = listed-from file place n ∙ rw (moved_to file place, stands, e)
    by whole h e = let some = ap end_of e in absurd cc

-- where nothing is told, no line is
pub none_told : (last : Bool) (n : ℕ) (a : Result (Option Found) Refusal) → ends_listing last a ≡ false → told_line last n a ≡ []
none_told last n a = by (told_refusal last a)
  where
    by : (told : Option Refusal) → is_some told ≡ false → option_map_or (λ r. numbered_reply n (refusal_text r)) told [] ≡ []
    by None e = refl
    by (Some r) e = absurd cc
