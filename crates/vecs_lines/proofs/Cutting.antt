-- Laws of a text cut into vectors: what stands at its start is the first, and it may be cut after any of them.
use Rattle.std.proofs.Common.{◌≡◌, refl, sym, ap, ◌∙◌, false, List, [], ◌∷◌, ◌++◌, append-nil, ℕ, zero, suc, ◌+◌, ◌*◌, ◌<◌, ◌≤◌, length, take, drop, length-append, length-drop, arith, Option, None, Some, Result, Ok, Err}
use mathlib.Core.Logic.{inl, inr}
use lib.Seq.{length-take-le, drop-drop}
use Rattle.std.specs.List.{concat}
use Rattle.little_endian.specs.Bytes.{u32_at}
use Rattle.vector_types.specs.Layout.{max_dims}
use Rattle.vector_types.specs.declared.Refusal.{Refusal}
use Rattle.vecs.specs.Vecs.{vector_at}
use Rattle.vecs.specs.Cases.{Case, ended, over, cut, whole, CaseHolds, case_answer}
use Rattle.vecs.specs.declared.Found.{Found}
use Rattle.vecs.proofs.AtPlace.{vector-facts}
use Rattle.vecs.proofs.Vecs.{one-case}
use Rattle.vecs_lines.specs.Inner.Rooms.{longest_vector}
use Rattle.vecs_lines.specs.Inner.Cut.{end_of, first_size, vectors_in, vectors_of, size_of, rest_of, ends_listing}

-- ---- the vector that starts a text: its count is within the limit, and it lies within the text
pub record FirstVector (text : List ℕ) (size : ℕ) : Type 0 where
  pub few : u32_at text 0 ≤ max_dims
  pub is : size ≡ 4 + 4 * u32_at text 0
  pub within : size ≤ length text

pub first-vector : (text : List ℕ) {size : ℕ} → first_size text ≡ Some size → FirstVector text size
first-vector text {size} e = by (vector_at 4 text 0) refl e
  where
    by : (a : Result (Option Found) Refusal) → vector_at 4 text 0 ≡ a → end_of a ≡ Some size → FirstVector text size
    by (Ok (Some v)) is shown =
        let facts = vector-facts 4 text 0 v is in
        let next : size ≡ v.next = cc in
        let size : v.next ≡ 4 + 4 * u32_at text 0 = ap (λ (w : Found). w.next) facts.is in
        record { few = facts.few; is = omega arith; within = omega (arith, facts.within) }
    by (Ok None) is shown = absurd cc
    by (Err r) is shown = absurd cc

-- what starts a text is no vector, and ends no listing: the text is shorter than a vector may be
pub part-short : (text : List ℕ) → first_size text ≡ None → ends_listing false (vector_at 4 text 0) ≡ false → length text < longest_vector
part-short text none on = let o = one-case 4 text 0 in by o.case o.holds o.answers
  where
    by : (c : Case) → CaseHolds c 4 text 0 → vector_at 4 text 0 ≡ case_answer c 4 text 0 → length text < longest_vector
    by ended h e = omega arith
    by over h e = let told = ap (ends_listing false) e in absurd cc
    by cut (some, inl short) e = omega arith
    by cut (some, inr (few, short)) e = omega arith
    by whole (few, fits) e = let some = ap end_of e in absurd cc

-- ---- the vectors of a text, from the front
module _ (text : List ℕ) where
  in-none : (f : ℕ) → first_size text ≡ None → vectors_in f text ≡ []
  unfolding vectors_in
  in-none zero e = refl
  in-none (suc f) e = rw e refl

  in-next : (f : ℕ) {size : ℕ} → first_size text ≡ Some size → vectors_in (suc f) text ≡ take size text ∷ vectors_in f (drop size text)
  unfolding vectors_in
  in-next f e = rw e refl

  first-none : length text ≡ 0 → first_size text ≡ None
  first-none e = by (first_size text) refl
    where
      by : (o : Option ℕ) → first_size text ≡ o → first_size text ≡ None
      by None is = is
      by (Some k) is = let first = first-vector text is in absurd (omega arith)

-- as many turns as a text has bytes are enough
in-enough : (f g : ℕ) (text : List ℕ) → length text ≤ f → length text ≤ g → vectors_in f text ≡ vectors_in g text
unfolding vectors_in
in-enough zero g text lf lg = sym (in-none text g (first-none text (omega arith)))
in-enough (suc f) zero text lf lg = in-none text (suc f) (first-none text (omega arith))
in-enough (suc f) (suc g) text lf lg = by (first_size text) refl (λ k. in-enough f g (drop k text))
  where
    by : (o : Option ℕ) → first_size text ≡ o → ((k : ℕ) → length (drop k text) ≤ f → length (drop k text) ≤ g → vectors_in f (drop k text) ≡ vectors_in g (drop k text))
        → vectors_in (suc f) text ≡ vectors_in (suc g) text
    by None e ih = in-none text (suc f) e ∙ sym (in-none text (suc g) e)
    by (Some k) e ih =
        let first = first-vector text e in
        let shorter = length-drop k text in
        let rest = ih k (omega arith) (omega arith) in
        in-next text f e ∙ ap (λ (vs : List (List ℕ)). take k text ∷ vs) rest ∙ sym (in-next text g e)

module _ (text : List ℕ) where
  pub vectors-none : first_size text ≡ None → vectors_of text ≡ []
  vectors-none e = in-none text (length text) e

  pub vectors-next : {size : ℕ} → first_size text ≡ Some size → vectors_of text ≡ take size text ∷ vectors_of (drop size text)
  vectors-next {size} e =
      let rest = drop size text in
      let first = first-vector text e in
      let shorter = length-drop size text in
      in-enough (length text) (suc (length text)) text (omega arith) (omega arith) ∙ in-next text (length text) e
      ∙ ap (λ (vs : List (List ℕ)). take size text ∷ vs) (in-enough (length text) (length rest) rest (omega arith) (omega arith))

pub size-append : (vs ws : List (List ℕ)) → size_of (vs ++ ws) ≡ size_of vs + size_of ws
size-append [] ws = omega arith
size-append (v ∷ vs) ws = omega (arith, size-append vs ws, length-append v (concat (vs ++ ws)), length-append v (concat vs))

-- ---- a text is cut after some of its vectors: those that stand from there on are the others
pub record CutAfter (text : List ℕ) (done others : List (List ℕ)) : Type 0 where
  pub ahead : vectors_of (drop (size_of done) text) ≡ others
  pub within : size_of done ≤ length text
  pub few : length done ≤ size_of done

pub cut-after : (done others : List (List ℕ)) (text : List ℕ) → vectors_of text ≡ done ++ others → CutAfter text done others
cut-after [] others text e = record { ahead = e; within = omega arith; few = omega arith }
cut-after (v ∷ done) others text e = by (first_size text) refl (λ k. cut-after done others (drop k text))
  where
    by : (o : Option ℕ) → first_size text ≡ o → ((k : ℕ) → vectors_of (drop k text) ≡ done ++ others → CutAfter (drop k text) done others) → CutAfter text (v ∷ done) others
    by None none after = let no = vectors-none text none in absurd cc
    by (Some k) some after =
        let first = first-vector text some in
        let next = vectors-next text some in
        let same : take k text ≡ v = cc in
        let others : vectors_of (drop k text) ≡ done ++ others = cc in
        let ih = after k others in
        let long : length v ≡ k = ap length (sym same) ∙ length-take-le k text first.within in
        let size : size_of (v ∷ done) ≡ k + size_of done = length-append v _ ∙ rw long in
        record {
          ahead = rw (size, ← drop-drop (size_of done) k text) ih.ahead;
          within = omega (arith, size, ih.within, length-drop k text, first.within);
          few = omega (arith, size, ih.few, first.is);
        }

-- what is left after all vectors of a text
module _ (text : List ℕ) where
  pub all-cut : CutAfter text (vectors_of text) []
  all-cut = cut-after (vectors_of text) [] text (sym (append-nil (vectors_of text)))

  pub rest-none : first_size (rest_of text) ≡ None
  rest-none = by (first_size (rest_of text)) refl
    where
      by : (o : Option ℕ) → first_size (rest_of text) ≡ o → first_size (rest_of text) ≡ None
      by None e = e
      by (Some k) e = let next = vectors-next (rest_of text) e in let none = all-cut.ahead in absurd cc
