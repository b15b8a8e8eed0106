-- Laws of the vectors of a text that are listed, one after another: the turns of the loop of `list`.
use Rattle.std.proofs.Common.{◌≡◌, refl, sym, ap, ◌∙◌, List, [], ◌∷◌, ◌++◌, append_assoc, append-nil, ℕ, ◌+◌, ◌-◌, ◌<◌, ◌≤◌, length, take, drop, length-append, length-drop, arith, Option, None, Some, is_some, IfSome, ltb}
use borrow.Author.Tests.{le-leb, lt-leb, le-ltb, lt-ltb}
use lib.Seq.{length-take-le}
use Rattle.std.specs.List.{concat}
use Rattle.lines.specs.Printed.{numbered_reply, numbered_replies}
use Rattle.line_stream.specs.Inner.Serving.{answered_lines}
use Rattle.vecs_lines.specs.Inner.Rooms.{vector_line_room}
use Rattle.vecs_lines.specs.Inner.Cut.{first_size, vectors_of, size_of, whole_reply, listed_vectors, Lists}
use Rattle.vecs_lines.proofs.Cutting.{first-vector, vectors-none, vectors-next}

-- ---- the vectors of a text for which there is room, from the front
module _ (text : List ℕ) (n room : ℕ) where
  listed-none : first_size text ≡ None → listed_vectors text n room ≡ []
  unfolding answered_lines
  listed-none e = rw (vectors-none text e) refl

  listed-full : room < vector_line_room → listed_vectors text n room ≡ []
  unfolding answered_lines
  listed-full less = by (vectors_of text)
    where
      by : (vs : List (List ℕ)) → answered_lines whole_reply vector_line_room (n + 1) room vs ≡ []
      by [] = refl
      by (v ∷ vs) = rw (lt-leb vector_line_room room less) refl

  listed-next : {k : ℕ} → first_size text ≡ Some k → vector_line_room ≤ room
      → listed_vectors text n room ≡ take k text ∷ listed_vectors (drop k text) (n + 1) (room - length (numbered_reply (n + 1) (whole_reply (take k text))))
  unfolding answered_lines
  listed-next e fits = rw (vectors-next text e, le-leb vector_line_room room fits) refl

-- of a text so much is left, b is the number of the last vector before it, and o is out with the lines: what is listed of the rest completes the listing
abbrev rest_listed : ℕ → List ℕ → ℕ → List ℕ → List (List ℕ)
rest_listed capacity rest b o = listed_vectors rest b (capacity - length o)

pub record ListedUpTo (capacity : ℕ) (text : List ℕ) (before : ℕ) (out rest : List ℕ) (b : ℕ) (o : List ℕ) : Type 0 where
  pub within : length rest ≤ length text
  pub few : b + length rest ≤ before + length text
  pub place : length text - length rest + size_of (rest_listed capacity rest b o) ≡ size_of (rest_listed capacity text before out)
  pub numbered : b + length (rest_listed capacity rest b o) ≡ before + length (rest_listed capacity text before out)
  pub lines : o ++ numbered_replies whole_reply (b + 1) (rest_listed capacity rest b o) ≡ out ++ numbered_replies whole_reply (before + 1) (rest_listed capacity text before out)
  pub left : length (vectors_of rest) + length (rest_listed capacity text before out) ≡ length (vectors_of text) + length (rest_listed capacity rest b o)

module _ {capacity : ℕ} {text : List ℕ} {before : ℕ} {out rest : List ℕ} {b : ℕ} {o : List ℕ} (s : ListedUpTo capacity text before out rest b o) where
  -- the listing stops where no vector is left, or where there is no room for the next line
  pub listed-stopped : IfSome (first_size rest) (λ _. capacity - length o < vector_line_room)
      → Lists (capacity - length out) text before out o (record { at = length text - length rest; before = b; more = is_some (first_size rest) })
  unfolding numbered_replies
  listed-stopped stop =
      let none : rest_listed capacity rest b o ≡ [] = here (first_size rest) refl stop in
      let place = rw none at s.place in
      let numbered = rw none at s.numbered in
      record { place = omega arith; numbered = omega arith; lines = sym (append-nil o) ∙ rw none at s.lines; more = by (first_size rest) refl (rw none at s.left) }
    where
      here : (first : Option ℕ) → first_size rest ≡ first → IfSome first (λ _. capacity - length o < vector_line_room) → rest_listed capacity rest b o ≡ []
      here None e full = listed-none rest b (capacity - length o) e
      here (Some k) e full = listed-full rest b (capacity - length o) full

      by : (first : Option ℕ) → first_size rest ≡ first → length (vectors_of rest) + length (rest_listed capacity text before out) ≡ length (vectors_of text) + 0
          → is_some first ≡ ltb (length (rest_listed capacity text before out)) (length (vectors_of text))
      by None e left = sym (le-ltb _ _ (omega (arith, ap length (vectors-none rest e))))
      by (Some k) e left = sym (lt-ltb _ _ (omega (arith, ap length (vectors-next rest e))))

  -- the line of the next vector is put
  pub listed-on : {k : ℕ} → first_size rest ≡ Some k → vector_line_room ≤ capacity - length o
      → ListedUpTo capacity text before out (drop k rest) (b + 1) (o ++ numbered_reply (b + 1) (whole_reply (take k rest)))
  unfolding numbered_replies
  listed-on {k} some fits =
      let v = take k rest in
      let line = numbered_reply (b + 1) (whole_reply v) in
      let first = first-vector rest some in
      let size = length-drop k rest in
      let long : length v ≡ k = length-take-le k rest first.within in
      let room : capacity - length o - length line ≡ capacity - length (o ++ line) = simp length-append (omega arith) in
      let next : rest_listed capacity rest b o ≡ v ∷ rest_listed capacity (drop k rest) (b + 1) (o ++ line)
      = listed-next rest b (capacity - length o) some fits ∙ rw room refl in
      let place = rw next at s.place in
      record {
        within = omega (arith, s.within);
        few = omega (arith, s.few, first.is);
        place = omega (arith, place, s.within, length-append v (concat (rest_listed capacity (drop k rest) (b + 1) (o ++ line))));
        numbered = omega (arith, rw next at s.numbered);
        lines = append_assoc o line _ ∙ rw next at s.lines;
        left = omega (arith, s.left, ap length next, ap length (vectors-next rest some));
      }

pub ruleset turns = (first-vector, listed-on, listed-stopped)
