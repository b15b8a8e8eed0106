-- However an input is cut into pieces, what is written for them is what `printed_of` says of all of it.
use mathlib.Core.Path.{◌≡◌, refl, ap, ap₂, ◌∙◌, sym}
use mathlib.Core.Bool.{Bool, true, false, cond}
use mathlib.Core.List.{List, [], ◌∷◌, ◌++◌, append_assoc, append-nil, flatten}
use Prim.Native.Nat.{ℕ, ◌+◌, ◌<◌}
use native.Mathlib.Omega.{arith}
use lib.Dec.{eqb}
use borrow.Author.Tests.{eq-eqb, ne_eqb}
use lib.ListN.{length, take, length-append, length-take}
use lib.Seq.{take-nil}
use Rattle.lines.specs.Text.{newline}
use Rattle.lines.specs.Parts.{parts_of, last_unless_empty, lines_of}
use Rattle.lines.specs.Printed.{numbered_replies, printed_of}
use Rattle.std.specs.List.{onto_first}
use Rattle.std.proofs.lemmas.List.Splits.{length-slice_split}
use Rattle.line_stream.specs.Inner.Stream.{ended_lines, unfinished_line, kept_of, last_newline, Progress, initial, after_piece, after_pieces, at_end, written_for}
use Rattle.line_stream.proofs.Cutting.{ended-append, unfinished-append, cut-unfinished, count_same, DependsOnFirst, replies-append, cut-replies}

-- l in front of the first part
on_first : List ℕ → List (List ℕ) → List (List ℕ)
on_first l [] = []
on_first l (p ∷ ps) = (l ++ p) ∷ ps

first-none : (ps : List (List ℕ)) → on_first [] ps ≡ ps
unfolding on_first
first-none [] = refl
first-none (p ∷ ps) = refl

first_more : (l : List ℕ) (x : ℕ) (ps : List (List ℕ)) → 0 < length ps → on_first l (onto_first x ps) ≡ on_first (l ++ (x ∷ [])) ps
unfolding on_first
first_more l x [] h = absurd (omega arith)
first_more l x (p ∷ ps) h = rw append_assoc

parts : (l s : List ℕ) → on_first l (parts_of newline s) ≡ ended_lines l s ++ (unfinished_line l s ∷ [])
unfolding on_first parts_of ended_lines unfinished_line
parts l [] = rw append-nil
parts l (x ∷ s) = go (eqb x newline) (parts [] s) (parts (l ++ (x ∷ [])) s)
  where
    go : (e : Bool) → on_first [] (parts_of newline s) ≡ ended_lines [] s ++ (unfinished_line [] s ∷ [])
        → on_first (l ++ (x ∷ [])) (parts_of newline s) ≡ ended_lines (l ++ (x ∷ [])) s ++ (unfinished_line (l ++ (x ∷ [])) s ∷ [])
        → on_first l (cond e ([] ∷ parts_of newline s) (onto_first x (parts_of newline s)))
        ≡ cond e (l ∷ ended_lines [] s) (ended_lines (l ++ (x ∷ [])) s) ++ (cond e (unfinished_line [] s) (unfinished_line (l ++ (x ∷ [])) s) ∷ [])
    go true p q = rw (append-nil l, ← first-none (parts_of newline s), p)
    go false p q = first_more l x (parts_of newline s) (omega (arith, length-slice_split (λ y. eqb y newline) s)) ∙ q

last-after : (ps : List (List ℕ)) (l : List ℕ) → last_unless_empty (ps ++ (l ∷ [])) ≡ ps ++ last_unless_empty (l ∷ [])
unfolding last_unless_empty
last-after [] l = refl
last-after (p ∷ ps) l = go p ps (last-after ps l)
  where
    go : (p : List ℕ) (ps : List (List ℕ)) → last_unless_empty (ps ++ (l ∷ [])) ≡ ps ++ last_unless_empty (l ∷ []) → last_unless_empty (p ∷ (ps ++ (l ∷ []))) ≡ p ∷ (ps ++ last_unless_empty (l ∷ []))
    go [] [] ih = refl
    go (x ∷ p) [] ih = refl
    go [] (q ∷ qs) ih = ap (λ (ls : List (List ℕ)). [] ∷ ls) ih
    go (x ∷ p) (q ∷ qs) ih = ap (λ (ls : List (List ℕ)). (x ∷ p) ∷ ls) ih

-- the lines of an input are those that end in it, and the unfinished one if it has bytes
lines_are : (s : List ℕ) → lines_of s ≡ ended_lines [] s ++ last_unless_empty (unfinished_line [] s ∷ [])
lines_are s = ap last_unless_empty (sym (first-none (parts_of newline s)) ∙ parts [] s) ∙ last-after (ended_lines [] s) (unfinished_line [] s)

module _ (reply : List ℕ → List ℕ) (most : ℕ) (depends : DependsOnFirst reply most) where
  -- where a program is after all of an input
  record ProgressOver (input : List ℕ) (p : Progress) : Type 0 where
    before : p.before ≡ length (ended_lines [] input)
    line : p.line ≡ take most (unfinished_line [] input)
    output : p.output ≡ numbered_replies reply 1 (ended_lines [] input)

  progress-next : (input s : List ℕ) (p : Progress) → ProgressOver input p → ProgressOver (input ++ s) (after_piece reply most p s)
  unfolding kept_of
  progress-next input s p h =
      let l = unfinished_line [] input in
      let ends : ended_lines [] (input ++ s) ≡ ended_lines [] input ++ ended_lines l s = ended-append [] input s in
      let cut : ended_lines p.line s ≡ ended_lines (take most l) s = rw h.line in
      let number : p.before + 1 ≡ 1 + length (ended_lines [] input) = omega (arith, h.before) in
      let replies : numbered_replies reply (p.before + 1) (ended_lines p.line s) ≡ numbered_replies reply (1 + length (ended_lines [] input)) (ended_lines l s)
      = ap₂ (numbered_replies reply) number cut ∙ cut-replies reply most depends (1 + length (ended_lines [] input)) l s in
      record {
        before = omega (arith, h.before, ap length ends, length-append (ended_lines [] input) (ended_lines l s), count_same p.line l s);
        line = ap (λ (m : List ℕ). take most (unfinished_line m s)) h.line ∙ cut-unfinished most l s ∙ ap (take most) (sym (unfinished-append [] input s));
        output = ap₂ (λ (a b : List ℕ). a ++ b) h.output replies ∙ sym (ap (numbered_replies reply 1) ends ∙ replies-append reply 1 (ended_lines [] input) (ended_lines l s));
      }

  progress-after : (input : List ℕ) (pieces : List (List ℕ)) (p : Progress) → ProgressOver input p → ProgressOver (input ++ flatten pieces) (after_pieces reply most p pieces)
  unfolding flatten after_pieces
  progress-after input [] p h = rw append-nil h
  progress-after input (s ∷ pieces) p h = rw (← append_assoc input s (flatten pieces)) (progress-after (input ++ s) pieces (after_piece reply most p s) (progress-next input s p h))

  progress-initial : ProgressOver [] initial
  unfolding ended_lines unfinished_line numbered_replies
  progress-initial = record { before = refl; line = sym (take-nil most); output = refl }

  last_line : (n : ℕ) (line l : List ℕ) → 0 < most → line ≡ take most l → numbered_replies reply n (ended_lines line (last_newline line)) ≡ numbered_replies reply n (last_unless_empty (l ∷ []))
  unfolding ended_lines last_unless_empty numbered_replies
  last_line n line [] pos e =
      let zero : length line ≡ 0 = ap length (e ∙ take-nil most) in
      rw (eq-eqb (length line) 0 zero)
  last_line n line (x ∷ l) pos e =
      let some : length line ≡ 0 → ⊥ = λ z. omega (arith, z, ap length e, length-take most (x ∷ l)) in
      let same : reply line ≡ reply (x ∷ l) = ap reply e ∙ depends (x ∷ l) in
      rw (ne_eqb (length line) 0 some, same)

  progress-at-end : (input : List ℕ) (p : Progress) → 0 < most → ProgressOver input p → (at_end reply most p).output ≡ printed_of reply input
  progress-at-end input p pos h =
      let l = last_unless_empty (unfinished_line [] input ∷ []) in
      let number : p.before + 1 ≡ 1 + length (ended_lines [] input) = omega (arith, h.before) in
      ap (λ (w : List ℕ). p.output ++ w) (last_line (p.before + 1) p.line (unfinished_line [] input) pos h.line)
      ∙ ap₂ (λ (w : List ℕ) (n : ℕ). w ++ numbered_replies reply n l) h.output number
      ∙ sym (replies-append reply 1 (ended_lines [] input) l) ∙ ap (numbered_replies reply 1) (sym (lines_are input))

  pub written-whole : 0 < most → (pieces : List (List ℕ)) → written_for reply most pieces ≡ printed_of reply (flatten pieces)
  written-whole pos pieces = progress-at-end (flatten pieces) (after_pieces reply most initial pieces) pos (progress-after [] pieces initial progress-initial)
