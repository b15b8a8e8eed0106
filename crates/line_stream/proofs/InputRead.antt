-- Laws of a program's own loop: what stands in the buffer is what the pieces of the input so far leave.
use mathlib.Core.Path.{◌≡◌, refl, ap, ap₂, ◌∙◌, sym}
use mathlib.Core.Bool.{true}
use mathlib.Core.List.{List, [], ◌∷◌, ◌++◌, append-nil, flatten}
use Prim.Native.Nat.{ℕ, ◌+◌, ◌<◌, ◌≤◌, ◌^◌}
use native.Mathlib.Omega.{arith}
use lib.ListN.{length, take, drop, length-append, length-drop, take-append-drop}
use lib.Seq.{take-nil, take-take, length-take-le}
use Rattle.line_stream.specs.Inner.Stream.{ended_lines, unfinished_line, kept_of, Progress, initial, after_piece, after_pieces}
use Rattle.line_stream.specs.Inner.Reading.{HoldsText}
use Rattle.line_stream.specs.Inner.Serving.{TextReady, ServesAll}
use Rattle.line_stream.specs.declared.InputText.{InputText}
use Rattle.line_stream.specs.declared.ServedText.{ServedText}
use Rattle.line_stream.proofs.Cutting.{none-ended-take, none-ended-unfinished, ended-line, unfinished-line, count-le}

-- how many bytes pieces have, and after one more
pub length-flatten : (pieces more : List (List ℕ)) → length (flatten (pieces ++ more)) ≡ length (flatten pieces) + length (flatten more)
unfolding flatten
length-flatten [] more = omega arith
length-flatten (s ∷ pieces) more = simp length-append (omega (arith, length-flatten pieces more))

pub flatten-more : (pieces : List (List ℕ)) (s : List ℕ) → length (flatten (pieces ++ (s ∷ []))) ≡ length (flatten pieces) + length s
unfolding flatten
flatten-more pieces s = length-flatten pieces (s ∷ []) ∙ rw append-nil

module _ (reply : List ℕ → List ℕ) (most : ℕ) where
  after_more : (p : Progress) (pieces : List (List ℕ)) (s : List ℕ) → after_pieces reply most p (pieces ++ (s ∷ [])) ≡ after_piece reply most (after_pieces reply most p pieces) s
  unfolding after_pieces
  after_more p [] s = refl
  after_more p (t ∷ pieces) s = after_more (after_piece reply most p t) pieces s

  -- the unfinished line ends no line, and no more lines end than there are bytes
  after-none-ended : (p : Progress) (pieces : List (List ℕ)) → ended_lines [] p.line ≡ [] → ended_lines [] (after_pieces reply most p pieces).line ≡ []
  unfolding after_pieces kept_of
  after-none-ended p [] e = e
  after-none-ended p (s ∷ pieces) e = after-none-ended (after_piece reply most p s) pieces (none-ended-take [] (unfinished_line p.line s) most (none-ended-unfinished p.line s e))

  after-count : (p : Progress) (pieces : List (List ℕ)) → (after_pieces reply most p pieces).before ≤ p.before + length (flatten pieces)
  unfolding after_pieces flatten
  after-count p [] = omega arith
  after-count p (s ∷ pieces) = omega (arith, after-count (after_piece reply most p s) pieces, count-le p.line s, length-append s (flatten pieces))

  -- of the pieces that came a line is left, from `at` up to `end`; before it b lines ended, and `left` bytes more may come before there are `top` in all
  pub record InputRead (buffer : List ℕ) (at end b left top : ℕ) : Type 0 where
    pub pieces : List (List ℕ)
    pub within : at ≤ end
    pub inside : end ≤ length buffer
    pub line : kept_of most (drop at (take end buffer)) ≡ (after_pieces reply most initial pieces).line
    pub numbered : b ≡ (after_pieces reply most initial pieces).before
    pub room : length (flatten pieces) + left ≤ top

  pub nothing_read : (buffer : List ℕ) (top : ℕ) → InputRead buffer 0 0 0 top top
  unfolding after_pieces flatten kept_of
  nothing_read buffer top = record { pieces = []; within = omega arith; inside = omega arith; line = take-nil most; numbered = refl; room = omega arith }

  -- the next text is read
  module _ {buffer b₁ : List ℕ} {at end b left top : ℕ} {t : InputText} (c : InputRead buffer at end b left top) (h : HoldsText (kept_of most (drop at (take end buffer))) left b₁ t) where
    front : take t.count (take t.end b₁) ≡ (after_pieces reply most initial c.pieces).line
    front = take-take t.count t.end b₁ h.within ∙ h.front ∙ c.line

    none : ended_lines [] (after_pieces reply most initial c.pieces).line ≡ []
    unfolding ended_lines
    none = after-none-ended initial c.pieces refl

    pub text-ready : top + t.end < 2 ^ 64 → TextReady (take t.end b₁) (record { count = t.count; before = b })
    text-ready few =
        let size = length-take-le t.end b₁ h.fits in
        record {
          inside = omega (arith, size, h.within);
          line = rw front none;
          numbers = omega (arith, size, after-count initial c.pieces, c.numbered, c.room);
        }

    -- all its lines are served, and the input may go on
    pub text-served : {r : ServedText} → t.more ≡ true → ServesAll (take t.end b₁) b r → InputRead b₁ r.at t.end r.before t.left top
    text-served {r} more p =
        let text = take t.end b₁ in
        let size = length-take-le t.end b₁ h.fits in
        let q = after_pieces reply most initial c.pieces in
        let s = drop t.count text in
        let whole : text ≡ q.line ++ s = sym (take-append-drop t.count text) ∙ ap (λ (l : List ℕ). l ++ s) front in
        let ends : ended_lines [] text ≡ ended_lines q.line s = ap (ended_lines []) whole ∙ ended-line q.line s none in
        let rest : drop r.at text ≡ unfinished_line q.line s = p.rest ∙ ap (unfinished_line []) whole ∙ unfinished-line q.line s none in
        let step = after_more initial c.pieces s in
        record {
          pieces = c.pieces ++ (s ∷ []);
          within = omega (arith, size, p.within);
          inside = h.fits;
          line = ap (kept_of most) rest ∙ ap (λ (z : Progress). z.line) (sym step);
          numbered = p.numbered ∙ ap₂ (λ (m : ℕ) (ls : List (List ℕ)). m + length ls) c.numbered ends ∙ ap (λ (z : Progress). z.before) (sym step);
          room = omega (arith, flatten-more c.pieces s, length-drop t.count text, size, c.room, h.fewer more);
        }
