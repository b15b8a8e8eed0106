-- Laws of the lines of a text that are answered, one after another: the turns of the programs' loops, over what they reply to a line.
use mathlib.Core.Path.{◌≡◌, refl, ap, ◌∙◌, sym}
use mathlib.Core.Bool.{true, false}
use mathlib.Core.Logic.{◌⊎◌, ⊎_elim, inl, inr}
use mathlib.Core.List.{List, [], ◌∷◌, ◌++◌}
use Prim.Native.Nat.{ℕ, ◌+◌, ◌-◌, ◌<◌, ◌≤◌}
use native.Mathlib.Omega.{arith}
use native.Mathlib.Decide.{dec_lt}
use native.Mathlib.Numerals.{add-one}
use borrow.Author.Tests.{lt-ltb, le-ltb, ltb-true, ltb-false}
use lib.Dec.{ltb}
use lib.ListN.{length, take, drop, length-append, length-drop, take-append-drop}
use lib.Seq.{length-take-le, take-add, drop-drop}
use Rattle.lines.specs.Text.{newline}
use Rattle.lines.specs.Printed.{numbered_reply}
use Rattle.std.proofs.Common.{Some, None}
use Rattle.std.specs.List.{position}
use Rattle.lines.proofs.Parting.{is, position-some, position-none}
use Rattle.line_stream.specs.Inner.Stream.{ended_lines, unfinished_line}
use Rattle.line_stream.specs.Inner.Serving.{Serves}
use Rattle.line_stream.specs.declared.ServedLines.{ServedLines}
use Rattle.line_stream.proofs.Cutting.{newline_at, newline-le, newline_taken, ended-append, unfinished-append, with_newline, none-ended, found-later, count-le}
use Rattle.line_stream.proofs.Answering.{no_lines, Answered, none-answered, some-answered, next-answered, answered-stopped}

-- where a line ends that starts at `at`: at its newline, or with the text
pub record LineEnd (text : List ℕ) (at end : ℕ) : Type 0 where
  pub place : end ≡ at + newline_at (drop at text)

-- it is looked for from k on, where the bytes from `at` up to k hold none
pub record LookedUpTo (text : List ℕ) (at k : ℕ) : Type 0 where
  pub inside : k ≤ length text
  pub same : k + newline_at (drop k text) ≡ at + newline_at (drop at text)

pub looked-at_start : (text : List ℕ) (k : ℕ) → k ≤ length text → ended_lines [] (take k text) ≡ [] → LookedUpTo text 0 k
looked-at_start text k le none = record { inside = le; same = found-later [] text k le none ∙ omega arith }

pub looked_none : (text : List ℕ) (at : ℕ) → at ≤ length text → LookedUpTo text at at
looked_none text at le = record { inside = le; same = refl }

pub line-end-found : {text : List ℕ} {at k n : ℕ} → LookedUpTo text at k → Some n ≡ position (is newline) (drop k text) → LineEnd text at (k + n) × (k + n < length text)
line-end-found {text} {at} {k} {n} l found =
    let (e, less) = position-some (is newline) (drop k text) found in
    (record { place = omega (arith, e, l.same) }, omega (arith, less, length-drop k text))

pub line-end-none : {text : List ℕ} {at k : ℕ} → LookedUpTo text at k → None ≡ position (is newline) (drop k text) → LineEnd text at (length text)
line-end-none {text} {at} {k} l found =
    record { place = omega (arith, l.same, l.inside, position-none (is newline) (drop k text) found, newline-le (drop k text), length-drop k text) }

-- the bytes of the line, and the lines that end from there on
module _ (text : List ℕ) (at end : ℕ) (found : LineEnd text at end) (le : at ≤ length text) where
  abbrev line : List ℕ
  line = take (end - at) (drop at text)

  line_taken : end < length text → take (end + 1 - at) (drop at text) ≡ line ++ (newline ∷ [])
  line_taken less =
      let t = drop at text in
      let k = newline_at t in
      let size : end - at ≡ k = omega (arith, found.place) in
      let far : end + 1 - at ≡ k + 1 = omega (arith, found.place) in
      rw (size, far, add-one) (newline_taken t (omega (arith, found.place, length-drop at text)))

  line-ends : end < length text → (ended_lines [] (line ++ (newline ∷ [])) ≡ line ∷ []) × (unfinished_line [] (line ++ (newline ∷ [])) ≡ [])
  line-ends less = let size : end - at ≡ newline_at (drop at text) = omega (arith, found.place) in rw size (with_newline [] (drop at text))

  lines-ahead : end < length text → ended_lines [] (drop at text) ≡ line ∷ ended_lines [] (drop (end + 1) text)
  lines-ahead less =
      let t = drop at text in
      let n = end + 1 - at in
      let far : at + n ≡ end + 1 = omega (arith, found.place) in
      ap (ended_lines []) (sym (take-append-drop n t)) ∙ ended-append [] (take n t) (drop n t)
      ∙ rw (line_taken less, (line-ends less).0, (line-ends less).1, drop-drop n at text, far)

  no-line-ahead : length text ≤ end → ended_lines [] (drop at text) ≡ []
  no-line-ahead over = (none-ended [] (drop at text) (omega (arith, found.place, length-drop at text, newline-le (drop at text)))).0

-- a text is cut where a line starts
lines_cut : (text : List ℕ) (at : ℕ) → unfinished_line [] (take at text) ≡ [] → ended_lines [] text ≡ ended_lines [] (take at text) ++ ended_lines [] (drop at text)
lines_cut text at start = ap (ended_lines []) (sym (take-append-drop at text)) ∙ ended-append [] (take at text) (drop at text) ∙ rw start

-- lines are left where a newline is found
lines_left : (text : List ℕ) (at end : ℕ) → LineEnd text at end → at ≤ length text → unfinished_line [] (take at text) ≡ []
    → ltb end (length text) ≡ ltb (length (ended_lines [] (take at text))) (length (ended_lines [] text))
lines_left text at end found le start =
    let done = length (ended_lines [] (take at text)) in
    let all = length (ended_lines [] text) in
    let sum = ap length (lines_cut text at start) ∙ length-append (ended_lines [] (take at text)) (ended_lines [] (drop at text)) in
    elim (dec_lt end (length text)) [
      | yes less ↦ lt-ltb end (length text) less ∙ sym (lt-ltb done all (omega (arith, sum, ap length (lines-ahead text at end found le less))))
      | no over ↦ le-ltb end (length text) (omega (arith, over)) ∙ sym (le-ltb done all (omega (arith, sum, ap length (no-line-ahead text at end found le (omega (arith, over))))))
    ]

module _ (reply : List ℕ → List ℕ) (longest : ℕ) where
  -- the lines up to `at`, where one starts, are answered
  pub record LinesServed (text : List ℕ) (before room : ℕ) (o : List ℕ) (at b : ℕ) : Type 0 where
    pub within : at ≤ length text
    pub start : unfinished_line [] (take at text) ≡ []
    pub answered : Answered reply longest (ended_lines [] text) (ended_lines [] (take at text)) (ended_lines [] (drop at text)) before room o b

  pub lines-served-none : (text : List ℕ) (before room : ℕ) → LinesServed text before room [] 0 before
  unfolding ended_lines unfinished_line
  lines-served-none text before room = record { within = omega arith; start = refl; answered = none-answered reply longest (ended_lines [] text) before room }

  -- the reply to the next line
  pub lines-served-next : {text o o' : List ℕ} {before room at b end : ℕ} → LinesServed text before room o at b → LineEnd text at end → end < length text
      → longest ≤ room - length o → o' ≡ o ++ numbered_reply (b + 1) (reply (take (end - at) (drop at text)))
      → LinesServed text before room o' (end + 1) (b + 1)
  lines-served-next {text} {at = at} {end = end} s found less fits put =
      let l = line text at end found s.within in
      let far : end + 1 ≡ at + (end + 1 - at) = omega (arith, found.place) in
      let bytes : take (end + 1) text ≡ take at text ++ (l ++ (newline ∷ []))
      = rw (far, take-add at (end + 1 - at) text, line_taken text at end found s.within less) refl in
      let w = line-ends text at end found s.within less in
      let ends : ended_lines [] (take (end + 1) text) ≡ ended_lines [] (take at text) ++ (l ∷ [])
      = rw bytes (ended-append [] (take at text) (l ++ (newline ∷ [])) ∙ rw (s.start, w.0)) in
      record {
        within = omega arith;
        start = rw bytes (unfinished-append [] (take at text) (l ++ (newline ∷ [])) ∙ rw (s.start, w.1));
        answered = rw ends (next-answered reply longest (rw (lines-ahead text at end found s.within less) at s.answered) fits put);
      }

  -- no newline is found, or there is no room for the next reply
  serves-stopped : {text o : List ℕ} {before room at b : ℕ} (end : ℕ) → LinesServed text before room o at b → LineEnd text at end
      → (length text ≤ end) ⊎ (room - length o < longest) → Serves reply longest text before room o (record { at = at; before = b; more = ltb end (length text) })
  serves-stopped {text} {at = at} end s found stop = record {
    within = s.within;
    start = s.start;
    lines = answered-stopped reply longest s.answered (⊎_elim (λ over. inl (no-line-ahead text at end found s.within over)) inr stop);
    numbered = s.answered.numbered;
    replies = s.answered.replies;
    more = lines_left text at end found s.within s.start;
  }

  pub serves-all : {text o : List ℕ} {before room at b : ℕ} → LinesServed text before room o at b → LineEnd text at (length text)
      → Serves reply longest text before room o (record { at = at; before = b; more = false })
  serves-all {text} s found = rw (le-ltb (length text) (length text) (omega arith)) at (serves-stopped (length text) s found (inl (omega arith)))

  pub serves-some-lines : {text o : List ℕ} {before room at b end : ℕ} → LinesServed text before room o at b → LineEnd text at end → end < length text → room - length o < longest
      → Serves reply longest text before room o (record { at = at; before = b; more = true })
  serves-some-lines {text} {end = end} s found less few = rw (lt-ltb end (length text) less) at (serves-stopped end s found (inr few))

  -- no more lines are served than bytes are passed
  pub served-few : {text o : List ℕ} {before room at b : ℕ} → LinesServed text before room o at b → b ≤ before + at
  served-few {text} {at = at} s = omega (arith, s.answered.numbered, count-le [] (take at text), length-take-le at text s.within)

  -- what `more` says: no line is left, or some were answered
  module _ {text : List ℕ} {before room : ℕ} {o : List ℕ} {r : ServedLines} (s : Serves reply longest text before room o r) where
    pub serves-no-more : r.more ≡ false → ended_lines [] (drop r.at text) ≡ []
    serves-no-more e =
        let done = ended_lines [] (take r.at text) in
        let rest = ended_lines [] (drop r.at text) in
        let sum = ap length (lines_cut text r.at s.start) ∙ length-append done rest in
        no_lines rest (omega (arith, sum, ltb-false (length done) (length (ended_lines [] text)) (sym s.more ∙ e)))

    pub serves-some : longest ≤ room → r.more ≡ true → 0 < r.at
    serves-some fits e =
        let t = take r.at text in
        let more = ltb-true (length (ended_lines [] t)) (length (ended_lines [] text)) (sym s.more ∙ e) in
        omega (arith, some-answered reply longest (before + 1) room (ended_lines [] text) fits (omega (arith, more)), ap length s.lines, count-le [] t, length-take-le r.at text s.within)
