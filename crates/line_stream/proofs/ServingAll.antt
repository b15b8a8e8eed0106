-- Laws of a text that is served part after part: once no line is left, all of it is served but the unfinished line.
use mathlib.Core.Path.{◌≡◌, refl, ap, ◌∙◌, sym}
use mathlib.Core.Bool.{Bool, true, false, cond, ◌&&◌, false≢true}
use mathlib.Core.List.{List, [], ◌++◌, append-nil}
use Prim.Native.Nat.{ℕ, ◌+◌, ◌-◌, ◌<◌, ◌≤◌, ◌^◌}
use native.Mathlib.Omega.{arith}
use lib.ListN.{length, take, drop, length-append, take-append-drop}
use lib.Seq.{take-add, drop-drop, length-take-le}
use Rattle.promises.proofs.Onto.{tail-lent}
use Rattle.line_stream.specs.Inner.Stream.{ended_lines, unfinished_line}
use Rattle.line_stream.specs.Inner.Serving.{TextReady, Serves, ServesAll}
use Rattle.line_stream.specs.declared.HeldLine.{HeldLine}
use Rattle.line_stream.specs.declared.ServedLines.{ServedLines}
use Rattle.line_stream.proofs.Cutting.{ended-append, unfinished-append, unfinished-whole, count-le, rest-lent}
use Rattle.line_stream.proofs.Serving.{serves-no-more, serves-some}

-- the lines up to `at`, where one starts, are served; the first bytes of that one, so many as `held` counts, end no line
pub record TextServedUpTo (text : List ℕ) (before at : ℕ) (held : HeldLine) : Type 0 where
  pub within : at ≤ length text
  pub start : unfinished_line [] (take at text) ≡ []
  pub numbered : held.before ≡ before + length (ended_lines [] (take at text))
  pub inside : held.count ≤ length (drop at text)
  pub line : ended_lines [] (take held.count (drop at text)) ≡ []

pub none-served : (text : List ℕ) (held : HeldLine) → TextReady text held → TextServedUpTo text held.before 0 held
unfolding ended_lines unfinished_line
none-served text held ready = record {
  within = omega arith;
  start = refl;
  numbered = omega arith;
  inside = ready.inside;
  line = ready.line;
}

-- the rest of the text is ready to be served
pub rest-ready : {text : List ℕ} {before at : ℕ} {held : HeldLine} → TextServedUpTo text before at held → before + length text < 2 ^ 64
    → TextReady (take (length text - at) (drop at text)) held
rest-ready {text} {before} {at} {held} p fits = record {
  inside = rw (tail-lent at text) p.inside;
  line = rw (tail-lent at text) p.line;
  numbers = omega (arith, p.numbered, count-le [] (take at text), length-take-le at text p.within, rest-lent at text, p.within, fits);
}

-- what goes on while two tests hold
pub goes_on : (more other : Bool) → more && other ≡ true → (more ≡ true) × (other ≡ true)
goes_on true other e = (refl, e)
goes_on false other e = absurd (false≢true e)

-- where it stops though the second holds, the first does not
pub stopped : (more written : Bool) → more && written ≡ false → written ≡ true → more ≡ false
stopped true written e w = absurd (false≢true (sym e ∙ w))
stopped false written e w = refl

-- a loop that goes on while there is more ends: a turn passes bytes, or it is the last
pub turn-shorter : (size at passed : ℕ) (more : Bool) → (more ≡ true → 0 < passed) → at + passed ≤ size → size - (at + passed) + cond more 1 0 < size - at + 1
turn-shorter size at passed true some le = omega (arith, some refl)
turn-shorter size at passed false some le = omega arith

module _ (text : List ℕ) (at : ℕ) {reply : List ℕ → List ℕ} {longest room : ℕ} {out : List ℕ} {b : ℕ} {r : ServedLines}
    (s : Serves reply longest (take (length text - at) (drop at text)) b room out r) where
  -- lines of the rest are served
  pub more-served : {before : ℕ} {held : HeldLine} → held.before ≡ b → TextServedUpTo text before at held
      → TextServedUpTo text before (at + r.at) (record { count = 0; before = r.before })
  unfolding ended_lines
  more-served {before} same p =
      let t = drop at text in
      let lent : take (length text - at) t ≡ t = tail-lent at text in
      let bytes : take (at + r.at) text ≡ take at text ++ take r.at (take (length text - at) t) = take-add at r.at text ∙ rw lent in
      let ends : ended_lines [] (take (at + r.at) text) ≡ ended_lines [] (take at text) ++ ended_lines [] (take r.at (take (length text - at) t))
      = rw bytes (ended-append [] (take at text) _ ∙ rw p.start) in
      record {
        within = omega (arith, p.within, s.within, rest-lent at text);
        start = rw bytes (unfinished-append [] (take at text) _ ∙ rw p.start s.start);
        numbered = omega (arith, p.numbered, same, s.numbered, ap length ends, length-append (ended_lines [] (take at text)) (ended_lines [] (take r.at (take (length text - at) t))));
        inside = omega arith;
        line = refl;
      }

  -- the loop goes on while there are lines: where it stops, none is left
  pub none_left : r.more ≡ false → ended_lines [] (drop (at + r.at) text) ≡ []
  none_left e = rw (← drop-drop r.at at text, ← tail-lent at text) (serves-no-more reply longest s e)

  -- each turn but the last passes bytes
  pub rest-shorter : longest ≤ room → at + r.at ≤ length text → r.more ≡ true → length text - (at + r.at) < length text - at
  rest-shorter fits le more = omega (arith, serves-some reply longest s fits more)

pub all-served : {text : List ℕ} {before at : ℕ} {held : HeldLine} → TextServedUpTo text before at held → ended_lines [] (drop at text) ≡ []
    → ServesAll text before (record { at = at; before = held.before })
all-served {text} {before} {at} {held} p none =
    let t = drop at text in
    let rest : unfinished_line [] (take at text ++ t) ≡ t = unfinished-append [] (take at text) t ∙ rw p.start (unfinished-whole [] t none) in
    let ends : ended_lines [] (take at text ++ t) ≡ ended_lines [] (take at text) = ended-append [] (take at text) t ∙ rw (p.start, none) (append-nil (ended_lines [] (take at text))) in
    record {
      within = p.within;
      rest = sym (ap (unfinished_line []) (sym (take-append-drop at text)) ∙ rest);
      numbered = p.numbered ∙ ap (λ (n : ℕ). before + n) (sym (ap length (ap (ended_lines []) (sym (take-append-drop at text)) ∙ ends)));
    }
