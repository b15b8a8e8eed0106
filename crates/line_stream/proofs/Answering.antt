-- Laws of lines that are answered one after another, each if there is room for the longest numbered reply, over what a program replies to a line.
use mathlib.Core.Path.{◌≡◌, refl, ap, ◌∙◌, sym}
use mathlib.Core.Bool.{Bool, true, false, cond}
use mathlib.Core.Logic.{◌⊎◌, inl, inr}
use mathlib.Core.List.{List, [], ◌∷◌, ◌++◌, append-nil, append_assoc}
use Prim.Native.Nat.{ℕ, ◌+◌, ◌-◌, ◌<◌, ◌≤◌}
use native.Mathlib.Omega.{arith}
use borrow.Author.Tests.{le-leb, lt-leb}
use lib.Dec.{leb}
use lib.ListN.{length, length-append}
use Rattle.lines.specs.Printed.{numbered_reply, numbered_replies}
use Rattle.line_stream.specs.Inner.Serving.{answered_lines}
use Rattle.line_stream.proofs.Cutting.{replies-append}

pub no_lines : (ls : List (List ℕ)) → length ls ≡ 0 → ls ≡ []
no_lines [] e = refl
no_lines (l ∷ ls) e = absurd (omega arith)

module _ (reply : List ℕ → List ℕ) (longest : ℕ) where
  answered-some : (n room : ℕ) (l : List ℕ) (ls : List (List ℕ)) → longest ≤ room
      → answered_lines reply longest n room (l ∷ ls) ≡ l ∷ answered_lines reply longest (n + 1) (room - length (numbered_reply n (reply l))) ls
  unfolding answered_lines
  answered-some n room l ls fits = rw (le-leb longest room fits)

  answered-none : (n room : ℕ) (ls : List (List ℕ)) → (ls ≡ []) ⊎ (room < longest) → answered_lines reply longest n room ls ≡ []
  unfolding answered_lines
  answered-none n room ls (inl none) = rw none
  answered-none n room [] (inr less) = refl
  answered-none n room (l ∷ ls) (inr less) = rw (lt-leb longest room less)

  -- the lines that are answered come first, and some are if there are lines and room
  pub answered-first : (n room : ℕ) (ls : List (List ℕ)) → (others : List (List ℕ)) × (ls ≡ answered_lines reply longest n room ls ++ others)
  unfolding answered_lines
  answered-first n room [] = ([], refl)
  answered-first n room (l ∷ ls) = by (leb longest room) (answered-first (n + 1) (room - length (numbered_reply n (reply l))) ls)
    where
      by : (b : Bool) → (others : List (List ℕ)) × (ls ≡ answered_lines reply longest (n + 1) (room - length (numbered_reply n (reply l))) ls ++ others)
          → (others : List (List ℕ)) × (l ∷ ls ≡ cond b (l ∷ answered_lines reply longest (n + 1) (room - length (numbered_reply n (reply l))) ls) [] ++ others)
      by true (others, e) = (others, ap (λ (x : List (List ℕ)). l ∷ x) e)
      by false rest = (l ∷ ls, refl)

  pub some-answered : (n room : ℕ) (ls : List (List ℕ)) → longest ≤ room → 0 < length ls → 0 < length (answered_lines reply longest n room ls)
  unfolding answered_lines
  some-answered n room [] fits some = some
  some-answered n room (l ∷ ls) fits some = rw (answered-some n room l ls fits) (omega arith)

  -- of all lines, of which the first has a number after `before`, some are done and others are ahead: b is the number of the last that is done,
  -- the replies o are put, and those ahead are answered as far as there is room
  pub record Answered (all done ahead : List (List ℕ)) (before room : ℕ) (o : List ℕ) (b : ℕ) : Type 0 where
    pub numbered : b ≡ before + length done
    pub replies : o ≡ numbered_replies reply (before + 1) done
    pub rest : answered_lines reply longest (before + 1) room all ≡ done ++ answered_lines reply longest (b + 1) (room - length o) ahead

  pub none-answered : (all : List (List ℕ)) (before room : ℕ) → Answered all [] all before room [] before
  unfolding numbered_replies
  none-answered all before room =
      let whole : room - 0 ≡ room = omega arith in
      record { numbered = omega arith; replies = refl; rest = rw whole refl }

  -- the reply to the next line
  pub next-answered : {all done : List (List ℕ)} {l : List ℕ} {ls : List (List ℕ)} {before room : ℕ} {o o' : List ℕ} {b : ℕ} → Answered all done (l ∷ ls) before room o b
      → longest ≤ room - length o → o' ≡ o ++ numbered_reply (b + 1) (reply l) → Answered all (done ++ (l ∷ [])) ls before room o' (b + 1)
  unfolding numbered_replies
  next-answered {all} {done} {l} {ls} {before} {room} {o} {o'} {b} s fits put =
      let number : before + 1 + length done ≡ b + 1 = omega (arith, s.numbered) in
      let replies : numbered_replies reply (before + 1) done ++ numbered_reply (b + 1) (reply l) ≡ numbered_replies reply (before + 1) (done ++ (l ∷ []))
      = rw (replies-append reply (before + 1) done (l ∷ []), number, append-nil) refl in
      let size : length o' ≡ length o + length (numbered_reply (b + 1) (reply l)) = ap length put ∙ length-append o (numbered_reply (b + 1) (reply l)) in
      let fewer : room - length o - length (numbered_reply (b + 1) (reply l)) ≡ room - length o' = omega (arith, size) in
      record {
        numbered = omega (arith, s.numbered, length-append done (l ∷ []));
        replies = put ∙ ap (λ t. t ++ numbered_reply (b + 1) (reply l)) s.replies ∙ replies;
        rest = s.rest ∙ rw (answered-some (b + 1) (room - length o) l ls fits, fewer, append_assoc) refl;
      }

  -- no line is ahead, or there is no room for the next reply: those that are done are all that are answered
  pub answered-stopped : {all done ahead : List (List ℕ)} {before room : ℕ} {o : List ℕ} {b : ℕ} → Answered all done ahead before room o b
      → (ahead ≡ []) ⊎ (room - length o < longest) → done ≡ answered_lines reply longest (before + 1) room all
  answered-stopped {done = done} {ahead} {room = room} {o} {b} s stop =
      sym (s.rest ∙ ap (λ (ls : List (List ℕ)). done ++ ls) (answered-none (b + 1) (room - length o) ahead stop) ∙ append-nil done)
