-- What starts a text, by the four cases of a place. Bytes that follow change nothing of a vector or of a count over the limit, and bytes before move what starts the text.
use mathlib.Core.Path.{◌≡◌, sym, ap, ◌∙◌}
use mathlib.Core.Logic.{inl, inr}
use mathlib.Core.List.{List, ◌++◌}
use Prim.Native.Nat.{ℕ, ◌+◌, ◌-◌, ◌*◌, ◌≤◌}
use native.Mathlib.Omega.{arith}
use lib.ListN.{length, drop, length-append, length-drop}
use Rattle.little_endian.specs.Bytes.{u32_at}
use Rattle.little_endian.proofs.Numbers.{number_at-drop, number_at-left}
use Rattle.vecs.specs.Vecs.{vector_at}
use Rattle.vecs.specs.Cases.{Case, ended, over, cut, whole, CaseHolds, case_answer}
use Rattle.vecs.proofs.Vecs.{case-answers, one-case}
use Rattle.vecs_lines.specs.Inner.Cut.{answer_at}

-- bytes that follow
module _ (text t : List ℕ) where
  longer : length (text ++ t) ≡ length text + length t
  longer = length-append text t

  count-stays : 4 ≤ length text → u32_at (text ++ t) 0 ≡ u32_at text 0
  count-stays h = number_at-left 4 text t 0 h

  pub vector-before : CaseHolds whole 4 text 0 → vector_at 4 (text ++ t) 0 ≡ case_answer whole 4 text 0
  vector-before (few, fits) =
      let count = count-stays (omega arith) in
      rw count at (case-answers 4 (text ++ t) 0 whole (omega (arith, count), omega (arith, count, longer)))

  pub over-before : CaseHolds over 4 text 0 → vector_at 4 (text ++ t) 0 ≡ case_answer over 4 text 0
  over-before (counted, many) = case-answers 4 (text ++ t) 0 over (omega (arith, longer), omega (arith, count-stays counted))

-- bytes before
module _ (file : List ℕ) (place : ℕ) where
  size : length (drop place file) ≡ length file - place
  size = length-drop place file

  count : u32_at (drop place file) 0 ≡ u32_at file place
  count = let at : place + 0 ≡ place = omega arith in number_at-drop 4 place file 0 ∙ rw at

  moved : (c : Case) → CaseHolds c 4 (drop place file) 0 → vector_at 4 file place ≡ answer_at place (case_answer c 4 (drop place file) 0)
  moved ended h = case-answers 4 file place ended (omega (arith, size))
  moved over (counted, many) = case-answers 4 file place over (omega (arith, size), omega (arith, count))
  moved cut (some, inl short) = case-answers 4 file place cut (omega (arith, size), inl (omega (arith, size)))
  moved cut (some, inr (few, short)) = case-answers 4 file place cut (omega (arith, size), inr (omega (arith, count), omega (arith, size, count)))
  moved whole (few, fits) =
      let next : place + (4 + 4 * u32_at file place) ≡ place + 4 + 4 * u32_at file place = omega arith in
      rw (count, next) (case-answers 4 file place whole (omega (arith, count), omega (arith, size, count)))

  pub moved_to : vector_at 4 file place ≡ answer_at place (vector_at 4 (drop place file) 0)
  moved_to = let o = one-case 4 (drop place file) 0 in moved o.case o.holds ∙ ap (answer_at place) (sym o.answers)
