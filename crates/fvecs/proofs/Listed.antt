-- What fvecs prints from a place on, with no bound: nothing at the end of the file, the refusal's line on a refusal, else the vector's line and what is printed from its next place on.
use Rattle.std.proofs.Common.{◌≡◌, refl, sym, ap, ◌∙◌, List, [], ◌++◌, ℕ, zero, suc, ◌+◌, ◌≤◌, arith, Option, None, Some, Result, Ok, Err}
use Rattle.lines.specs.Printed.{numbered_reply}
use Rattle.vecs.specs.Vecs.{bytes_left, vector_at, elements_at}
use Rattle.vecs.specs.declared.Found.{Found}
use Rattle.vector_types.specs.declared.Refusal.{Refusal}
use Rattle.vecs.proofs.AtPlace.{at-end}
use Rattle.vecs.proofs.Vecs.{vector-inside}
use Rattle.vecs_lines.specs.Line.{vector_reply}
use Rattle.fvecs.specs.Listed.{lines_by, listed_in, listed_from}

module _ (file : List ℕ) where
  -- only what is printed from the next place of a vector on counts
  lines_same : (place n : ℕ) (more more' : ℕ → ℕ → List ℕ) (a : Result (Option Found) Refusal) → ((v : Found) → a ≡ Ok (Some v) → more v.next (n + 1) ≡ more' v.next (n + 1))
      → lines_by file place n a more ≡ lines_by file place n a more'
  lines_same place n more more' (Ok (Some v)) same = ap (λ (l : List ℕ). numbered_reply n (vector_reply v.dims.0 (elements_at 4 file place)) ++ l) (same v refl)
  lines_same place n more more' (Ok None) same = refl
  lines_same place n more more' (Err r) same = refl

  in-ended : (f place n : ℕ) → bytes_left file place ≡ 0 → listed_in f file place n ≡ []
  unfolding listed_in
  in-ended zero place n none = refl
  in-ended (suc f) place n none = rw (at-end 4 file place (omega arith))

  -- as many lines as bytes are left are enough
  in-enough : (f g place n : ℕ) → bytes_left file place ≤ f → bytes_left file place ≤ g → listed_in f file place n ≡ listed_in g file place n
  unfolding listed_in
  in-enough zero g place n lf lg = sym (in-ended g place n (omega arith))
  in-enough (suc f) zero place n lf lg = in-ended (suc f) place n (omega arith)
  in-enough (suc f) (suc g) place n lf lg =
      lines_same place n (listed_in f file) (listed_in g file) (vector_at 4 file place)
      (λ v e. let inside = vector-inside 4 file place v e in in-enough f g v.next (n + 1) (omega (arith, inside.above, inside.within)) (omega (arith, inside.above, inside.within)))

  pub listed-from : (place n : ℕ) → listed_from file place n ≡ lines_by file place n (vector_at 4 file place) (listed_from file)
  unfolding listed_in
  listed-from place n =
      let left = bytes_left file place in
      in-enough left (suc left) place n (omega arith) (omega arith)
      ∙ lines_same place n (listed_in left file) (listed_from file) (vector_at 4 file place)
      (λ v e. let inside = vector-inside 4 file place v e in in-enough left (bytes_left file v.next) v.next (n + 1) (omega (arith, inside.above, inside.within)) (omega arith))
