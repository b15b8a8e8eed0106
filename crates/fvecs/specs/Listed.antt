-- What fvecs prints for a file: for each vector, from place to place, a line with its number from 1; where the file is refused, a last line with the refusal.
use Rattle.std.specs.Prelude.{ℕ, zero, suc, ◌+◌, List, [], ◌++◌, Option, None, Some, Result, Ok, Err}
use Rattle.lines.specs.Printed.{numbered_reply}
use Rattle.reply_texts.specs.Texts.{refusal_text}
use Rattle.vecs.specs.Vecs.{bytes_left, vector_at, elements_at}
use Rattle.vecs.specs.declared.Found.{Found}
use Rattle.vector_types.specs.declared.Refusal.{Refusal}
use Rattle.vecs_lines.specs.Line.{vector_reply}

-- the lines from a place on, by what stands there: the first has the number n, and `more` gives those from the next place on
abbrev pub lines_by : List ℕ → ℕ → ℕ → Result (Option Found) Refusal → (ℕ → ℕ → List ℕ) → List ℕ
lines_by file place n (Ok (Some v)) more = numbered_reply n (vector_reply v.dims.0 (elements_at 4 file place)) ++ more v.next (n + 1)
lines_by file place n (Ok None) more = []
lines_by file place n (Err r) more = numbered_reply n (refusal_text r)

-- at most so many lines
unfoldable pub listed_in : ℕ → List ℕ → ℕ → ℕ → List ℕ
listed_in zero file place n = []
listed_in (suc most) file place n = lines_by file place n (vector_at 4 file place) (listed_in most file)

-- all of them: each takes bytes of the file, so there are no more than bytes are left. `listed-from` of proofs/Listed says it without a bound
abbrev pub listed_from : List ℕ → ℕ → ℕ → List ℕ
listed_from file place n = listed_in (bytes_left file place) file place n

-- for a file
abbrev pub listed : List ℕ → List ℕ
listed file = listed_from file 0 1
