-- The public contracts determine their outcomes, the answer and the bytes that were put: stated over the contracts' own readings, so they change with them.
use Rattle.std.proofs.Common.{◌≡◌, sym, ◌∙◌, ℕ, Bool, List}
use Rattle.promises.specs.Determined.{Determined}
use Rattle.vecs_lines.specs.Inner.Cut.{Lists}
use Rattle.vecs_lines.specs.declared.ListedVectors.{ListedVectors}
use Rattle.vecs_lines.proofs.list.Reads as list
use Rattle.vecs_lines.proofs.put_refused.Reads as put-refused

abbrev outcome : ℕ → ℕ → Bool → List ℕ → ListedVectors × List ℕ
outcome at before more out = (record { at = at; before = before; more = more }, out)

lists-same : {room before : ℕ} {text out o o' : List ℕ} {r r' : ListedVectors} → Lists room text before out o r → Lists room text before out o' r'
    → outcome r.at r.before r.more o ≡ outcome r'.at r'.before r'.more o'
lists-same s s' =
    let place = s.place ∙ sym s'.place in
    let numbered = s.numbered ∙ sym s'.numbered in
    let more = s.more ∙ sym s'.more in
    let lines = s.lines ∙ sym s'.lines in
    cc

pub list-determined : (g : _) (κs : _) (a : _) (v : _) → Determined {Y = ListedVectors × List ℕ} (list.Post g κs a v) (λ r x. (r, x.1.1.0.now))
list-determined g κs a v r r' x x' p q = lists-same p q

pub put-refused-determined : (g : _) (κs : _) (a : _) (v : _) → Determined (put-refused.Post g κs a v) (λ r x. x.1.1.1.1.0.now)
put-refused-determined g κs a v r r' x x' p q = p ∙ sym q
