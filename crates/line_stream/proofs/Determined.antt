-- `Serves`, what the loops over lines promise, determines its outcome: the lines that are answered fix the place at which a loop stops.
use mathlib.Core.Path.{◌≡◌, ap, ap₂, ◌∙◌, sym}
use mathlib.Core.Bool.{Bool}
use mathlib.Core.List.{List, []}
use Prim.Native.Nat.{ℕ, ◌+◌}
use native.Mathlib.Omega.{arith}
use lib.Dec.{ltb}
use lib.ListN.{length, take}
use lib.Seq.{length-take-le}
use Rattle.line_stream.specs.Inner.Stream.{ended_lines, unfinished_line}
use Rattle.line_stream.specs.Inner.Serving.{answered_lines, Serves}
use Rattle.line_stream.specs.declared.ServedLines.{ServedLines}
use Rattle.line_stream.proofs.Cutting.{line_bytes, text-length}

served-same : {o o' : List ℕ} {r r' : ServedLines} → r.at ≡ r'.at → r.before ≡ r'.before → r.more ≡ r'.more → o ≡ o' → ◌≡◌ {A = ServedLines × List ℕ} (r, o) (r', o')
served-same at before more put =
    ap₂ (λ (p : ℕ × (ℕ × Bool)) (q : List ℕ). (record { at = p.0; before = p.1.0; more = p.1.1 }, q))
    (ap₂ (λ (x : ℕ) (y : ℕ × Bool). (x, y)) at (ap₂ (λ (x : ℕ) (y : Bool). (x, y)) before more)) put

stopped-at : (reply : List ℕ → List ℕ) (longest : ℕ) {text : List ℕ} {before room : ℕ} {o : List ℕ} {r : ServedLines} → Serves reply longest text before room o r
    → r.at ≡ line_bytes (answered_lines reply longest (before + 1) room (ended_lines [] text))
stopped-at reply longest {text} {r = r} s =
    let t = take r.at text in
    let none : length (unfinished_line [] t) ≡ 0 = ap length s.start in
    omega (arith, text-length [] t, none, length-take-le r.at text s.within, ap line_bytes s.lines)

pub serves-determined : (reply : List ℕ → List ℕ) (longest : ℕ) {text : List ℕ} {before room : ℕ} {o o' : List ℕ} {r r' : ServedLines}
    → Serves reply longest text before room o r → Serves reply longest text before room o' r' → ◌≡◌ {A = ServedLines × List ℕ} (r, o) (r', o')
serves-determined reply longest {text} {before} {r = r} {r'} s s' =
    let at : r.at ≡ r'.at = stopped-at reply longest s ∙ sym (stopped-at reply longest s') in
    let done : ℕ → List (List ℕ) = λ n. ended_lines [] (take n text) in
    served-same at (s.numbered ∙ ap (λ (n : ℕ). before + length (done n)) at ∙ sym s'.numbered)
    (s.more ∙ ap (λ (n : ℕ). ltb (length (done n)) (length (ended_lines [] text))) at ∙ sym s'.more) (rw at at s.replies ∙ sym s'.replies)
