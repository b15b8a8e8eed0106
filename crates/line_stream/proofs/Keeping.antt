-- Laws of the bytes that are kept at the front of their buffer: they are copied there, or they stand there already.
use mathlib.Core.Path.{◌≡◌, refl, sym, ap, ◌∙◌}
use mathlib.Core.List.{List}
use Prim.Native.Nat.{ℕ, ◌+◌, ◌-◌, ◌<◌, ◌≤◌, min}
use native.Mathlib.Omega.{arith}
use native.Mathlib.Nat.{zero-add}
use native.Mathlib.Decide.{dec_lt}
use lib.ListN.{length, take, drop, length-take, length-drop}
use lib.Seq.{length-take-le, take-take, take_all, take-add, drop_at}
use Rattle.std.specs.List.{copy_within}
use Rattle.promises.specs.Puts.{Puts}
use Rattle.promises.proofs.Puts.{puts-same, prefix_puts}
use Rattle.line_stream.specs.Inner.Stream.{kept_of}

-- the first `most` bytes of a part are as many bytes of all that follows its start
cut-part : (l : List ℕ) (from end most : ℕ) → from ≤ end → end ≤ length l → take most (drop from (take end l)) ≡ take (min most (end - from)) (drop from l)
cut-part l from end most le fits =
    let m = end - from in
    let all : end ≡ from + m = omega arith in
    let part : drop from (take end l) ≡ take m (drop from l)
    = ap (λ (k : ℕ). drop from (take k l)) all ∙ ap (drop from) (take-add from m l) ∙ drop_at (take from l) (take m (drop from l)) from (length-take-le from l (omega arith)) in
    elim (dec_lt m most) [ yes over ↦ whole part over | no under ↦ less part (omega (arith, under)) ]
  where
    whole : drop from (take end l) ≡ take (end - from) (drop from l) → end - from < most → take most (drop from (take end l)) ≡ take (min most (end - from)) (drop from l)
    whole part over =
        let n : min most (end - from) ≡ end - from = omega arith in
        rw (part, n) (take_all most (take (end - from) (drop from l)) (omega (arith, length-take (end - from) (drop from l))))

    less : drop from (take end l) ≡ take (end - from) (drop from l) → most ≤ end - from → take most (drop from (take end l)) ≡ take (min most (end - from)) (drop from l)
    less part under =
        let n : min most (end - from) ≡ most = omega arith in
        rw (part, n) (take-take most (end - from) (drop from l) under)

-- the ways out of `keep`: nothing is to be moved, or n bytes are
module _ (l : List ℕ) (from end most n : ℕ) (size : n ≡ min most (end - from)) (le : from ≤ end) (fits : end ≤ length l) where
  text : take most (drop from (take end l)) ≡ take n (drop from l)
  text = cut-part l from end most le fits ∙ rw size

  pub kept-copied : (o : List ℕ) → o ≡ copy_within l from (from + n) 0 → Puts (kept_of most (drop from (take end l))) l n o
  unfolding kept_of
  kept-copied o e =
      let part : from + n - from ≡ n = omega arith in
      let long : length (take n (drop from l)) ≡ n = length-take-le n (drop from l) (omega (arith, length-drop from l)) in
      puts-same (sym text) (record { size = sym long; left = e ∙ rw (part, long, zero-add) refl })

  pub kept_there : from ≡ 0 → Puts (kept_of most (drop from (take end l))) l n l
  unfolding kept_of
  kept_there e =
      let same : take n (drop from l) ≡ take n l = rw e in
      puts-same (sym (text ∙ same)) (prefix_puts n l (omega arith))

pub kept-few : (most : ℕ) (line : List ℕ) → (length (kept_of most line) ≤ most) × (length (kept_of most line) ≤ length line)
unfolding kept_of
kept-few most line = (omega (arith, length-take most line), omega (arith, length-take most line))
