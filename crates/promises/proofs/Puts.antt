-- Laws of `Puts`: it determines the answer and the buffer, texts may be put one after another, and what was put stands at the start.
use mathlib.Core.Path.{◌≡◌, refl, sym, ap, ap₂, ◌∙◌}
use mathlib.Core.List.{List, [], ◌∷◌, ◌++◌}
use Prim.Native.Nat.{ℕ, ◌+◌, ◌-◌, ◌<◌, ◌≤◌}
use native.Mathlib.Omega.{arith}
use lib.ListN.{length, take, drop, set, length-append, take-append-drop}
use lib.Seq.{take_at, length-take-le}
use borrow.Rule.Slice.PartMut.{put_mid}
use Rattle.promises.specs.Onto.{onto}
use Rattle.promises.specs.Puts.{Puts}
use Rattle.promises.proofs.Onto.{copied, onto-put, onto-then, onto-within}

pub puts-determined : {text before after after' : List ℕ} {r r' : ℕ} → Puts text before r after → Puts text before r' after'
    → ◌≡◌ {A = ℕ × List ℕ} (r, after) (r', after')
puts-determined p q = ap₂ (λ (n : ℕ) (l : List ℕ). (n, l)) (p.size ∙ sym q.size) (p.left ∙ sym q.left)

-- the text that was put is the text that was asked for
pub puts-same : {x y l o : List ℕ} {r : ℕ} → x ≡ y → Puts x l r o → Puts y l r o
puts-same {l = l} e p = record { size = p.size ∙ ap length e; left = p.left ∙ ap (λ (w : List ℕ). onto w l) e }

pub puts_none : (l : List ℕ) → Puts [] l 0 l
puts_none l = record { size = refl; left = refl }

-- what a copy of t to the front leaves, of which it is known that it is t'
pub puts-copy : {t t' l o : List ℕ} {r : ℕ} → t ≡ t' → (r ≡ length t) × (o ≡ take (length t) t ++ drop (length t) l) → Puts t' l r o
puts-copy {t} {t'} {l} {o} {r} e p = let q = copied t t' l o r e p.0 p.1 in record { size = q.0; left = q.1 }

-- one byte more
pub puts-byte : {w l o : List ℕ} {n : ℕ} (b : ℕ) → Puts w l n o → n < length l → Puts (w ++ (b ∷ [])) l (n + 1) (set o n b)
puts-byte {w} {l} {o} {n} b p less = let q = onto-put w l o b n p.size p.left less in record { size = q.0; left = q.1 }

-- a text w put after v, to the part that is left
pub puts_then : {v w l o ys : List ℕ} {n m : ℕ} → Puts v l n o → Puts w (take (length o - n) (drop n o)) m ys
    → Puts (v ++ w) l (n + m) (put_mid n (length o - n) o ys)
puts_then {v} {w} {l} {o} {ys} {n} p q = record {
  size = rw length-append (omega (arith, p.size, q.size));
  left = onto-then v w l o ys n p.left (sym p.size) q.left;
}

pub puts-prefix : {w l o : List ℕ} {n : ℕ} → Puts w l n o → take n o ≡ w
puts-prefix {w} {l} {o} {n} p = rw p.left (take_at w (drop (length w) l) n (sym p.size))

-- the first n bytes of l, as a text that was put there
pub prefix_puts : (n : ℕ) (l : List ℕ) → n ≤ length l → Puts (take n l) l n l
prefix_puts n l h = let e = length-take-le n l h in record { size = sym e; left = rw (e, take-append-drop) }

-- what was put has room, where the buffer keeps its length
pub puts-within : {w l o : List ℕ} {n : ℕ} → Puts w l n o → length o ≡ length l → n ≤ length l
puts-within {w} {l} {o} p same = omega (arith, p.size, onto-within w l o p.left same)
