-- Laws of `onto`: what writers that go from the front leave, one after another.
use mathlib.Core.Path.{◌≡◌, sym, ap, ◌∙◌}
use mathlib.Core.List.{List, [], ◌∷◌, ◌++◌, append_assoc, append-nil}
use Prim.Native.Nat.{ℕ, suc, ◌+◌, ◌-◌, ◌<◌, ◌≤◌}
use native.Mathlib.Omega.{arith}
use native.Mathlib.Numerals.{add-one}
use lib.ListN.{length, get_or, take, drop, set, length-append, length-drop, drop_of_length-le, take-append-drop}
use lib.Seq.{drop-cons, set_at, take_at, drop_at, drop-drop, take-length, take_all, drop-append-le, length-take-le}
use borrow.Rule.Slice.PartMut.{put_mid}
use Rattle.promises.specs.Onto.{onto}

-- a text copied to the front: t, of which it is known that it is t'
pub copied : (t t' l o : List ℕ) (r : ℕ) → t ≡ t' → r ≡ length t → o ≡ take (length t) t ++ drop (length t) l
    → (r ≡ length t') × (o ≡ onto t' l)
copied t t' l o r e p q = (p ∙ ap length e, q ∙ rw (take-length t, e))

pub length-onto : (w l : List ℕ) → length w ≤ length l → length (onto w l) ≡ length l
length-onto w l h = simp (length-append, length-drop) (omega arith)

-- a text of n bytes, and the byte b after it
pub onto-put : (w l o : List ℕ) (b n : ℕ) → n ≡ length w → o ≡ onto w l → n < length l
    → (n + 1 ≡ length (w ++ (b ∷ []))) × (set o n b ≡ onto (w ++ (b ∷ [])) l)
onto-put w l o b n e p h =
    let at = set_at w (get_or l n 0) (drop (suc n) l) b n (sym e) in
    (rw length-append (omega arith), rw (p, ← e, drop-cons l n 0) (at ∙ simp (append_assoc, length-append, ← e, add-one)))

-- what is written to the part after the first n bytes
pub onto-part : (v w l : List ℕ) (n : ℕ) → length v ≡ n → take n (onto v l) ++ onto w (drop n (onto v l)) ≡ onto (v ++ w) l
onto-part v w l n e =
    rw (take_at v (drop (length v) l) n e, drop_at v (drop (length v) l) n e, drop-drop (length w) (length v) l, length-append v w, append_assoc)

-- the part of l from a on, as it is lent, and l when ys has come back in its place
pub tail-lent : (a : ℕ) (l : List ℕ) → take (length l - a) (drop a l) ≡ drop a l
tail-lent a l = take_all (length l - a) (drop a l) (omega (arith, length-drop a l))

tail-back : (a : ℕ) (l ys : List ℕ) → put_mid a (length l - a) l ys ≡ take a l ++ ys
tail-back a l ys =
    let none : drop (length l - a) (drop a l) ≡ [] = drop_of_length-le (drop a l) {i = length l - a} (omega (arith, length-drop a l)) in
    rw (none, append-nil ys)

-- a text written to the part from a on
pub tail-onto : (a : ℕ) (l ys w : List ℕ) → ys ≡ onto w (take (length l - a) (drop a l)) → put_mid a (length l - a) l ys ≡ take a l ++ onto w (drop a l)
tail-onto a l ys w e = tail-back a l ys ∙ rw (e, tail-lent a l)

-- a text w written to the first k bytes, of which the others then follow
pub onto-front : (w l : List ℕ) (k : ℕ) → length w ≤ k → k ≤ length l → onto w (take k l) ++ drop k l ≡ onto w l
onto-front w l k h fits =
    let e = drop-append-le (length w) (take k l) (drop k l) (omega (arith, length-take-le k l fits)) in
    append_assoc w (drop (length w) (take k l)) (drop k l) ∙ rw (← e, take-append-drop)

-- what is written has room
pub onto-within : (w l o : List ℕ) → o ≡ onto w l → length o ≡ length l → length w ≤ length l
onto-within w l o e same = omega (arith, same, ap length e, length-append w (drop (length w) l), length-drop (length w) l)

-- a text written to the part of o from n on, and back with as many bytes as were lent, has room there
pub tail_within : (w o ys : List ℕ) (n : ℕ) → ys ≡ onto w (take (length o - n) (drop n o)) → length ys ≡ length (take (length o - n) (drop n o)) → n ≤ length o
    → n + length w ≤ length o
tail_within w o ys n e same le =
    omega (arith, onto-within w (take (length o - n) (drop n o)) ys e same, ap length (tail-lent n o), length-drop n o)

-- a text w of n bytes written to the first k of l, which are o then, and the byte b after it
pub record Ended (w l o : List ℕ) (b n k : ℕ) : Type 0 where
  pub within : n ≤ k
  pub long : length (o ++ drop k l) ≡ length l
  pub size : n + 1 ≡ length (w ++ (b ∷ []))
  pub left : set (o ++ drop k l) n b ≡ onto (w ++ (b ∷ [])) l

pub onto-ended : {w l o : List ℕ} {b n k : ℕ} → n ≡ length w → o ≡ onto w (take k l) → length o ≡ length (take k l) → k < length l → Ended w l o b n k
onto-ended {w} {l} {o} {b} {n} {k} e p same less =
    let full = length-take-le k l (omega arith) in
    let fits : length w ≤ k = omega (arith, full, onto-within w (take k l) o p same) in
    let put = onto-put w l (o ++ drop k l) b n e (ap (λ (x : List ℕ). x ++ drop k l) p ∙ onto-front w l k fits (omega arith)) (omega arith) in
    record {
      within = omega arith;
      long = rw length-append (omega (arith, same, full, length-drop k l));
      size = put.0;
      left = put.1;
    }

-- a text w written after v
pub onto-then : (v w l o ys : List ℕ) (n : ℕ) → o ≡ onto v l → length v ≡ n → ys ≡ onto w (take (length o - n) (drop n o))
    → put_mid n (length o - n) o ys ≡ onto (v ++ w) l
onto-then v w l o ys n e size p = tail-onto n o ys w p ∙ rw e (onto-part v w l n size)
