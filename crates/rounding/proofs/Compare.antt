-- `compare` on whole numbers: what each answer says, when it is given, and that both numbers may be scaled alike. By cases of the answer.
use Rattle.std.proofs.Common.{◌≡◌, ℕ, ◌*◌, ◌<◌, ◌≤◌, not, T, eqb, sym, refl, ap, ◌∙◌, subst, le_of_eq, lt_of_lt_of_le, lt_of_le_of_lt, lt_of_mul-lt-mul_right, mul-lt-mul_of_pos_right, arith, eqb→eq, leb→le}
use Prim.Native.Nat.{compare, Ordering}
use native.Mathlib.Nat.{eq_of_mul-eq-mul_right}
use lib.Arith.{lt_of_le-ne}
use lib.Dec.{is_le, compare_is_eq, nleb→lt, eqb_refl}

abbrev pub Compared : Ordering → ℕ → ℕ → Type 0
Compared Ordering.lt a b = a < b
Compared Ordering.eq a b = a ≡ b
Compared Ordering.gt a b = b < a

pub compared : (a b : ℕ) → Compared (compare a b) a b
compared a b = go (compare a b) (leb→le a b) (nleb→lt a b) (eqb→eq a b) (λ (e : a ≡ b). subst (λ (x : ℕ). T (eqb a x)) e (eqb_refl a))
  where
    go : (o : Ordering) → (T (is_le o) → a ≤ b) → (T (not (is_le o)) → b < a) → (T (compare_is_eq o) → a ≡ b) → (a ≡ b → T (compare_is_eq o)) → Compared o a b
    go Ordering.lt le gt eq same = lt_of_le-ne (le tt) (λ e. absurd (same e))
    go Ordering.eq le gt eq same = eq tt
    go Ordering.gt le gt eq same = gt tt

lt-not-gt : (a b : ℕ) → a < b → b < a → ⊥
lt-not-gt a b h k = omega arith

lt-not-eq : (a b : ℕ) → a < b → a ≡ b → ⊥
lt-not-eq a b h e = omega arith

pub compare-lt : (a b : ℕ) → a < b → compare a b ≡ Ordering.lt
compare-lt a b h = go (compare a b) (compared a b)
  where
    go : (o : Ordering) → Compared o a b → o ≡ Ordering.lt
    go Ordering.lt c = refl
    go Ordering.eq c = absurd (lt-not-eq a b h c)
    go Ordering.gt c = absurd (lt-not-gt a b h c)

pub compare-eq : (a b : ℕ) → a ≡ b → compare a b ≡ Ordering.eq
compare-eq a b h = go (compare a b) (compared a b)
  where
    go : (o : Ordering) → Compared o a b → o ≡ Ordering.eq
    go Ordering.lt c = absurd (lt-not-eq a b c h)
    go Ordering.eq c = refl
    go Ordering.gt c = absurd (lt-not-eq b a c (sym h))

pub compare-gt : (a b : ℕ) → b < a → compare a b ≡ Ordering.gt
compare-gt a b h = go (compare a b) (compared a b)
  where
    go : (o : Ordering) → Compared o a b → o ≡ Ordering.gt
    go Ordering.lt c = absurd (lt-not-gt a b c h)
    go Ordering.eq c = absurd (lt-not-eq b a h (sym c))
    go Ordering.gt c = refl

-- two numbers may be scaled alike: x' / x and y' / y are K / d
pub compare-scale : (x y x' y' d K : ℕ) → 0 < d → 0 < K → x' * d ≡ x * K → y' * d ≡ y * K → compare x' y' ≡ compare x y
compare-scale x y x' y' d K pd pK p q = go (compare x y) (compared x y)
  where
    less : (a b a' b' : ℕ) → a' * d ≡ a * K → b' * d ≡ b * K → a < b → a' < b'
    less a b a' b' p q l = lt_of_mul-lt-mul_right d (lt_of_le_of_lt (le_of_eq p) (lt_of_lt_of_le (mul-lt-mul_of_pos_right l pK) (le_of_eq (sym q))))

    go : (o : Ordering) → Compared o x y → compare x' y' ≡ o
    go Ordering.lt c = compare-lt x' y' (less x y x' y' p q c)
    go Ordering.eq c = compare-eq x' y' (eq_of_mul-eq-mul_right d pd x' y' (p ∙ ap (λ (z : ℕ). z * K) c ∙ sym q))
    go Ordering.gt c = compare-gt x' y' (less y x y' x' q p c)
