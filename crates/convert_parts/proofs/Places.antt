-- Places that pass a test, the pieces of these, and how long a sparse body made of them is.
use mathlib.Core.Path.{◌≡◌, refl}
use mathlib.Core.Bool.{Bool, true, false, cond}
use mathlib.Core.List.{List, [], ◌∷◌, ◌++◌, append_assoc, append-nil}
use Prim.Native.Nat.{ℕ, zero, suc, ◌+◌, ◌-◌, ◌*◌, ◌<◌, ◌≤◌}
use native.Mathlib.Nat.{add-zero, add-suc}
use native.Mathlib.Numerals.{add-one}
use native.Mathlib.Omega.{arith}
use lib.ListN.{length, length-append}
use mir.Val.{bool_byte}
use Rattle.little_endian.specs.Bytes.{bytes_of}
use Rattle.little_endian.proofs.Numbers.{length-bytes_of}
use Rattle.convert_parts.specs.Pieces.{places_of, pieces_at}
use Rattle.convert_parts.specs.Sparse.{stored_body}

-- ---- places: one more or none for each step
module _ (p : ℕ → Bool) where
  pub places-next : (n : ℕ) → places_of p (n + 1) ≡ places_of p n ++ cond (p n) (n ∷ []) []
  unfolding places_of
  places-next n = rw add-one

  pub length-next : (n : ℕ) → length (places_of p (n + 1)) ≡ length (places_of p n) + length (cond (p n) (n ∷ []) [])
  length-next n = rw (places-next n) (length-append (places_of p n) (cond (p n) (n ∷ []) []))

  pub places-within : (n : ℕ) → length (places_of p n) ≤ n
  unfolding places_of
  places-within zero = omega arith
  places-within (suc n) = rw length-append (omega (arith, places-within n, one (p n)))
    where
      one : (b : Bool) → length (cond b (n ∷ []) []) ≤ 1
      one true = omega arith
      one false = omega arith

  places-rise : (n m : ℕ) → n ≤ m → length (places_of p n) ≤ length (places_of p m)
  places-rise n m h = let e : m ≡ n + (m - n) = omega arith in rw e (on (m - n))
    where
      on : (k : ℕ) → length (places_of p n) ≤ length (places_of p (n + k))
      on zero = rw add-zero (omega arith)
      on (suc k) = rw (add-suc, ← add-one (n + k)) (omega (arith, on k, length-next (n + k)))

  pub places-room : (n m : ℕ) → n < m → length (places_of p n) + length (cond (p n) (n ∷ []) []) ≤ length (places_of p m)
  places-room n m h = rw (← length-next n) (places-rise (n + 1) m (omega arith))

  -- a loop that counts them among the first d: n before place i
  pub record Counting (d n i : ℕ) : Type 0 where
    pub within : i ≤ d
    pub found : n ≡ length (places_of p i)

  pub count_none : (d : ℕ) → Counting d 0 0
  unfolding places_of
  count_none d = record { within = omega arith; found = refl }

  module _ {d n i : ℕ} (h : Counting d n i) where
    pub count-within : n ≤ i
    count-within = rw h.found (places-within i)

    -- the test at place i, as a number, is what it adds
    pub count_next : i < d → (b : Bool) → b ≡ p i → Counting d (n + bool_byte b) (i + 1)
    count_next less b e = record { within = omega arith; found = rw (length-next i, ← h.found, ← e) (one b) }
      where
        one : (b : Bool) → n + bool_byte b ≡ n + length (cond b (i ∷ []) [])
        one true = refl
        one false = refl

    pub count-all : d ≤ i → n ≡ length (places_of p d)
    count-all ends = let e : d ≡ i = omega (arith, h.within) in rw e h.found

  -- where all pass
  pub places-all : ((i : ℕ) → true ≡ p i) → (n : ℕ) → length (places_of p n) ≡ n
  unfolding places_of
  places-all h zero = refl
  places-all h (suc n) = rw (length-append, ← (h n), places-all h n) (omega arith)

-- ---- the pieces of places, which have w bytes each
pub pieces_at-append : (g : ℕ → List ℕ) (is js : List ℕ) → pieces_at g (is ++ js) ≡ pieces_at g is ++ pieces_at g js
unfolding pieces_at
pieces_at-append g [] js = refl
pieces_at-append g (i ∷ is) js = rw (append_assoc, ← pieces_at-append g is js)

pub pieces_at-snoc : (g : ℕ → List ℕ) (is : List ℕ) (i : ℕ) → pieces_at g (is ++ (i ∷ [])) ≡ pieces_at g is ++ g i
unfolding pieces_at
pieces_at-snoc g is i = rw (pieces_at-append g is (i ∷ []), append-nil)

length-pieces_at : (g : ℕ → List ℕ) (w : ℕ) (p : ℕ → Bool) (n : ℕ) → ((i : ℕ) → i < n → length (g i) ≡ w)
    → length (pieces_at g (places_of p n)) ≡ w * length (places_of p n)
unfolding places_of pieces_at
length-pieces_at g w p zero h = omega arith
length-pieces_at g w p (suc n) h =
    let lower = length-pieces_at g w p n (λ i l. h i (omega arith)) in
    simp (pieces_at-append, length-append, lower) (omega (arith, last (p n)))
  where
    last : (b : Bool) → length (pieces_at g (cond b (n ∷ []) [])) ≡ w * length (cond b (n ∷ []) [])
    last true = rw length-append (omega (arith, h n (omega arith)))
    last false = omega arith

-- ---- the values and the indices that a sparse body is made of
pub length-indices : (p : ℕ → Bool) (n : ℕ) → length (pieces_at (bytes_of 4) (places_of p n)) ≡ 4 * length (places_of p n)
length-indices p n = length-pieces_at (bytes_of 4) 4 p n (λ i _. length-bytes_of 4 i)

-- values of four bytes
module _ (value : ℕ → List ℕ) (d : ℕ) (wide : (i : ℕ) → i < d → length (value i) ≡ 4) where
  pub length-values : (p : ℕ → Bool) (n : ℕ) → n ≤ d → length (pieces_at value (places_of p n)) ≡ 4 * length (places_of p n)
  length-values p n h = length-pieces_at value 4 p n (λ i l. wide i (omega arith))

  pub length-stored : (p : ℕ → Bool) → length (stored_body p value d) ≡ 8 * length (places_of p d)
  unfolding stored_body
  length-stored p = rw (length-append, length-values p d (omega arith), length-indices p d) (omega arith)
