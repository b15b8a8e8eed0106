-- Laws of `put`: what is read where after bytes were put at an offset where they fit. By cutting the list at the offset and after the bytes.
use mathlib.Core.Path.{◌≡◌, ◌∙◌}
use mathlib.Core.Logic.{◌⊎◌, inl, inr}
use mathlib.Core.List.{List, [], ◌++◌, append_assoc, append-nil}
use Prim.Native.Nat.{ℕ, ◌+◌, ◌-◌, ◌%◌, ◌/◌, ◌^◌, ◌<◌, ◌≤◌}
use native.Mathlib.Nat.{zero-add, add-zero, add_assoc}
use native.Mathlib.Omega.{arith}
use lib.ListN.{length, take, drop, length-append, length-drop, take-append-drop}
use lib.Seq.{length-take-le, take-add, take_at, take-append_seam, drop-drop, drop_at, drop-append_seam}
use Rattle.promises.specs.Onto.{onto}
use Rattle.little_endian.specs.Bytes.{number_at, bytes_of, put}
use Rattle.little_endian.proofs.Numbers.{number_at-take, number_at-drop, number_at-left, number_at-bytes_of, length-bytes_of, bytes_of-halves}

pub put-nothing : (l : List ℕ) (i : ℕ) → put l i [] ≡ l
unfolding put
put-nothing l i = rw (append-nil, add-zero) (take-append-drop i l)

-- bytes put at the front
pub put_front : (l vs : List ℕ) → put l 0 vs ≡ onto vs l
unfolding put
put_front l vs = rw zero-add

module _ (l : List ℕ) (i : ℕ) (vs : List ℕ) (room : i + length vs ≤ length l) where
  length_before : length (take i l) ≡ i
  length_before = length-take-le i l (omega arith)

  pub length-put : length (put l i vs) ≡ length l
  unfolding put
  length-put = simp (length-append, length-drop, length_before) (omega arith)

  -- ---- the bytes before the offset, from it on, and after what was put
  take_put : take i (put l i vs) ≡ take i l
  unfolding put
  take_put = rw append_assoc (take_at (take i l) (vs ++ drop (i + length vs) l) i length_before)

  drop-put : drop i (put l i vs) ≡ vs ++ drop (i + length vs) l
  unfolding put
  drop-put = rw append_assoc (drop_at (take i l) (vs ++ drop (i + length vs) l) i length_before)

  drop-put-past : drop (i + length vs) (put l i vs) ≡ drop (i + length vs) l
  drop-put-past = rw (← drop-drop (length vs) i, drop-put, drop-append_seam)

  -- a number within what was put
  pub number_at-put : (w j : ℕ) → j + w ≤ length vs → number_at w (put l i vs) (i + j) ≡ number_at w vs j
  number_at-put w j h = rw (← number_at-drop w i (put l i vs) j, drop-put, number_at-left)

  -- a number elsewhere
  pub number_at-put-else : (w j : ℕ) → (j + w ≤ i) ⊎ (i + length vs ≤ j) → number_at w (put l i vs) j ≡ number_at w l j
  number_at-put-else w j (inl h) = rw (← number_at-take w i (put l i vs) j, take_put, number_at-take)
  number_at-put-else w j (inr h) =
      let past = j - (i + length vs) in
      let e : j ≡ i + length vs + past = omega arith in
      rw (e, ← number_at-drop w (i + length vs), drop-put-past, number_at-drop)

  -- more bytes put right after them
  pub put-put : (us : List ℕ) → put (put l i vs) (i + length vs) us ≡ put l i (vs ++ us)
  unfolding put
  put-put us =
      let first : take (i + length vs) (put l i vs) ≡ take i l ++ vs = rw (take-add, take_put, drop-put, take-append_seam) in
      let last : drop (i + length vs + length us) (put l i vs) ≡ drop (i + length vs + length us) l =
      rw (← drop-drop (length us) (i + length vs), drop-put-past, drop-drop) in
      rw (first, last, length-append, ← add_assoc i, append_assoc (take i l))

-- ---- a number is read back where its bytes were put, and may be put as two halves
pub number_at-put-bytes_of : (w v : ℕ) (l : List ℕ) (i : ℕ) → i + w ≤ length l → v < 256 ^ w
    → number_at w (put l i (bytes_of w v)) i ≡ v
number_at-put-bytes_of w v l i room h =
    let long = length-bytes_of w v in
    rw add-zero at (number_at-put l i (bytes_of w v) (omega arith) w 0 (omega arith)) ∙ number_at-bytes_of w v h

pub put-halves : (a b v : ℕ) (l : List ℕ) (i : ℕ) → i + a ≤ length l
    → put (put l i (bytes_of a (v % 256 ^ a))) (i + a) (bytes_of b (v / 256 ^ a)) ≡ put l i (bytes_of (a + b) v)
put-halves a b v l i room =
    let long = length-bytes_of a (v % 256 ^ a) in
    rw (long, bytes_of-halves) at (put-put l i (bytes_of a (v % 256 ^ a)) (omega arith) (bytes_of b (v / 256 ^ a)))
