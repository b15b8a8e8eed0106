-- Two regions of a buffer that grow side by side: the values and the indices of a sparse body.
use mathlib.Core.Path.{◌≡◌, refl, sym, ◌∙◌}
use mathlib.Core.Bool.{Bool, true, false, cond}
use mathlib.Core.List.{List, [], ◌∷◌, ◌++◌, append_assoc, append-nil}
use Prim.Native.Nat.{ℕ, ◌+◌, ◌-◌, ◌*◌, ◌<◌, ◌≤◌}
use native.Mathlib.Nat.{zero-add, add_assoc}
use native.Mathlib.Omega.{arith}
use lib.ListN.{length, take, drop, length-append}
use lib.Seq.{length-take-le, take_at, drop_at, take-add, take-take, take-append-le, drop-append-le, drop-drop}
use Rattle.promises.specs.Onto.{onto}
use Rattle.little_endian.specs.Bytes.{put, bytes_of}
use Rattle.little_endian.proofs.Put.{length-put, put-nothing, put_front, put-put}
use Rattle.little_endian.proofs.Numbers.{length-bytes_of}
use Rattle.convert_parts.specs.Pieces.{places_of, pieces_at}
use Rattle.convert_parts.specs.Sparse.{stored_body}
use Rattle.convert_parts.proofs.Places.{places-next, length-next, places-room, pieces_at-snoc, length-values, length-indices}

-- ---- bytes put at two places that are m bytes apart, in either order
put-swap : (l : List ℕ) (i : ℕ) (us : List ℕ) (m : ℕ) (vs : List ℕ) → i + length us + m + length vs ≤ length l
    → put (put l i us) (i + length us + m) vs ≡ put (put l (i + length us + m) vs) i us
unfolding put
put-swap l i us m vs room =
    let k = i + length us in
    let head = take i l ++ us in
    let rest = vs ++ drop (k + m + length vs) l in
    let long : length head ≡ k = rw length-append (omega (arith, length-take-le i l (omega arith))) in
    let left = length-take-le (k + m) l (omega arith) in
    let e₁ : take (k + m) (head ++ drop k l) ≡ head ++ take m (drop k l) =
    rw (take-add, take_at head (drop k l) k long, drop_at head (drop k l) k long) in
    let e₂ : drop (k + m + length vs) (head ++ drop k l) ≡ drop (k + m + length vs) l =
    rw (add_assoc k m, ← drop-drop (m + length vs) k (head ++ drop k l), drop_at head (drop k l) k long, drop-drop) in
    let e₃ : take i (take (k + m) l ++ rest) ≡ take i l =
    take-append-le i (take (k + m) l) rest (omega arith) ∙ take-take i (k + m) l (omega arith) in
    let e₄ : drop k (take (k + m) l ++ rest) ≡ take m (drop k l) ++ rest =
    drop-append-le k (take (k + m) l) rest (omega arith)
    ∙ rw (take-add, drop_at (take k l) (take m (drop k l)) k (length-take-le k l (omega arith))) in
    rw (e₁, e₂, append_assoc (take (k + m) l), e₃, e₄) (simp append_assoc)

-- ---- two regions, of which the first starts at 0: both grow, and when they meet they are one text
module _ (l : List ℕ) (at : ℕ) (us vs : List ℕ) where
  regions-grown : (v w : List ℕ) → length us + length v ≤ at → at + length vs + length w ≤ length l
      → put (put (put (put l 0 us) at vs) (length us) v) (at + length vs) w ≡ put (put l 0 (us ++ v)) at (vs ++ w)
  regions-grown v w apart room =
      let first = length-put l 0 us (omega arith) in
      let m = at - (length us + length v) in
      let e : length us + length v + m ≡ at = omega arith in
      let swap = rw e at (put-swap (put l 0 us) (length us) v m vs (omega arith)) in
      let low = rw zero-add at (put-put l 0 us (omega arith) v) in
      let more = length-put l 0 (us ++ v) (rw length-append (omega arith)) in
      rw (← swap, low) (put-put (put l 0 (us ++ v)) at vs (omega arith) w)

  regions-joined : length us ≡ at → at + length vs ≤ length l → put (put l 0 us) at vs ≡ onto (us ++ vs) l
  regions-joined e room = rw (zero-add, e) at (put-put l 0 us (omega arith) vs) ∙ put_front l (us ++ vs)

-- ---- the values and the indices of the places below i that pass p, laid out for count of these
module _ (p : ℕ → Bool) (value : ℕ → List ℕ) (d count : ℕ) (l : List ℕ) where
  abbrev laid : ℕ → List ℕ
  laid i = put (put l 0 (pieces_at value (places_of p i))) (4 * count) (pieces_at (bytes_of 4) (places_of p i))

  laid_none : laid 0 ≡ l
  unfolding places_of pieces_at
  laid_none = rw (put-nothing (put l 0 []) (4 * count), put-nothing l 0)

  -- a loop that lays them out: before place i there are n entries, and out holds them
  pub record Laying (out : List ℕ) (n i : ℕ) : Type 0 where
    pub within : i ≤ d
    pub entries : n ≡ length (places_of p i)
    pub long : length out ≡ length l
    pub written : out ≡ laid i

  pub laying-none : Laying l 0 0
  unfolding places_of
  laying-none = record { within = omega arith; entries = refl; long = refl; written = sym laid_none }

  -- the values have four bytes each, and there is room for all
  module _ (wide : (i : ℕ) → i < d → length (value i) ≡ 4) (all : count ≡ length (places_of p d)) (room : 8 * count ≤ length l) where
    laid_next : (i n : ℕ) → i < d → n ≡ length (places_of p i)
        → cond (p i) (put (put (laid i) (4 * n) (value i)) (4 * count + 4 * n) (bytes_of 4 i)) (laid i) ≡ laid (i + 1)
    laid_next i n h e = rw (places-next p i) (by (p i) (omega (arith, places-room p i d h)))
      where
        places : List ℕ
        places = places_of p i

        by : (b : Bool) → length places + length (cond b (i ∷ []) []) ≤ count
            → cond b (put (put (laid i) (4 * n) (value i)) (4 * count + 4 * n) (bytes_of 4 i)) (laid i)
            ≡ put (put l 0 (pieces_at value (places ++ cond b (i ∷ []) []))) (4 * count) (pieces_at (bytes_of 4) (places ++ cond b (i ∷ []) []))
        by true fits =
            let values : length (pieces_at value places) ≡ 4 * n = rw e (length-values value d wide p i (omega arith)) in
            let indices : length (pieces_at (bytes_of 4) places) ≡ 4 * n = rw e (length-indices p i) in
            rw (pieces_at-snoc value places i, pieces_at-snoc (bytes_of 4) places i, ← values)
            (rw (indices, ← values) at
            (regions-grown l (4 * count) (pieces_at value places) (pieces_at (bytes_of 4) places) (value i) (bytes_of 4 i) (omega (arith, wide i h)) (omega (arith, length-bytes_of 4 i))))
        by false fits = rw append-nil

    laid-all : laid d ≡ onto (stored_body p value d) l
    unfolding stored_body
    laid-all =
        let values = length-values value d wide p d (omega arith) in
        let indices = length-indices p d in
        regions-joined l (4 * count) (pieces_at value (places_of p d)) (pieces_at (bytes_of 4) (places_of p d)) (omega arith) (omega arith)

    module _ {out : List ℕ} {n i : ℕ} (h : Laying out n i) where
      -- place i, which is stored or not, and its value's bytes
      module _ (less : i < d) (b : Bool) (stored : b ≡ p i) where
        pub laying-room : n + length (cond b (i ∷ []) []) ≤ count
        laying-room = rw stored (omega (arith, h.entries, all, places-room p i d less))

        pub laying-next : (v : List ℕ) → v ≡ value i → (r : ℕ) → r ≡ n + length (cond b (i ∷ []) []) → (o : List ℕ) → length o ≡ length out
            → o ≡ cond b (put (put out (4 * n) v) (4 * count + 4 * n) (bytes_of 4 i)) out → Laying o r (i + 1)
        laying-next v same r more o size e =
            record {
              within = omega arith;
              entries = rw (length-next p i, ← stored, ← h.entries) more;
              long = size ∙ h.long;
              written = e ∙ rw (same, stored, h.written) (laid_next i n less h.entries);
            }

      pub laying-all : d ≤ i → out ≡ onto (stored_body p value d) l
      laying-all ends = let e : i ≡ d = omega (arith, h.within) in h.written ∙ rw e laid-all
