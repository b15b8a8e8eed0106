-- What asks only for places below n is the same of two functions that agree there.
use mathlib.Core.Path.{◌≡◌, refl, ap}
use mathlib.Core.Bool.{Bool, true, false, cond, ◌&&◌}
use mathlib.Core.List.{List, [], ◌∷◌, ◌++◌}
use Prim.Native.Nat.{ℕ, zero, suc, ◌+◌, ◌*◌, ◌<◌}
use native.Mathlib.Omega.{arith}
use lib.Dec.{ltb}
use lib.Ieee.{Float}
use borrow.Author.Tests.{ltb-true}
use Rattle.vector_types.specs.Layout.{ceil}
use Rattle.convert_parts.specs.Pieces.{pieces, places_of, pieces_at}
use Rattle.convert_parts.specs.Bits.{packed_byte, packed_bits}
use Rattle.convert_parts.specs.Quantized.{least, greatest, quantum, fitted_scale, quantized_with}
use Rattle.convert_parts.proofs.Places.{pieces_at-append}

abbrev pub Same : {A : Type 0} → (ℕ → A) → (ℕ → A) → ℕ → Type 0
Same e e' n = (i : ℕ) → i < n → e i ≡ e' i

pub pieces-same : (g h : ℕ → List ℕ) (n : ℕ) → Same g h n → pieces g n ≡ pieces h n
unfolding pieces
pieces-same g h zero s = refl
pieces-same g h (suc n) s = rw (pieces-same g h n (λ i l. s i (omega arith)), s n (omega arith))

pub places_same : (p q : ℕ → Bool) (n : ℕ) → Same p q n → places_of p n ≡ places_of q n
unfolding places_of
places_same p q zero s = refl
places_same p q (suc n) s = rw (places_same p q n (λ i l. s i (omega arith)), s n (omega arith))

pub pieces_at-same : (g h : ℕ → List ℕ) (p : ℕ → Bool) (n : ℕ) → Same g h n → pieces_at g (places_of p n) ≡ pieces_at h (places_of p n)
unfolding places_of pieces_at
pieces_at-same g h p zero s = refl
pieces_at-same g h p (suc n) s =
    rw (pieces_at-append, pieces_at-append, pieces_at-same g h p n (λ i l. s i (omega arith))) (ap (λ (l : List ℕ). pieces_at h (places_of p n) ++ l) (last (p n)))
  where
    last : (b : Bool) → pieces_at g (cond b (n ∷ []) []) ≡ pieces_at h (cond b (n ∷ []) [])
    last true = rw (s n (omega arith))
    last false = refl

byte-same : (p q : ℕ → Bool) (d m n : ℕ) → Same p q d → packed_byte p d m n ≡ packed_byte q d m n
unfolding packed_byte
byte-same p q d m zero s = refl
byte-same p q d m (suc j) s = rw (byte-same p q d m j s, at (ltb i d) refl)
  where
    i : ℕ
    i = 8 * m + j

    at : (b : Bool) → ltb i d ≡ b → ltb i d && p i ≡ ltb i d && q i
    at true e = rw e (s i (ltb-true i d e))
    at false e = rw e

pub packed-same : (p q : ℕ → Bool) (d : ℕ) → Same p q d → packed_bits p d ≡ packed_bits q d
unfolding packed_bits
packed-same p q d s = pieces-same _ _ (ceil d 8) (λ m l. ap (λ (b : ℕ). b ∷ []) (byte-same p q d m 8 s))

module _ (e e' : ℕ → Float) where
  least-same : (n : ℕ) → Same e e' n → least e n ≡ least e' n
  unfolding least
  least-same zero s = refl
  least-same (suc n) s = rw (least-same n (λ i l. s i (omega arith)), s n (omega arith))

  greatest-same : (n : ℕ) → Same e e' n → greatest e n ≡ greatest e' n
  unfolding greatest
  greatest-same zero s = refl
  greatest-same (suc n) s = rw (greatest-same n (λ i l. s i (omega arith)), s n (omega arith))

  scale_same : (d : ℕ) → Same e e' d → fitted_scale e d ≡ fitted_scale e' d
  scale_same d s = rw (least-same d s, greatest-same d s)

  pub quantized-same : (d : ℕ) → Same e e' d → quantized_with (fitted_scale e d) e d ≡ quantized_with (fitted_scale e' d) e' d
  quantized-same d s =
      let c = fitted_scale e' d in
      let quanta = pieces-same (λ i. quantum c (e i) ∷ []) (λ i. quantum c (e' i) ∷ []) d (λ i l. rw (s i l)) in
      rw (scale_same d s, quanta)
