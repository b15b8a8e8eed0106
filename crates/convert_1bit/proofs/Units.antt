-- The elements of a 1-bit body: none is a zero, so all are stored; their range has two ends once -1.0 and 1.0 were both met; and each has one of two bytes.
use mathlib.Core.Path.{◌≡◌, refl, sym, ap₂, ◌∙◌}
use mathlib.Core.Logic.{inl, inr}
use mathlib.Core.Bool.{Bool, true, false, false≢true}
use mathlib.Core.List.{List, [], ◌∷◌}
use Prim.Native.Nat.{ℕ, zero, suc, ◌*◌, ◌<◌}
use native.Mathlib.Omega.{arith}
use lib.Dec.{eqb}
use lib.ListN.{length, get_or}
use lib.Ieee.{Float, inf, binary32, lt, neg, of_bits, to_bits}
use Rattle.promises.specs.Onto.{onto}
use Rattle.little_endian.specs.Bytes.{float_bytes}
use Rattle.little_endian.proofs.Numbers.{length-bytes_of}
use Rattle.vector_types.specs.Layout.{bit_at}
use Rattle.vector_types.specs.declared.VectorType.TheVariants.{Float32Sparse, Float1Bit}
use Rattle.bodies.specs.Elements.{unit, bit_element}
use Rattle.bodies.proofs.Elements.{unit-not-zero, bit-fits}
use Rattle.convert_parts.specs.Pieces.{pieces, places_of}
use Rattle.convert_parts.specs.Sparse.{is_nonzero, stored_body}
use Rattle.convert_parts.specs.Quantized.{least, greatest}
use Rattle.convert_parts.specs.Result.{result_of}
use Rattle.convert_parts.specs.Inner.Ranges.{range, range_of}
use Rattle.convert_parts.specs.declared.quantized.Range.{Range}
use Rattle.convert_parts.proofs.Places.{places-all, length-stored}
use Rattle.convert_parts.proofs.Ranged.{Among, least-of, greatest-of, least_stays, greatest-stays}
use Rattle.convert_parts.proofs.Same.{pieces-same}
use Rattle.convert_parts.proofs.RangeSoFar.{RangeSoFar}
use Rattle.convert_parts.proofs.Through.{sparse-through}

module _ (body : List ℕ) where
  -- ---- to sparse
  pub bit-nonzero : (i : ℕ) → true ≡ is_nonzero (bit_element body i)
  bit-nonzero i = rw (unit-not-zero (eqb (bit_at body i) 0))

  pub all-stored : (d : ℕ) → length (places_of (λ i. is_nonzero (bit_element body i)) d) ≡ d
  all-stored d = places-all (λ i. is_nonzero (bit_element body i)) bit-nonzero d

  pub length-value : (d i : ℕ) → i < d → length (float_bytes binary32 (bit_element body i)) ≡ 4
  length-value d i h = length-bytes_of 4 (to_bits binary32 (bit_element body i))

  pub stored-bits : (d : ℕ) → result_of Float1Bit Float32Sparse d body ≡ stored_body (λ i. is_nonzero (bit_element body i)) (λ i. float_bytes binary32 (bit_element body i)) d
  unfolding result_of
  stored-bits d = sparse-through (bit_element body) d (bit-fits binary32 body)

  pub length-sparse : (d : ℕ) → length (result_of Float1Bit Float32Sparse d body) ≡ 8 * d
  length-sparse d =
      let p : ℕ → Bool = λ i. is_nonzero (bit_element body i) in
      rw (stored-bits d, length-stored (λ i. float_bytes binary32 (bit_element body i)) d (length-value d) p, all-stored d)

  -- ---- the range: where it has two ends they are -1.0 and 1.0, and no element makes it wider
  abbrev e : ℕ → Float
  e = bit_element body

  ends : (n : ℕ) (x y : Float) → Among e n (inf false) x → Among e n (inf true) y → lt x y ≡ true → (x ≡ unit true) × (y ≡ unit false)
  unfolding lt
  ends n x y (inl p) (inl q) h = absurd (false≢true (rw (p, q) at h))
  ends n x y (inl p) (inr (j, _, q, _)) h = absurd (false≢true (rw (p, q) at h))
  ends n x y (inr (i, _, p, _)) (inl q) h = absurd (false≢true (rw (p, q) at h))
  ends n x y (inr (i, _, p, _)) (inr (j, _, q, _)) h = rw (p, q) (go (eqb (bit_at body i) 0) (eqb (bit_at body j) 0) (rw (p, q) at h))
    where
      go : (s t : Bool) → lt (unit s) (unit t) ≡ true → (unit s ≡ unit true) × (unit t ≡ unit false)
      go true false h = (refl, refl)
      go true true h = absurd (false≢true h)
      go false true h = absurd (false≢true h)
      go false false h = absurd (false≢true h)

  -- no element is less than -1.0, none greater than 1.0
  none-lower : (i : ℕ) → lt (e i) (unit true) ≡ false
  unfolding lt
  none-lower i = go (eqb (bit_at body i) 0)
    where
      go : (s : Bool) → lt (unit s) (unit true) ≡ false
      go true = refl
      go false = refl

  none-higher : (i : ℕ) → lt (unit false) (e i) ≡ false
  unfolding lt
  none-higher i = go (eqb (bit_at body i) 0)
    where
      go : (s : Bool) → lt (unit false) (unit s) ≡ false
      go true = refl
      go false = refl

  pub both-met : {n i : ℕ} {r : Range} → RangeSoFar e n i r → lt r.low r.high ≡ true → r ≡ range_of e n
  both-met {n} {i} s both =
      let (low, high) = ends i (least e i) (greatest e i) (least-of e i) (greatest-of e i) (rw s.found at both) in
      let down = least_stays e (unit true) none-lower i n s.within low in
      let up = greatest-stays e (unit false) none-higher i n s.within high in
      s.found ∙ ap₂ range (low ∙ sym down) (high ∙ sym up)

  -- ---- the bytes: one of two, that of -1.0 and that of 1.0
  module _ (g : Float → ℕ) where
    one_of_two : (b : ℕ) → b < 2 → get_or (g (neg (of_bits binary32 0x3f80_0000)) ∷ g (of_bits binary32 0x3f80_0000) ∷ []) b 0 ≡ g (unit (eqb b 0))
    unfolding of_bits neg
    one_of_two zero h = refl
    one_of_two (suc zero) h = refl
    one_of_two (suc (suc b)) h = absurd (omega arith)

    pub two_bytes : (n clear set : ℕ) → clear ≡ g (neg (of_bits binary32 0x3f80_0000)) → set ≡ g (of_bits binary32 0x3f80_0000)
        → (l o : List ℕ) → o ≡ onto (pieces (λ i. get_or (clear ∷ set ∷ []) (bit_at body i) 0 ∷ []) n) l → o ≡ onto (pieces (λ i. g (e i) ∷ []) n) l
    two_bytes n clear set c s l o p =
        let same = pieces-same (λ i. get_or (clear ∷ set ∷ []) (bit_at body i) 0 ∷ []) (λ i. g (e i) ∷ []) n (λ i _. rw (c, s, one_of_two (bit_at body i) (omega arith))) in
        rw same at p
