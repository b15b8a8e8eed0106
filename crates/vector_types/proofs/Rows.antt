-- The layout table against the refusals, kind by kind: every test fails exactly if the row and the limits accept the blob.
use Rattle.std.proofs.Common.{◌≡◌, refl, Bool, true, false, not, List, ℕ, ◌+◌, ◌-◌, ◌*◌, ◌/◌, ◌%◌, ◌≤◌, arith, ltb-false, leb-false, eqb-true, leb-true, le-leb, le-ltb, eq-eqb, ne_eqb, ltb, leb, eqb, length, Ok}
use Rattle.std.proofs.lemmas.Bool.{or_parts}
use mathlib.Core.Bool.{and-eq-true_iff}
use Rattle.std.proofs.lemmas.Bool.{eqb-false, lt-leb, not-true, not-false}
use Rattle.vector_types.specs.Layout.{max_blob_length, max_dims, named_kind, length_before_type, trailing_count, row_accepts, entry_count, sparse_dims, is_outside, ceil, body_unfit, dims_of, length_of, body_fits, layout_row}
use Rattle.vector_types.specs.Search.{any_index}
use Rattle.vector_types.specs.Read.{refusals}
use Rattle.vector_types.specs.declared.VectorType.{VectorType}
use Rattle.vector_types.specs.declared.VectorType.TheVariants.{Float32Dense, Float64Dense, Float32Sparse, Float1Bit, Float8}
use Rattle.vector_types.specs.declared.Mode.TheVariants.{Plain}
use Rattle.vector_types.proofs.Bools.{and-three}
use Rattle.vector_types.proofs.Ends.{named-typed, before-within}
use Rattle.vector_types.proofs.Given.{Passed}

-- a body is part of its blob
pub length-within : (s : List ℕ) (k : VectorType) → length_of k s ≤ length s
unfolding layout_row
length-within s Float32Dense = omega (arith, before-within s)
length-within s _ = omega (arith, before-within s)

-- what the tests tell where all of them fail
module _ (s : List ℕ) (k : VectorType) (p : Passed (refusals Plain (Ok k) s)) where
  pub passed-short : length s ≤ max_blob_length
  unfolding refusals
  passed-short = ltb-false max_blob_length (length s) p.0

  pub passed-few : dims_of k s ≤ max_dims
  unfolding refusals
  passed-few = ltb-false max_dims (dims_of k s) p.1.1.1.1.1.1.1.1.0

  pub passed-fit : body_fits k (dims_of k s) (length_of k s) ≡ true
  unfolding refusals
  passed-fit = not-false _ (or_parts _ _ (or_parts _ _ p.1.1.1.1.1.1.0).0).0

module _ (s : List ℕ) where
  pub passed-accepted : (k : VectorType) → named_kind s ≡ Ok k → Passed (refusals Plain (Ok k) s) → row_accepts k s ≡ true
  unfolding refusals layout_row
  passed-accepted Float32Dense e p =
      let whole = eqb-true (length_before_type s) (4 * (length_before_type s / 4)) (passed-fit s Float32Dense p) in
      eq-eqb (length_before_type s % 4) 0 (omega arith)
  passed-accepted Float64Dense e p =
      let whole = eqb-true (length_before_type s) (8 * (length_before_type s / 8)) (passed-fit s Float64Dense p) in
      eq-eqb (length_before_type s % 8) 0 (omega arith)
  passed-accepted Float1Bit e (_, (_, (_, (full, (count, (apart, (fit, _))))))) =
      let n = length_before_type s in
      let t = trailing_count s in
      let bytes = eqb-false n 0 full in
      let pairs = (named-typed s Float1Bit e refl).even in
      let counted = or_parts (ltb (8 * n) t) false count in
      let elements = eqb-false (8 * n - t) 0 (or_parts (body_unfit Float1Bit s) (eqb (8 * n - t) 0) fit).1 in
      let below = leb-false n (ceil (8 * n - t) 8) apart in
      rw (le-leb 2 n (omega arith), le-leb 8 t (omega (arith, ltb-false)), le-leb t (8 * n - 1) (omega (arith, ltb-false)))
  passed-accepted Float8 e (_, (_, (_, (_, (count, (_, (fit, _))))))) =
      let n = length_before_type s in
      let t = trailing_count s in
      let d = n - 10 - t in
      let counted = or_parts (ltb (n - 10) t) (ltb n 10) count in
      let (whole, full) = or_parts (body_unfit Float8 s) (eqb d 0) fit in
      let aligned = eqb-true (n - 2) (4 * ceil d 4 + 8) (not-false _ (or_parts _ _ whole).0) in
      let elements = eqb-false d 0 full in
      rw (le-leb 14 n (omega (arith, ltb-false)), eq-eqb ((n - 10) % 4) 0 (omega (arith, ltb-false)), le-leb t 3 (omega (arith, ltb-false)))
  passed-accepted Float32Sparse e (_, (_, (_, (_, (_, (_, (fit, (inside, _)))))))) =
      let trailed : Bool = eqb (length_before_type s) (4 + 8 * entry_count s) in
      let (_, ends) = or_parts (not (eqb (8 * entry_count s % 8) 0)) (not trailed) (or_parts _ false fit).0 in
      rw (not-false trailed ends, inside)

  -- and where the row and the limits accept the blob, every test fails
  pub accepted-passed : (k : VectorType) → row_accepts k s ≡ true → ltb max_blob_length (length s) ≡ false → ltb max_dims (dims_of k s) ≡ false
      → Passed (refusals Plain (Ok k) s)
  unfolding refusals layout_row
  accepted-passed Float32Dense e short few =
      let whole = eqb-true (length_before_type s % 4) 0 e in
      let fit = eq-eqb (length_before_type s) (4 * (length_before_type s / 4)) (omega arith) in
      (short, (refl, (refl, (refl, (refl, (refl, (rw fit, (refl, (few, tt)))))))))
  accepted-passed Float64Dense e short few =
      let whole = eqb-true (length_before_type s % 8) 0 e in
      let fit = eq-eqb (length_before_type s) (8 * (length_before_type s / 8)) (omega arith) in
      (short, (refl, (refl, (refl, (refl, (refl, (rw fit, (refl, (few, tt)))))))))
  accepted-passed Float1Bit e short few =
      let n = length_before_type s in
      let t = trailing_count s in
      let d = 8 * n - t in
      let row = and-three (leb 2 n) (leb 8 t) (leb t (8 * n - 1)) e in
      let bytes = ne_eqb n 0 (omega (arith, leb-true)) in
      let counted = le-ltb (8 * n) t (omega (arith, leb-true)) in
      let apart = lt-leb n (ceil d 8) (omega (arith, leb-true)) in
      let elements = ne_eqb d 0 (omega (arith, leb-true)) in
      let fit = eq-eqb (ceil d 8) (ceil d 8) refl in
      (short, (refl, (refl, (bytes, (rw counted, (apart, (rw (fit, elements), (refl, (few, tt)))))))))
  accepted-passed Float8 e short few =
      let n = length_before_type s in
      let t = trailing_count s in
      let d = n - 10 - t in
      let row = and-three (leb 14 n) (eqb ((n - 10) % 4) 0) (leb t 3) e in
      let bytes = ne_eqb n 0 (omega (arith, leb-true)) in
      let counted = le-ltb (n - 10) t (omega (arith, leb-true)) in
      let enough = le-ltb n 10 (omega (arith, leb-true)) in
      let elements = ne_eqb d 0 (omega (arith, leb-true)) in
      let fit = eq-eqb (n - 2) (4 * ceil d 4 + 8) (omega (arith, leb-true, eqb-true)) in
      (short, (refl, (refl, (bytes, (rw counted enough, (refl, (rw (fit, elements), (refl, (few, tt)))))))))
  accepted-passed Float32Sparse e short few =
      let m = 8 * entry_count s in
      let out : Bool = any_index (is_outside s (entry_count s) (sparse_dims s)) (entry_count s) in
      let (ends, inside) = (and-eq-true_iff (eqb (length_before_type s) (4 + m)) (not out)).0 e in
      let fit = eq-eqb (m % 8) 0 (omega arith) in
      (short, (refl, (refl, (refl, (refl, (refl, (rw (fit, ends), (not-true out inside, (few, tt)))))))))
