-- The plain mode answers a blob as the Rust's checks do, with the rules' number for each outcome and their two limits: by length and type byte.
use Rattle.std.proofs.Common.{◌≡◌, refl, sym, ap, subst, ◌∙◌, Bool, true, false, cond, not, List, ℕ, ◌+◌, ◌-◌, ◌*◌, ◌/◌, ◌%◌, ◌<◌, ◌≤◌, arith, ltb, leb, eqb, length, get_or, take, length-take-le, eq-eqb, ne_eqb, lt-ltb, eqb-true, ltb-true, ltb-false, Some, Result, Ok, Err}
use Rattle.std.specs.Cmp.{both_ways}
use Rattle.std.proofs.lemmas.Bool.{eqb-false, not-false}
use Rattle.vector_types.specs.declared.Refusal.TheVariants.{BodyLengthUnfit, IndexNotBelowDims, DimsOverLimit}
use Rattle.vector_types.specs.declared.Refusal.{Refusal}
use Rattle.vector_types.specs.declared.View.{View}
use Rattle.little_endian.specs.Bytes.{u32_at}
use Rattle.little_endian.proofs.Numbers.{number_at-take}
use Rattle.vector_types.specs.Answers.{accepted_as}
use Rattle.vector_types.specs.Search.{first_index, any_index}
use Rattle.vector_types.specs.Layout.{max_blob_length, max_dims, by_byte, named_kind, length_before_type, is_outside}
use Rattle.vector_types.specs.Read.{read_of}
use Rattle.vector_types.specs.Original.{one_bit_type, float8_type, by_type_byte, is_untyped, vector_type, from_data_with_dims, after_type, from_slice}
use Rattle.vector_types.specs.OriginalNumbers.{answer_to, original_answer}
use Rattle.vector_types.specs.declared.KindError.TheVariants.{Unsupported, Unknown}
use Rattle.vector_types.specs.declared.VectorType.TheVariants.{Float32Dense, Float64Dense, Float32Sparse, Float1Bit, Float8}
use Rattle.vector_types.specs.declared.Mode.TheVariants.{Plain}
use Rattle.vector_types.proofs.Bools.{cond-through, cond-or, one_of_three}
use Rattle.vector_types.proofs.ByKind.{divides, read-long, read-dense32, read-dense64, read-one-bit, read-float8, sparse_by, read-sparse, read-unnamed}
use Rattle.vector_types.proofs.Ends.{even-untyped, odd-last}
use Rattle.vector_types.proofs.Some.{first-same}
use Rattle.vector_types.proofs.Unreached.{one-bit-live, float8-live}

under-two : (n : ℕ) → n % 2 ≡ 0 → eqb n 0 ≡ ltb n 2
under-two n even = both_ways (eqb n 0) (ltb n 2)
    (λ h. let e = eqb-true n 0 h in lt-ltb n 2 (omega arith))
    (λ h. let l = ltb-true n 2 h in eq-eqb n 0 (omega arith))

module _ (s : List ℕ) (n : ℕ) (short : length s ≤ max_blob_length) (inside : n ≤ length s) where
  long : length (take n s) ≡ n
  long = length-take-le n s inside

  as-float32 : named_kind s ≡ Ok Float32Dense → length_before_type s ≡ n → Some (read_of Plain s) ≡ answer_to (from_data_with_dims Float32Dense (take n s) 0)
  unfolding from_data_with_dims
  as-float32 names size = ap Some (read-dense32 s short n names size) ∙ simp (long, divides, cond-through answer_to, cond-through {A = Result View Refusal} Some)

  as-float64 : named_kind s ≡ Ok Float64Dense → length_before_type s ≡ n → Some (read_of Plain s) ≡ answer_to (from_data_with_dims Float64Dense (take n s) 0)
  unfolding from_data_with_dims
  as-float64 names size = ap Some (read-dense64 s short n names size) ∙ simp (long, divides, cond-through answer_to, cond-through {A = Result View Refusal} Some)

  as-one-bit : named_kind s ≡ Ok Float1Bit → n ≡ length s - 1 → n % 2 ≡ 0 → Some (read_of Plain s) ≡ answer_to (after_type (one_bit_type n (get_or s (n - 1) 0)) s)
  as-one-bit names last even = ap Some (read-one-bit s short names) ∙ rw (← last, one-bit-live s n inside even (get_or s (n - 1) 0)) (simp (cond-through answer_to, cond-through {A = Result View Refusal} Some))

  as-float8 : named_kind s ≡ Ok Float8 → n ≡ length s - 1 → n % 2 ≡ 0 → Some (read_of Plain s) ≡ answer_to (after_type (float8_type n (get_or s (n - 1) 0)) s)
  as-float8 names last even =
      ap Some (read-float8 s short names) ∙ rw (← last, float8-live s n inside even (get_or s (n - 1) 0), under-two n even) (simp (cond-or, cond-through answer_to, cond-through {A = Result View Refusal} Some))

  -- a length that is not four bytes and whole entries fails one of the Rust's three tests
  sparse-unfit : (n ≡ 4 + 8 * (n / 8) → ⊥) → answer_to (from_data_with_dims Float32Sparse (take n s) 0) ≡ Some (Err BodyLengthUnfit)
  unfolding from_data_with_dims
  sparse-unfit unfit =
      simp (long, cond-through answer_to) (one_of_three (eqb n 0) (not (eqb (n % 4) 0)) (not (eqb ((n - 4) % 8) 0))
      (λ some words entries. unfit (omega (arith, eqb-false n 0 some, eqb-true (n % 4) 0 (not-false _ words), eqb-true ((n - 4) % 8) 0 (not-false _ entries)))) _ _)

  -- and one that is fails none: the dims and the indices of the data are those of the blob
  sparse-fit : (k : ℕ) → n ≡ 4 + 8 * k → let d = u32_at s (n - 4) in answer_to (from_data_with_dims Float32Sparse (take n s) 0)
      ≡ Some (cond (any_index (is_outside s k d) k) (Err (IndexNotBelowDims (first_index (is_outside s k d) k))) (cond (ltb max_dims d) (Err DimsOverLimit) (accepted_as Float32Sparse d (8 * k))))
  unfolding from_data_with_dims
  sparse-fit k size =
      let d = u32_at s (8 * k) in
      let body : n - 4 ≡ 8 * k = omega arith in
      let count : 8 * k / 8 ≡ k = omega arith in
      let stored : u32_at (take n s) (8 * k) ≡ d = number_at-take 4 n s (8 * k) (omega arith) in
      let index : (j : ℕ) → j < k → is_outside (take n s) k d j ≡ is_outside s k d j = λ j h. ap (leb d) (number_at-take 4 n s (4 * k + 4 * j) (omega arith)) in
      let first = first-same (is_outside (take n s) k d) (is_outside s k d) k index in
      simp (long, body, count, stored, first, ne_eqb n 0 (omega arith), eq-eqb (n % 4) 0 (omega arith), eq-eqb (8 * k % 8) 0 (omega arith), cond-through answer_to, cond-through {A = Result View Refusal} Some)

  as-sparse : named_kind s ≡ Ok Float32Sparse → n ≡ length s - 1 → Some (read_of Plain s) ≡ answer_to (from_data_with_dims Float32Sparse (take n s) 0)
  as-sparse names last = ap Some (read-sparse s short names) ∙ rw (← last) (by_length (eqb n (4 + 8 * (n / 8))) refl)
    where
      by_length : (b : Bool) → eqb n (4 + 8 * (n / 8)) ≡ b → Some (sparse_by s n) ≡ answer_to (from_data_with_dims Float32Sparse (take n s) 0)
      by_length true h = rw h (sym (sparse-fit (n / 8) (eqb-true n (4 + 8 * (n / 8)) h)))
      by_length false h = rw h (sym (sparse-unfit (eqb-false n (4 + 8 * (n / 8)) h)))

-- a type byte is one of the seven that the match has arms for, or another
module _ (P : ℕ → Type 0) (b : ℕ) where
  is-or-other : (c : ℕ) → P c → (eqb b c ≡ false → P b) → P b
  is-or-other c h other = by-test (eqb b c) refl
    where
      by-test : (e : Bool) → eqb b c ≡ e → P b
      by-test true e = subst P (sym (eqb-true b c e)) h
      by-test false e = other e

module _ (s : List ℕ) (short : length s ≤ max_blob_length) where
  abbrev n : ℕ
  n = length s - 1

  -- the byte b after n others, an even number
  abbrev AsTyped : ℕ → Type 0
  AsTyped b = named_kind s ≡ by_byte b → Some (read_of Plain s) ≡ answer_to (after_type (by_type_byte b n (get_or s (n - 1) 0)) s)

  as-typed : n ≤ length s → n % 2 ≡ 0 → length_before_type s ≡ n → (b : ℕ) → AsTyped b
  unfolding by_byte by_type_byte
  as-typed inside even size b =
      is-or-other AsTyped b 1 (λ names. as-float32 s n short inside names size)
      (λ e1. is-or-other AsTyped b 2 (λ names. as-float64 s n short inside names size)
      (λ e2. is-or-other AsTyped b 3 (λ names. as-one-bit s n short inside names refl even)
      (λ e3. is-or-other AsTyped b 4 (λ names. as-float8 s n short inside names refl even)
      (λ e4. is-or-other AsTyped b 5 (λ names. ap Some (read-unnamed s short Unsupported names))
      (λ e5. is-or-other AsTyped b 6 (λ names. ap Some (read-unnamed s short Unsupported names))
      (λ e6. is-or-other AsTyped b 9 (λ names. as-sparse s n short inside names refl)
      (λ e9 names. ap Some (read-unnamed s short Unknown (rw (e1, e2, e3, e4, e5, e6, e9) at names)) ∙ rw (e1, e2, e3, e4, e5, e6, e9))))))))

pub read-as-original : (s : List ℕ) → Some (read_of Plain s) ≡ original_answer s
unfolding from_slice vector_type
read-as-original s = by-limit (ltb max_blob_length (length s)) refl
  where
    by_length : length s ≤ max_blob_length → (b : Bool) → is_untyped s ≡ b → Some (read_of Plain s) ≡ answer_to (from_slice s)
    by_length short true h =
        let (names, size) = even-untyped s (eqb-true (length s % 2) 0 h) in
        as-float32 s (length s) short (omega arith) names size ∙ rw h
    by_length short false h =
        let odd = eqb-false (length s % 2) 0 h in
        let (names, size) = odd-last s odd in
        as-typed s short (omega arith) (omega arith) size (get_or s (length s - 1) 0) names ∙ rw h

    by-limit : (b : Bool) → ltb max_blob_length (length s) ≡ b → Some (read_of Plain s) ≡ original_answer s
    by-limit true h = ap Some (read-long s (ltb-true max_blob_length (length s) h)) ∙ rw h
    by-limit false h = by_length (ltb-false max_blob_length (length s) h) (is_untyped s) refl ∙ rw h
