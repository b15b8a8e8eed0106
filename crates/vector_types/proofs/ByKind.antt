-- Laws of `read_of`, kind by kind: the tests that are left for a blob that names this kind and is not too long.
use Rattle.std.proofs.Common.{◌≡◌, refl, false, cond, not, ◌||◌, List, ℕ, ◌+◌, ◌-◌, ◌*◌, ◌/◌, ◌%◌, ◌<◌, ◌≤◌, arith, ltb, leb, eqb, length, get_or, eq-eqb, eqb-true, lt-ltb, le-ltb, Result, Ok, Err}
use Rattle.std.specs.Cmp.{both_ways}
use mathlib.Core.Bool.{or-false}
use native.Mathlib.Nat.{div-add-mod}
use Rattle.vector_types.specs.declared.KindError.{KindError}
use Rattle.vector_types.specs.declared.KindError.TheVariants.{Unsupported, Unknown}
use Rattle.vector_types.specs.declared.Refusal.{Refusal}
use Rattle.vector_types.specs.declared.View.{View}
use Rattle.vector_types.specs.declared.Refusal.TheVariants.{LengthOverLimit, NoTrailingCount, TrailingCountTooLarge, TrailingBitsTooFew, BodyLengthUnfit, IndexNotBelowDims, DimsOverLimit}
use Rattle.little_endian.specs.Bytes.{u32_at}
use Rattle.vector_types.specs.Answers.{accepted_as, kind_refusal}
use Rattle.vector_types.specs.Search.{first_index, any_index}
use Rattle.vector_types.specs.Layout.{max_blob_length, max_dims, ceil, has_byte, named_kind, length_before_type, is_outside, body_fits, layout_row}
use Rattle.vector_types.specs.Read.{read_of, refusals, shown}
use Rattle.vector_types.specs.declared.VectorType.{VectorType}
use Rattle.vector_types.specs.declared.VectorType.TheVariants.{Float32Dense, Float64Dense, Float32Sparse, Float1Bit, Float8}
use Rattle.vector_types.specs.declared.Mode.TheVariants.{Plain}
use Rattle.vector_types.proofs.Ends.{before-type, named-typed}
use Rattle.vector_types.proofs.Given.{unless-cond}

module _ (s : List ℕ) where
  pub read-long : max_blob_length < length s → read_of Plain s ≡ Err LengthOverLimit
  unfolding read_of refusals
  read-long h = rw (lt-ltb max_blob_length (length s) h)

-- that w divides n, asked in two ways
pub divides : (n w : ℕ) → eqb n (w * (n / w)) ≡ eqb (n % w) 0
divides n w = both_ways (eqb n (w * (n / w))) (eqb (n % w) 0)
    (λ h. eq-eqb (n % w) 0 (omega (arith, eqb-true n (w * (n / w)) h, div-add-mod n w)))
    (λ h. eq-eqb n (w * (n / w)) (omega (arith, eqb-true (n % w) 0 h, div-add-mod n w)))

-- what is left of the reader for a blob of a kind, of n bytes before the type byte, the last of which is t
abbrev dense_by : VectorType → (w n : ℕ) → Result View Refusal
dense_by k w n = cond (not (eqb n (w * (n / w)))) (Err BodyLengthUnfit) (cond (ltb max_dims (n / w)) (Err DimsOverLimit) (accepted_as k (n / w) n))

abbrev one_bit_by : (n t : ℕ) → Result View Refusal
one_bit_by n t = let d = 8 * n - t in
    cond (eqb n 0) (Err NoTrailingCount) (cond (ltb (8 * n) t) (Err TrailingCountTooLarge) (cond (leb n (ceil d 8)) (Err TrailingBitsTooFew)
    (cond (eqb d 0) (Err BodyLengthUnfit) (cond (ltb max_dims d) (Err DimsOverLimit) (accepted_as Float1Bit d (ceil d 8))))))

abbrev float8_by : (n t : ℕ) → Result View Refusal
float8_by n t = let d = n - 10 - t in
    cond (eqb n 0) (Err NoTrailingCount) (cond (ltb (n - 10) t || ltb n 10) (Err TrailingCountTooLarge) (cond (not (eqb (n - 2) (4 * ceil d 4 + 8)) || eqb d 0) (Err BodyLengthUnfit)
    (cond (ltb max_dims d) (Err DimsOverLimit) (accepted_as Float8 d (n - 2)))))

abbrev pub sparse_by : List ℕ → (n : ℕ) → Result View Refusal
sparse_by s n = let k = n / 8 in let d = u32_at s (n - 4) in
    cond (not (eqb n (4 + 8 * k))) (Err BodyLengthUnfit) (cond (any_index (is_outside s k d) k) (Err (IndexNotBelowDims (first_index (is_outside s k d) k))) (cond (ltb max_dims d) (Err DimsOverLimit) (accepted_as Float32Sparse d (8 * k))))

before-typed : (s : List ℕ) (k : VectorType) → named_kind s ≡ Ok k → has_byte 1 k ≡ false → length_before_type s ≡ length s - 1
before-typed s k e other = omega (arith, (named-typed s k e other).one_more)

module _ (s : List ℕ) (short : length s ≤ max_blob_length) where
  pub read-dense32 : (n : ℕ) → named_kind s ≡ Ok Float32Dense → length_before_type s ≡ n → read_of Plain s ≡ dense_by Float32Dense 4 n
  unfolding read_of refusals shown body_fits layout_row
  read-dense32 n e size = rw (e, size) (simp (le-ltb max_blob_length (length s) short, unless-cond, or-false))

  pub read-dense64 : (n : ℕ) → named_kind s ≡ Ok Float64Dense → length_before_type s ≡ n → read_of Plain s ≡ dense_by Float64Dense 8 n
  unfolding read_of refusals shown body_fits layout_row
  read-dense64 n e size = rw (e, size) (simp (le-ltb max_blob_length (length s) short, unless-cond, or-false))

  pub read-one-bit : named_kind s ≡ Ok Float1Bit → read_of Plain s ≡ one_bit_by (length s - 1) (get_or s (length s - 1 - 1) 0)
  unfolding read_of refusals shown body_fits layout_row
  read-one-bit e =
      let m = ceil (8 * (length s - 1) - get_or s (length s - 1 - 1) 0) 8 in
      rw (e, before-typed s Float1Bit e refl) (simp (le-ltb max_blob_length (length s) short, eq-eqb m m refl, unless-cond, or-false))

  pub read-float8 : named_kind s ≡ Ok Float8 → read_of Plain s ≡ float8_by (length s - 1) (get_or s (length s - 1 - 1) 0)
  unfolding read_of refusals shown body_fits layout_row
  read-float8 e = rw (e, before-typed s Float8 e refl) (simp (le-ltb max_blob_length (length s) short, unless-cond, or-false))

  pub read-sparse : named_kind s ≡ Ok Float32Sparse → read_of Plain s ≡ sparse_by s (length s - 1)
  unfolding read_of refusals shown body_fits layout_row
  read-sparse e =
      let m = 8 * ((length s - 1) / 8) in
      let whole : m % 8 ≡ 0 = omega arith in
      rw (e, before-typed s Float32Sparse e refl) (simp (le-ltb max_blob_length (length s) short, eq-eqb (m % 8) 0 whole, unless-cond, or-false))

  pub read-unnamed : (error : KindError) → named_kind s ≡ Err error → read_of Plain s ≡ Err (kind_refusal error)
  unfolding read_of refusals
  read-unnamed Unsupported e = rw e (simp (le-ltb max_blob_length (length s) short))
  read-unnamed Unknown e = rw e (simp (le-ltb max_blob_length (length s) short))

-- a blob with a type byte is not empty
pub typed-some : (s : List ℕ) (k : VectorType) → named_kind s ≡ Ok k → has_byte 1 k ≡ false → 1 ≤ length s
typed-some s k e other = omega (arith, (named-typed s k e other).one_more)

-- what the functions of the reader cite
pub ruleset readings_by_kind = (read-long, read-dense32, read-dense64, read-one-bit, read-float8, read-sparse, read-unnamed, typed-some, before-type)
