-- Padding of a Float8 blob, and the byte before its count, change no answer: the places that the reader, the distances and the conversions ask for
-- are the type byte, the count, the bytes below dims, alpha and shift.
use mathlib.Core.Path.{◌≡◌, refl, sym, ap, ap₂, ◌∙◌}
use mathlib.Core.List.{List}
use mathlib.Core.Option.{some}
use Prim.Native.Nat.{ℕ, zero, suc, ◌+◌, ◌-◌, ◌*◌, ◌<◌, ◌≤◌}
use native.Mathlib.Nat.{le_refl}
use native.Mathlib.Omega.{arith}
use borrow.Author.Tests.{eqb-true}
use lib.ListN.{length, get_or}
use lib.Seq.{get_or-take}
use lib.Ieee.{Float, Format, binary32, binary64}
use Rattle.float_laws.specs.Running.{running, total}
use Rattle.float_laws.proofs.Running.{running-same}
use Rattle.little_endian.specs.Bytes.{number_at, f32_at, float_bytes}
use Rattle.vector_types.specs.Layout.{ceil, named_kind, length_before_type, body_fits, layout_row}
use Rattle.vector_types.specs.Read.{read_of}
use Rattle.vector_types.specs.Parts.{body_of}
use Rattle.vector_types.specs.declared.VectorType.{VectorType}
use Rattle.vector_types.specs.declared.VectorType.TheVariants.{Float32Dense, Float64Dense, Float32Sparse, Float1Bit, Float8}
use Rattle.vector_types.specs.declared.View.{View}
use Rattle.std.specs.Prelude.{Ok}
use Rattle.vector_types.specs.declared.Mode.{Mode}
use Rattle.vector_types.specs.declared.Mode.TheVariants.{Plain, Strict}
use Rattle.vector_types.proofs.Ends.{named-typed}
use Rattle.vector_types.proofs.ByKind.{read-float8}
use Rattle.vector_types.proofs.Strict.{strict-other}
use Rattle.vector_types.proofs.Modes.{one-view}
use Rattle.vector_types.proofs.Views.{view-facts}
use Rattle.vector_types.proofs.Bodies.{body_is}
use Rattle.bodies.specs.Elements.{alpha_of, shift_of, float8_element}
use Rattle.convert_parts.specs.Dense.{singles, doubles}
use Rattle.convert_parts.specs.Sparse.{sparse_body}
use Rattle.convert_parts.specs.Bits.{bit_body}
use Rattle.convert_parts.specs.Result.{result_of, scratch_body}
use Rattle.convert_parts.proofs.Same.{pieces-same}
use Rattle.convert.specs.Convert.{body_conversion, conversion_of, convert_outcome}
use Rattle.distance_sums.specs.Dense.{apart, l2_by, dot_by, jaccard_by}
use Rattle.distance_sums.specs.Extremes.{lesser, greater}
use Rattle.distance_sums.specs.Float8.{wide_scale, totals_of, scaled_cosine, scaled_dot}
use Rattle.distance.specs.Values.{value_of}
use Rattle.distance.specs.Answer.{distance_of}
use Rattle.distance.specs.declared.Distance.{Distance}
use Rattle.distance.specs.declared.Distance.TheVariants.{Cos, L2, Dot, Jaccard}
use Rattle.vector_laws.specs.Padding.{IsPadding, AlikeButPadding}
use Rattle.vector_laws.proofs.Measured.{answers-same}

total-same : (t u : ℕ → ℕ) (n : ℕ) → ((i : ℕ) → i < n → t i ≡ u i) → total t n ≡ total u n
unfolding total
total-same t u zero h = refl
total-same t u (suc n) h = ap₂ ◌+◌ (total-same t u n (λ i l. h i (omega arith))) (h n (le_refl (suc n)))

-- ---- two bodies of d elements: the same bytes below d, alpha and shift
record SameElements (d : ℕ) (a a' : List ℕ) : Type 0 where
  bytes : (i : ℕ) → i < d → get_or a i 0 ≡ get_or a' i 0
  alpha : alpha_of d a ≡ alpha_of d a'
  shift : shift_of d a ≡ shift_of d a'

same_self : (d : ℕ) (a : List ℕ) → SameElements d a a
same_self d a = record { bytes = λ i l. refl; alpha = refl; shift = refl }

element-same : (f : Format) {d : ℕ} {a a' : List ℕ} → SameElements d a a' → (i : ℕ) → i < d → float8_element f d a i ≡ float8_element f d a' i
element-same f s i l = rw (s.alpha, s.shift, s.bytes i l)

scale_same : {d : ℕ} {a a' : List ℕ} → SameElements d a a' → wide_scale d a ≡ wide_scale d a'
scale_same s = rw (s.alpha, s.shift)

module _ {d : ℕ} {a a' b b' : List ℕ} (s : SameElements d a a') (t : SameElements d b b') where
  totals-same : totals_of a b d ≡ totals_of a' b' d
  unfolding totals_of
  totals-same i = record {
    sum1 = total-same _ _ d s.bytes i;
    sum2 = total-same _ _ d t.bytes i;
    squares1 = total-same _ _ d (λ j l. ap₂ ◌*◌ (s.bytes j l) (s.bytes j l)) i;
    squares2 = total-same _ _ d (λ j l. ap₂ ◌*◌ (t.bytes j l) (t.bytes j l)) i;
    products = total-same _ _ d (λ j l. ap₂ ◌*◌ (s.bytes j l) (t.bytes j l)) i;
  }

  -- the sum of what g makes of two elements
  sums_same : (g : Float → Float → Float)
      → running binary64 (λ i. g (float8_element binary64 d a i) (float8_element binary64 d b i)) d
      ≡ running binary64 (λ i. g (float8_element binary64 d a' i) (float8_element binary64 d b' i)) d
  sums_same g = running-same binary64 _ _ d (λ i l. ap₂ g (element-same binary64 s i l) (element-same binary64 t i l))

  value_same : (m : Distance) → value_of m Float8 d a b ≡ value_of m Float8 d a' b'
  unfolding value_of
  value_same Cos = λ i. some (scaled_cosine (scale_same s i) (scale_same t i) (totals-same i) d)
  value_same L2 = λ i. some (l2_by (sums_same (apart binary64) i))
  value_same Dot = λ i. some (dot_by (scaled_dot (scale_same s i) (scale_same t i) (totals-same i) d))
  value_same Jaccard = λ i. some (jaccard_by binary64 (record { low = sums_same lesser i; high = sums_same greater i }))

module _ {d : ℕ} {a a' : List ℕ} (s : SameElements d a a') where
  singles-same : singles Float8 d a ≡ singles Float8 d a'
  unfolding singles
  singles-same = pieces-same _ _ d (λ i l. ap (float_bytes binary32) (element-same binary32 s i l))

  doubles-same : doubles Float8 d a ≡ doubles Float8 d a'
  unfolding doubles
  doubles-same = pieces-same _ _ d (λ i l. ap (float_bytes binary64) (element-same binary64 s i l))

  result-same : (k : VectorType) → (k ≡ Float8 → ⊥) → result_of Float8 k d a ≡ result_of Float8 k d a'
  unfolding result_of
  result-same Float32Dense other = singles-same
  result-same Float64Dense other = doubles-same
  result-same Float32Sparse other = ap (sparse_body binary32 d) singles-same
  result-same Float1Bit other = ap (bit_body binary32 d) singles-same
  result-same Float8 other = absurd (other refl)

-- ---- two blobs, of which one is accepted
module _ (s s' : List ℕ) (v : View) (e : read_of Plain s ≡ Ok v) (k : v.kind ≡ Float8) (same : AlikeButPadding v.dims.0 s s') where
  abbrev d : ℕ
  d = v.dims.0

  names : named_kind s ≡ Ok Float8
  names = (view-facts s v e).names ∙ ap Ok k

  -- how long the body is, the bytes before the type byte, and the blob
  long : v.length ≡ 4 * ceil d 4 + 8
  unfolding body_fits
  long = eqb-true v.length (4 * ceil d 4 + 8) (rw k at (view-facts s v e).fit)

  before : length_before_type s ≡ 4 * ceil d 4 + 10
  unfolding layout_row
  before = omega (arith, rw k at (view-facts s v e).long, long)

  ends : length s ≡ 4 * ceil d 4 + 11
  ends = omega (arith, before, (named-typed s Float8 names refl).one_more)

  -- ---- the count and the type byte, so the view
  end_same : (i : ℕ) → 4 * ceil d 4 + 8 < i → get_or s i 0 ≡ get_or s' i 0
  end_same i past = same.same_bytes i (λ pad. omega arith) (λ place. omega (arith, before))

  names' : named_kind s' ≡ Ok Float8
  unfolding named_kind
  names' = rw (← same.same_length, ← end_same (length s - 1) (omega (arith, ends))) names

  same-plain-read : read_of Plain s' ≡ read_of Plain s
  same-plain-read =
      let short = (view-facts s v e).short in
      let count = end_same (length s - 1 - 1) (omega (arith, ends)) in
      read-float8 s' (rw (← same.same_length) short) names' ∙ rw (← same.same_length, ← count) (sym (read-float8 s short names))

  accepted' : read_of Plain s' ≡ Ok v
  accepted' = same-plain-read ∙ e

  pub padding-same-read : (mode : Mode) → read_of mode s' ≡ read_of mode s
  padding-same-read Plain = same-plain-read
  padding-same-read Strict = strict-other s' v accepted' (rw k) (rw k) ∙ sym (strict-other s v e (rw k) (rw k))

  -- ---- the bytes below d, alpha and shift, so the elements
  body-byte-same : (i : ℕ) → (IsPadding d i → ⊥) → i < 4 * ceil d 4 + 8 → get_or (body_of s) i 0 ≡ get_or (body_of s') i 0
  body-byte-same i other low =
      let within : i < v.length = omega (arith, long) in
      rw (body_is s v e, body_is s' v accepted', get_or-take v.length s i 0, get_or-take v.length s' i 0) (same.same_bytes i other (λ place. omega (arith, before)))

  body-float-same : (i : ℕ) → 4 * ceil d 4 ≤ i → i + 4 ≤ 4 * ceil d 4 + 8 → f32_at (body_of s) i ≡ f32_at (body_of s') i
  unfolding number_at
  body-float-same i low high =
      let at : (j : ℕ) → j < 4 → get_or (body_of s) (i + j) 0 ≡ get_or (body_of s') (i + j) 0 = λ j l. body-byte-same (i + j) (λ pad. omega arith) (omega arith) in
      rw (at 0 (omega arith), at 1 (omega arith), at 2 (omega arith), at 3 (omega arith))

  same-elements : SameElements d (body_of s) (body_of s')
  same-elements = record {
    bytes = λ i l. body-byte-same i (λ pad. omega arith) (omega arith);
    alpha = body-float-same (4 * ceil d 4) (omega arith) (omega arith);
    shift = body-float-same (4 * ceil d 4 + 4) (omega arith) (omega arith);
  }

  -- ---- what is answered
  kind-is : (w : View) → read_of Plain s ≡ Ok w → w.kind ≡ Float8
  kind-is w g = rw (one-view Plain Plain s w v g e) k

  dims-are : (w : View) → read_of Plain s ≡ Ok w → w.dims.0 ≡ d
  dims-are w g = ap (λ (x : View). x.dims.0) (one-view Plain Plain s w v g e)

  pub padding-same-distance : (m : Distance) (u : List ℕ) → (distance_of m s' u ≡ distance_of m s u) × (distance_of m u s' ≡ distance_of m u s)
  unfolding distance_of
  padding-same-distance m u = (
    sym (answers-same (value_of m) (value_of m) s u s' u (sym same-plain-read) refl
        (λ w x g h shape. rw (kind-is w g, dims-are w g) (value_same same-elements (same_self d (body_of u)) m))),
    sym (answers-same (value_of m) (value_of m) u s u s' refl (sym same-plain-read)
        (λ x w g h shape. rw (shape.kind ∙ kind-is w h, shape.dims ∙ dims-are w h) (value_same (same_self d (body_of u)) same-elements m))),
  )

  pub padding-same-conversion : (t : VectorType) → (t ≡ Float8 → ⊥) → (scratch out : List ℕ) → convert_outcome s' t scratch out ≡ convert_outcome s t scratch out
  unfolding convert_outcome conversion_of body_conversion scratch_body
  padding-same-conversion t other scratch out = rw (e, accepted', k, result-same same-elements t other)
