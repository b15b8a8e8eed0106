-- Cosine of 1-bit blobs, from answers: it is the count of bits that differ, 0 exactly for equal bodies, and by a detour never less. What is measured
-- against a 1-bit blob is one of the same dims, so both hold dims readings; counts of bits up to 65,536 are exact as f64s.
use mathlib.Core.Path.{◌≡◌, refl, sym, ap, ap₂, subst, ◌∙◌}
use mathlib.Core.Logic.{⊎_elim}
use mathlib.Core.Bool.{true, false, and-eq-true_iff}
use mathlib.Core.List.{List, [], ◌∷◌}
use mathlib.Core.Option.{Option, none, some}
use Prim.Native.Nat.{ℕ, zero, suc, ◌+◌, ◌-◌, ◌*◌, ◌/◌, ◌≤◌, ◌<◌}
use native.Mathlib.Nat.{div-add-mod', eq-or-lt_of_le, le_of_suc-le-suc, zero-lt-suc}
use native.Mathlib.Omega.{arith}
use borrow.Author.Tests.{eqb-true}
use lib.Arith.{bin_ind}
use lib.Bits.{differ, bit_xor, xor_add_and, and_le_l, and_le_r}
use lib.Count.{ones, ones_step}
use lib.Dec.{T, eqb}
use lib.IntN.{pos}
use lib.ListN.{length, get_or, take}
use lib.Seq.{ext_get_or}
use lib.Ieee.{Float, nan, inf, fin, up, down, binary64, add, le, eq}
use lib.Ieee.Exact.{HasValue}
use lib.Ieee.Fits.{down_pos}
use lib.Ieee.Order.{le_of_values}
use Rattle.float_laws.specs.Running.{total}
use Rattle.float_laws.proofs.Whole.{of-whole, of_zero, add-int}
use Rattle.little_endian.specs.Bytes.{AreBytes}
use Rattle.vector_types.specs.Answers.{readings}
use Rattle.vector_types.specs.Layout.{max_dims, ceil, body_fits, bit_at}
use Rattle.vector_types.specs.Read.{read_of}
use Rattle.vector_types.specs.Parts.{body_of}
use Rattle.vector_types.specs.declared.VectorType.TheVariants.{Float1Bit}
use Rattle.vector_types.specs.declared.View.{View}
use Rattle.std.specs.Prelude.{Ok}
use Rattle.vector_types.specs.declared.Mode.TheVariants.{Plain}
use Rattle.vector_types.proofs.Modes.{one-view}
use Rattle.vector_types.proofs.Views.{view-facts}
use Rattle.vector_types.proofs.Bodies.{body_is, body-facts}
use Rattle.distance_sums.specs.Dense.{is_zero}
use Rattle.distance_sums.specs.OneBit.{whole_bits, differing, bit_cosine}
use Rattle.distance_sums.specs.Values.{cosine_of}
use Rattle.distance_sums.proofs.Counts.{xor-digits, tally-le, byte_more}
use Rattle.distance.specs.Values.{value_of}
use Rattle.distance.specs.Answer.{counts_of, distance_of, measured}
use Rattle.distance.specs.declared.Counts.{Counts}
use Rattle.distance.specs.declared.Distance.TheVariants.{Cos}
use Rattle.vector_laws.specs.BitsApart.{bits_apart, dims_each}
use Rattle.vector_laws.proofs.Measured.{measured-alike, alike-measured}

-- ---- two digits
differ-is : (x y : ℕ) → differ x y ≡ (x - y) + (y - x)
differ-is zero y = omega arith
differ-is (suc x) zero = omega arith
differ-is (suc x) (suc y) = omega (arith, differ-is x y)

pub differ_self : (x : ℕ) → differ x x ≡ 0
differ_self x = omega (arith, differ-is x x)

differ-triangle : (x y z : ℕ) → differ x z ≤ differ x y + differ y z
differ-triangle x y z = omega (arith, differ-is x z, differ-is x y, differ-is y z)

-- ---- two bodies
differing-triangle : (a b c : List ℕ) (m : ℕ) → differing a c m ≤ differing a b m + differing b c m
unfolding differing total
differing-triangle a b c zero = omega arith
differing-triangle a b c (suc m) = omega (arith, differing-triangle a b c m, differ-triangle (bit_at a m) (bit_at b m) (bit_at c m))

differing-self : (a : List ℕ) (m : ℕ) → differing a a m ≡ 0
unfolding differing total
differing-self a zero = refl
differing-self a (suc m) = omega (arith, differing-self a m, differ_self (bit_at a m))

-- a number with no digit set is 0, so two bytes that differ in none are equal
no_digit : (n : ℕ) → ones n ≡ 0 → n ≡ 0
no_digit = bin_ind (λ (n : ℕ). ones n ≡ 0 → n ≡ 0) (λ e. refl) step
  where
    step : (n : ℕ) → (ones (n / 2) ≡ 0 → n / 2 ≡ 0) → ones n ≡ 0 → n ≡ 0
    step n half e =
        let none : ones (n / 2) ≡ 0 = omega (arith, ones_step n) in
        omega (arith, ones_step n, half none, div-add-mod' n 2)

same_byte : (x y : ℕ) → ones (bit_xor x y) ≡ 0 → x ≡ y
same_byte x y e = omega (arith, xor_add_and x y, and_le_l x y, and_le_r x y, no_digit (bit_xor x y) e)

module _ (a b : List ℕ) (B : AreBytes a) (C : AreBytes b) where
  same_bytes : (n : ℕ) → differing a b (8 * n) ≡ 0 → (k : ℕ) → k < n → get_or a k 0 ≡ get_or b k 0
  unfolding differing
  same_bytes zero e k h = absurd (omega arith)
  same_bytes (suc n) e k h =
      let more = byte_more xor-digits a b B C n in
      ⊎_elim (λ w. rw w (same_byte (get_or a n 0) (get_or b n 0) (omega arith))) (λ w. same_bytes n (omega arith) k w)
      (eq-or-lt_of_le (le_of_suc-le-suc h))

  differing-none : (n : ℕ) → length a ≡ n → length b ≡ n → differing a b (8 * n) ≡ 0 → a ≡ b
  differing-none n p q e = ext_get_or 0 a b (p ∙ sym q) (λ i h. same_bytes n e i (rw p at h))

-- ---- a 1-bit blob of d elements
record OneBit (d : ℕ) (s : List ℕ) : Type 0 where
  view : View
  read : read_of Plain s ≡ Ok view
  kind : view.kind ≡ Float1Bit
  dims : view.dims.0 ≡ d

bytes_take : (n : ℕ) (s : List ℕ) → AreBytes s → AreBytes (take n s)
bytes_take zero s B k = zero-lt-suc 255
bytes_take (suc n) [] B k = zero-lt-suc 255
bytes_take (suc n) (x ∷ s) B zero = B zero
bytes_take (suc n) (x ∷ s) B (suc k) = bytes_take n s (λ i. B (suc i)) k

abbrev or_nan : Option Float → Float
or_nan none = nan
or_nan (some x) = x

pub one-bit-readings : (s : List ℕ) (v : View) → read_of Plain s ≡ Ok v → v.kind ≡ Float1Bit → v.readings ≡ readings v.dims.0
one-bit-readings s v e k = ap readings ((view-facts s v e).counted ∙ rw k)

dims-readings : {d : ℕ} {s : List ℕ} (o : OneBit d s) → o.view.readings ≡ readings d
dims-readings {d} {s} o = one-bit-readings s o.view o.read o.kind ∙ ap readings o.dims

dims-each : {d : ℕ} {s t : List ℕ} (o : OneBit d s) (other : OneBit d t) → counts_of o.view other.view ≡ dims_each d
dims-each o other = ap₂ (λ m n. record { first = m; second = n }) (dims-readings o) (dims-readings other)

module _ {d : ℕ} {s : List ℕ} (o : OneBit d s) where
  -- what is measured against it is one too, the distance is the count of bits that differ, and both hold dims readings
  measured-one-bit : (t : List ℕ) (x : Float) {c : Counts} → distance_of Cos s t ≡ Ok (measured x c) → OneBit d t × (bit_cosine (bits_apart d s t) ≡ x) × (c ≡ dims_each d)
  unfolding value_of cosine_of
  measured-one-bit t x {c} e =
      let p = measured-alike Cos s t x c e in
      let same = one-view Plain Plain s p.first o.view p.first_read o.read in
      let kind : p.first.kind ≡ Float1Bit = ap (λ (v : View). v.kind) same ∙ o.kind in
      let dims : p.first.dims.0 ≡ d = ap (λ (v : View). v.dims.0) same ∙ o.dims in
      let other : OneBit d t = record { view = p.second; read = p.second_read; kind = sym p.kind ∙ kind; dims = sym p.dims ∙ dims } in (
        other,
        ap or_nan (rw (kind, dims) at p.value),
        sym p.counted ∙ ap (λ (v : View). counts_of v p.second) same ∙ dims-each o other,
      )

  body_bytes : AreBytes s → AreBytes (body_of s)
  body_bytes B = rw (body_is s o.view o.read) (bytes_take o.view.length s B)

  body-long : length (body_of s) ≡ ceil d 8
  unfolding body_fits
  body-long = eqb-true _ _ (rw (o.kind, o.dims) at (body-facts s o.view o.read).fit)

  -- 65,536 at the most
  few-apart : (t : List ℕ) → bits_apart d s t ≤ max_dims
  unfolding differing
  few-apart t = omega (arith, o.dims, (view-facts s o.view o.read).few, tally-le xor-digits (body_of s) (body_of t) (whole_bits d))

  exact-count : (t : List ℕ) (x : Float) {c : Counts} → distance_of Cos s t ≡ Ok (measured x c) → HasValue x false (bits_apart d s t) 1
  unfolding bit_cosine
  exact-count t x e =
      subst (λ (y : Float). HasValue y false (bits_apart d s t) 1) (measured-one-bit t x e).1 (of-whole binary64 (bits_apart d s t) (omega (arith, few-apart t)))

-- a whole number that as a float is a zero
zero-whole : (x : Float) (n : ℕ) → is_zero x ≡ true → HasValue x false n 1 → n ≡ 0
unfolding eq
zero-whole nan n e v = absurd v
zero-whole (inf s) n e v = absurd v
zero-whole (fin s m i) zero e v = refl
zero-whole (fin s m i) (suc n) e v =
    let a = m * up i * down (pos 0) in
    let b = 0 * up (pos 0) * down i in
    omega (arith, eqb-true a b ((and-eq-true_iff (eqb a b) _).0 e).0, v.1, down_pos i)

-- ---- the theorems: counts by way of t, and the answers for an accepted 1-bit blob s
pub counts-triangle : (d : ℕ) (s t u : List ℕ) → bits_apart d s u ≤ bits_apart d s t + bits_apart d t u
counts-triangle d s t u = differing-triangle (body_of s) (body_of t) (body_of u) _

module _ (s : List ℕ) (v : View) (e : read_of Plain s ≡ Ok v) (k : v.kind ≡ Float1Bit) where
  abbrev d : ℕ
  d = v.dims.0

  one_bit : OneBit d s
  one_bit = record { view = v; read = e; kind = k; dims = refl }

  -- whatever is measured against it, both hold dims readings
  pub measured-dims-each : (t : List ℕ) (x : Float) (c : Counts) → distance_of Cos s t ≡ Ok (measured x c) → c ≡ dims_each v.dims.0
  measured-dims-each t x c g = (measured-one-bit one_bit t x g).2

  -- another of the same dims is measured against it, by the count
  pub cosine-counts : (t : List ℕ) (w : View) → read_of Plain t ≡ Ok w → w.kind ≡ Float1Bit → v.dims.0 ≡ w.dims.0
      → distance_of Cos s t ≡ Ok (measured (bit_cosine (bits_apart v.dims.0 s t)) (dims_each v.dims.0))
  unfolding value_of cosine_of one_bit
  cosine-counts t w g l same =
      let other : OneBit d t = record { view = w; read = g; kind = l; dims = sym same } in
      alike-measured Cos s t _ _
      (record { first = v; second = w; first_read = e; second_read = g; kind = k ∙ sym l; dims = same; value = rw k; counted = dims-each one_bit other })

  -- the f64 that is answered is the count
  pub count-exact : (t : List ℕ) (x : Float) → distance_of Cos s t ≡ Ok (measured x (dims_each v.dims.0)) → HasValue x false (bits_apart v.dims.0 s t) 1
  count-exact t x e = exact-count one_bit t x e

  pub cosine-zero : (t : List ℕ) (x : Float) → AreBytes s → AreBytes t → distance_of Cos s t ≡ Ok (measured x (dims_each v.dims.0))
      → (is_zero x ≡ true → body_of s ≡ body_of t) × (body_of s ≡ body_of t → is_zero x ≡ true)
  unfolding bit_cosine eq
  cosine-zero t x B C g =
      let (other, count, _) = measured-one-bit one_bit t x g in (
        λ z. differing-none (body_of s) (body_of t) (body_bytes one_bit B) (body_bytes other C) (ceil d 8) (body-long one_bit) (body-long other)
            (zero-whole x (bits_apart d s t) z (count-exact t x g)),
        λ z. rw (← count, z, differing-self (body_of t) (whole_bits d), of_zero binary64),
      )

  -- by way of t: the sum of two f64s is exact, and so no less than the third
  pub detour-exact : (t u : List ℕ) (x y : Float) → distance_of Cos s t ≡ Ok (measured x (dims_each v.dims.0)) → distance_of Cos t u ≡ Ok (measured y (dims_each v.dims.0))
      → HasValue (add binary64 x y) false (bits_apart v.dims.0 s t + bits_apart v.dims.0 t u) 1
  unfolding bit_cosine
  detour-exact t u x y p q =
      let (other, first, _) = measured-one-bit one_bit t x p in
      let (_, second, _) = measured-one-bit other u y q in
      let a = few-apart one_bit t in
      let b = few-apart other u in
      rw (← first, ← second, add-int binary64 (pos (bits_apart d s t)) (pos (bits_apart d t u)) (omega arith) (omega arith)) (of-whole binary64 _ (omega arith))

  pub cosine-triangle : (t u : List ℕ) (x y z : Float) → distance_of Cos s t ≡ Ok (measured x (dims_each v.dims.0)) → distance_of Cos t u ≡ Ok (measured y (dims_each v.dims.0)) → distance_of Cos s u ≡ Ok (measured z (dims_each v.dims.0))
      → T (le z (add binary64 x y))
  cosine-triangle t u x y z p q r =
      le_of_values z (add binary64 x y) (bits_apart d s u) 1 (bits_apart d s t + bits_apart d t u) 1 (zero-lt-suc 0) (zero-lt-suc 0)
      (count-exact u z r) (detour-exact t u x y p q) (omega (arith, counts-triangle d s t u))
