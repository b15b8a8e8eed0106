-- The dot of two 1-bit blobs without an unused bit set is that of their dense forms, of either width, counts included: the forms read back, and on
-- bodies it is so. What the strict mode accepts has no unused bit set.
use mathlib.Core.Path.{◌≡◌, refl, sym, ap, ap₂, ◌∙◌}
use mathlib.Core.List.{List}
use mathlib.Core.Option.{some}
use Prim.Native.Nat.{ℕ, ◌*◌, ◌/◌, ◌≤◌, ◌<◌}
use native.Mathlib.Omega.{arith}
use lib.Seq.{get_or-take}
use lib.Ieee.{Format, binary32, binary64}
use Rattle.vector_types.specs.Answers.{readings, readings_of}
use Rattle.vector_types.specs.Layout.{bit_at}
use Rattle.vector_types.specs.Read.{read_of}
use Rattle.vector_types.specs.Parts.{body_of}
use Rattle.vector_types.specs.declared.View.{View}
use Rattle.vector_types.specs.declared.VectorType.TheVariants.{Float1Bit}
use Rattle.std.specs.Prelude.{Ok}
use Rattle.vector_types.specs.declared.Mode.TheVariants.{Plain, Strict}
use Rattle.vector_types.proofs.Views.{view-facts}
use Rattle.vector_types.proofs.Bodies.{body_is}
use Rattle.vector_types.proofs.Modes.{shown-plainly}
use Rattle.vector_types.proofs.Strict.{strict-unused}
use Rattle.bodies.proofs.Lengths.{one-bit-length}
use Rattle.distance_sums.specs.OneBit.{whole_bits}
use Rattle.distance.specs.Values.{value_of}
use Rattle.distance.specs.Answer.{counts_of, distance_of, measured}
use Rattle.distance.specs.declared.Distance.TheVariants.{Dot}
use Rattle.vector_laws.specs.DenseForm.{dense_kind, dense_form_body, dense_form}
use Rattle.vector_laws.specs.RealDot.{BothUnusedZero}
use Rattle.vector_laws.proofs.OneBitLaws.{one-bit-readings}
use Rattle.vector_laws.proofs.DenseFormMade.{dense_form_view, dense-forms-related}
use Rattle.vector_laws.proofs.RealDotSums.{dot-real-bodies}

-- a dense vector holds dims readings
dense-readings : (f : Format) (d m : ℕ) → readings_of (dense_kind f) d m ≡ d
dense-readings binary32 d m = refl
dense-readings binary64 d m = refl

-- ---- a 1-bit blob that is read
module _ (s : List ℕ) (v : View) (e : read_of Plain s ≡ Ok v) (k : v.kind ≡ Float1Bit) where
  body-bit : (i : ℕ) → i < 8 * v.length → bit_at (body_of s) i ≡ bit_at s i
  body-bit i h = rw (body_is s v e, get_or-take v.length s (i / 8) 0 (omega arith))

  whole-bits : whole_bits v.dims.0 ≡ 8 * v.length
  whole-bits = ap (λ (m : ℕ). 8 * m) (sym (one-bit-length v.dims.0 v.length k (view-facts s v e).fit))

  -- it holds as many readings as its dense form
  same-readings : (f : Format) → (dense_form_view f s v).readings ≡ v.readings
  same-readings f = ap readings (dense-readings f v.dims.0 _) ∙ sym (one-bit-readings s v e k)

-- ---- two such blobs
pub dot-real : (f : Format) (s t : List ℕ) (v w : View) → read_of Plain s ≡ Ok v → read_of Plain t ≡ Ok w → v.kind ≡ Float1Bit → w.kind ≡ Float1Bit
    → BothUnusedZero s t v w → distance_of Dot (dense_form f s v) (dense_form f t w) ≡ distance_of Dot s t
unfolding value_of
dot-real f s t v w p q kv kw (zs, zt) = dense-forms-related ◌≡◌ (λ r. refl) Dot f s t v w p q (kv ∙ sym kw) (λ x. ap (λ c. Ok (measured x c)) counted) values
  where
    counted : counts_of (dense_form_view f s v) (dense_form_view f t w) ≡ counts_of v w
    counted = ap₂ (λ m n. record { first = m; second = n }) (same-readings s v p kv f) (same-readings t w q kw f)

    agree : v.dims.0 ≡ w.dims.0 → (i : ℕ) → v.dims.0 ≤ i → i < whole_bits v.dims.0 → bit_at (body_of s) i ≡ bit_at (body_of t) i
    agree same i h l =
        let first = whole-bits s v p kv in
        let second = whole-bits t w q kw in
        body-bit s v p kv i (omega arith) ∙ zs i h (omega arith) ∙ sym (body-bit t w q kw i (omega arith) ∙ zt i (omega arith) (omega arith))

    values : v.dims.0 ≡ w.dims.0
        → value_of Dot (dense_kind f) v.dims.0 (dense_form_body f s v) (dense_form_body f t w) ≡ value_of Dot v.kind v.dims.0 (body_of s) (body_of t)
    values same = rw (← same, kv, kw) (ap some (dot-real-bodies f v.dims.0 (body_of s) (body_of t) (view-facts s v p).few (agree same)))

-- what the strict mode accepts meets the premise
pub strict-dot-real : (f : Format) (s t : List ℕ) (v w : View) → read_of Strict s ≡ Ok v → read_of Strict t ≡ Ok w → v.kind ≡ Float1Bit → w.kind ≡ Float1Bit
    → distance_of Dot (dense_form f s v) (dense_form f t w) ≡ distance_of Dot s t
strict-dot-real f s t v w p q kv kw =
    let a = shown-plainly Strict s v p in
    let b = shown-plainly Strict t w q in
    dot-real f s t v w a b kv kw ((strict-unused s v a kv).0 p, (strict-unused t w b kw).0 q)
