-- Any blob that is read, as a dense one of either width: it reads back, and it is what the converter and the writer make, neither of which refuses
-- where there is room. And two blobs of one kind have an answer related to that of their dense forms where the values are the same.
use mathlib.Core.Path.{◌≡◌, refl, sym, ◌∙◌}
use mathlib.Core.Bool.{cond, ◌&&◌, and-false}
use mathlib.Core.List.{List}
use Prim.Native.Nat.{ℕ, ◌*◌, ◌≤◌}
use native.Mathlib.Omega.{arith}
use lib.ListN.{length, take, drop}
use lib.Seq.{take_at}
use lib.Ieee.{Float, Format, binary32, binary64}
use borrow.Author.Tests.{eq-eqb}
use Rattle.little_endian.specs.Bytes.{width}
use Rattle.vector_types.specs.Answers.{first_given, view_of, accepted_as}
use Rattle.vector_types.specs.Layout.{max_dims, has_byte, has_trailing_count, body_fits}
use Rattle.vector_types.specs.Read.{read_of}
use Rattle.vector_types.specs.Parts.{body_of}
use Rattle.vector_types.specs.declared.Refusal.{Refusal}
use Rattle.vector_types.specs.declared.View.{View}
use Rattle.vector_types.specs.declared.VectorType.{VectorType}
use Rattle.std.specs.Prelude.{None, Result, Ok, Err}
use Rattle.vector_types.specs.declared.Mode.TheVariants.{Plain}
use Rattle.vector_types.proofs.SameKind.{own-byte}
use Rattle.vector_types.proofs.Views.{view-facts}
use Rattle.blob_writer.specs.Write.{blob_of, tail_of, write_refusals, write_of, write_outcome}
use Rattle.blob_writer.proofs.Tails.{length-blob}
use Rattle.blob_writer.proofs.Written.{Writable, clear_whole, unrefused, reads-back, written-blob}
use Rattle.convert_parts.proofs.Lengths.{length-float32, length-float64, length-scratch}
use Rattle.convert.specs.Convert.{convert_outcome}
use Rattle.convert.proofs.Answered.{conversion-put}
use Rattle.convert.proofs.Shown.{shown-fitting}
use Rattle.distance.specs.Values.{value_of}
use Rattle.distance.specs.Answer.{counts_of, pairing_of, distance_of, about_none, measured}
use Rattle.distance.specs.declared.Distance.{Distance}
use Rattle.distance.specs.declared.Measured.{Measured}
use Rattle.distance.specs.declared.refused.Refused.{Refused}
use Rattle.distance.specs.declared.Which.{Which}
use Rattle.vector_laws.specs.DenseForm.{dense_kind, dense_blob_length, dense_form_body, dense_form}
use Rattle.vector_laws.proofs.Measured.{views-related}

-- ---- a dense body of d elements, of either width
length-dense-blob : (f : Format) (d : ℕ) (body : List ℕ) → length body ≡ width f * d → length (blob_of (dense_kind f) d body) ≡ dense_blob_length f d
unfolding tail_of
length-dense-blob binary32 d body e = length-blob (dense_kind binary32) d body ∙ omega arith
length-dense-blob binary64 d body e = length-blob (dense_kind binary64) d body ∙ omega arith

-- the writer does not refuse it: that of 65,536 dims has 262,144 bytes, or 524,289
dense-writable : (f : Format) (d : ℕ) (body : List ℕ) → d ≤ max_dims → length body ≡ width f * d → Writable (dense_kind f) d body
unfolding body_fits
dense-writable binary32 d body few e =
    record { few = few; fit = eq-eqb (length body) (4 * d) e; short = omega (arith, length-dense-blob binary32 d body e); inside = refl; elements = refl }
dense-writable binary64 d body few e =
    record { few = few; fit = eq-eqb (length body) (8 * d) e; short = omega (arith, length-dense-blob binary64 d body e); inside = refl; elements = refl }

-- no conversion to it takes scratch
no-scratch : (f : Format) (k : VectorType) (d : ℕ) → cond (has_byte 9 k && has_trailing_count (dense_kind f)) (4 * d) 0 ≡ 0
no-scratch binary32 k d = rw (and-false (has_byte 9 k))
no-scratch binary64 k d = rw (and-false (has_byte 9 k))

-- ---- the view of the new blob
abbrev pub dense_form_view : Format → List ℕ → View → View
dense_form_view f s v = view_of (dense_kind f) v.dims.0 (length (dense_form_body f s v))

module _ (f : Format) (s : List ℕ) (v : View) (e : read_of Plain s ≡ Ok v) where
  abbrev d : ℕ
  d = v.dims.0

  abbrev new : List ℕ
  new = dense_form_body f s v

  length-new : length new ≡ width f * d
  length-new = by f
    where
      by : (f : Format) → length (dense_form_body f s v) ≡ width f * d
      by binary32 = length-float32 d (body_of s) v.kind (shown-fitting s v e)
      by binary64 = length-float64 d (body_of s) v.kind (shown-fitting s v e)

  unrefusing : first_given (write_refusals (dense_kind f) d new) ≡ None
  unrefusing = unrefused (dense_kind f) d new (dense-writable f d new (view-facts s v e).few length-new)

  pub dense-form-read : (read_of Plain (dense_form f s v) ≡ Ok (dense_form_view f s v)) × (body_of (dense_form f s v) ≡ dense_form_body f s v)
  dense-form-read = reads-back (dense_kind f) d new unrefusing

  -- with so much room the converter leaves that body at the start of its output, and the writer makes that blob of it
  pub dense-form-made : (scratch out blob : List ℕ) → width f * v.dims.0 ≤ length out → dense_blob_length f v.dims.0 ≤ length blob
      → ((convert_outcome s (dense_kind f) scratch out).answer ≡ accepted_as (dense_kind f) v.dims.0 (width f * v.dims.0))
      × (take (width f * v.dims.0) (convert_outcome s (dense_kind f) scratch out).out ≡ dense_form_body f s v)
      × (write_of (dense_kind f) v.dims.0 (dense_form_body f s v) (length blob) ≡ Ok (dense_blob_length f v.dims.0))
      × (take (dense_blob_length f v.dims.0) (write_outcome (dense_kind f) v.dims.0 (dense_form_body f s v) blob).out ≡ dense_form f s v)
  unfolding convert_outcome
  dense-form-made scratch out blob h l =
      let k = dense_kind f in
      let none_needed = length-scratch d (body_of s) v.kind k (shown-fitting s v e) ∙ no-scratch f v.kind d in
      let put = conversion-put s k v e (length scratch) (length out) (omega arith) (omega (arith, length-new)) in
      let goes : write_of k d new (length blob) ≡ Ok (dense_blob_length f d) = sym (clear_whole k d new (length blob) unrefusing (dense_blob_length f d) (sym (length-dense-blob f d new length-new)) l) in (
        rw (put, length-new),
        rw put (take_at new (drop (length new) out) (width f * d) length-new),
        goes,
        (written-blob k d new blob (dense_blob_length f d) goes).2,
      )

-- ---- two blobs of one kind, and their dense forms: over what relates every refusal to itself, and one distance with both counts
pub dense-forms-related : (R : Result Measured (Refused Which) → Result Measured (Refused Which) → Type 0) → ((r : Refusal) → R (Err (about_none r)) (Err (about_none r)))
    → (m : Distance) (f : Format) (s t : List ℕ) (v w : View) → read_of Plain s ≡ Ok v → read_of Plain t ≡ Ok w → v.kind ≡ w.kind
    → ((x : Float) → R (Ok (measured x (counts_of (dense_form_view f s v) (dense_form_view f t w)))) (Ok (measured x (counts_of v w))))
    → (v.dims.0 ≡ w.dims.0 → value_of m (dense_kind f) v.dims.0 (dense_form_body f s v) (dense_form_body f t w) ≡ value_of m v.kind v.dims.0 (body_of s) (body_of t))
    → R (distance_of m (dense_form f s v) (dense_form f t w)) (distance_of m s t)
unfolding distance_of
dense-forms-related R refusals m f s t v w p q kinds measured values =
    let (g, x) = dense-form-read f s v p in
    let (h, y) = dense-form-read f t w q in
    let pairs : pairing_of (dense_form_view f s v) (dense_form_view f t w) ≡ pairing_of v w = rw (kinds, own-byte (dense_kind f), own-byte w.kind) in
    rw (p, q, g, h, x, y)
    (views-related R refusals (value_of m) (value_of m) (dense_form_view f s v) (dense_form_view f t w) v w _ _ _ _ measured pairs (λ shape. values shape.dims))
