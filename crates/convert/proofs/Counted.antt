-- How many readings a conversion tells: those of the new vector. A dense one, a 1-bit one and a Float8 one have dims; the same kind keeps the view whole.
use mathlib.Core.Path.{◌≡◌, refl, sym, ap, ◌∙◌}
use mathlib.Core.Bool.{false}
use mathlib.Core.List.{List}
use Rattle.std.proofs.Common.{Ok}
use Prim.Native.Nat.{ℕ, ◌/◌}
use lib.ListN.{length}
use Rattle.vector_types.specs.Layout.{has_byte}
use Rattle.vector_types.specs.Read.{read_of}
use Rattle.vector_types.specs.Parts.{body_of}
use Rattle.vector_types.specs.declared.VectorType.{VectorType}
use Rattle.vector_types.specs.declared.VectorType.TheVariants.{Float32Dense, Float64Dense, Float32Sparse, Float1Bit, Float8}
use Rattle.vector_types.specs.declared.View.{View}
use Rattle.vector_types.specs.declared.Mode.TheVariants.{Plain}
use Rattle.vector_types.proofs.Bodies.{length-body}
use Rattle.vector_types.proofs.Counted.{readings-are-dims}
use Rattle.vector_types.proofs.Views.{view_made}
use Rattle.convert_parts.specs.Dense.{singles, doubles}
use Rattle.convert_parts.specs.Result.{result_of}
use Rattle.convert.specs.Convert.{conversion_of}
use Rattle.convert.proofs.Answered.{converted-view}

same_body : (k : VectorType) (d : ℕ) (body : List ℕ) → result_of k k d body ≡ body
unfolding result_of singles doubles
same_body Float32Dense d body = refl
same_body Float64Dense d body = refl
same_body Float32Sparse d body = refl
same_body Float1Bit d body = refl
same_body Float8 d body = refl

module _ (s : List ℕ) (v : View) (e : read_of Plain s ≡ Ok v) (scratch room : ℕ) (w : View) where
  abbrev count : View → ℕ
  count u = u.readings.0

  -- to sparse: the entries that are stored, so what is dropped does not count
  pub sparse-converted : (conversion_of s Float32Sparse scratch room).answer ≡ Ok w → w.readings.0 ≡ length (conversion_of s Float32Sparse scratch room).out / 8
  sparse-converted answer =
      let (out, view, _) = converted-view s Float32Sparse scratch room w v e answer in
      sym (ap count view) ∙ rw out

  pub other-converted : (t : VectorType) → has_byte 9 t ≡ false → (conversion_of s t scratch room).answer ≡ Ok w → w.readings.0 ≡ v.dims.0
  other-converted t h answer =
      let (_, view, _) = converted-view s t scratch room w v e answer in
      sym (ap count view) ∙ readings-are-dims t v.dims.0 (length (result_of v.kind t v.dims.0 (body_of s))) h

  pub same-kind-converted : (conversion_of s v.kind scratch room).answer ≡ Ok w → w ≡ v
  same-kind-converted answer =
      let (_, view, _) = converted-view s v.kind scratch room w v e answer in
      sym view ∙ rw (same_body v.kind v.dims.0 (body_of s), length-body s v e) (view_made s v e)
