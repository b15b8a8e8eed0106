-- What a conversion of a body answers and leaves, outcome by outcome; and, for callers, what a conversion that is not refused puts.
use mathlib.Core.Path.{◌≡◌, refl, ap, ◌∙◌}
use mathlib.Core.List.{List}
use Rattle.std.proofs.Common.{Result, Ok, Err}
use Prim.Native.Nat.{ℕ, ◌≤◌}
use native.Mathlib.Omega.{arith}
use Rattle.std.proofs.lemmas.Bool.Decides.{nat_tests}
use lib.ListN.{length}
use borrow.Author.Tests.{le-ltb}
use Rattle.promises.specs.Onto.{onto}
use Rattle.vector_types.specs.Answers.{view_of, accepted_as}
use Rattle.vector_types.specs.Read.{read_of}
use Rattle.vector_types.specs.Parts.{body_of}
use Rattle.vector_types.specs.declared.Refusal.{Refusal}
use Rattle.vector_types.specs.declared.View.{View}
use Rattle.vector_types.specs.declared.VectorType.{VectorType}
use Rattle.vector_types.specs.declared.Mode.TheVariants.{Plain}
use Rattle.convert_parts.specs.Result.{result_of, scratch_body}
use Rattle.convert.specs.Convert.{conversion, body_conversion, conversion_of, ConvertOutcome, convert_leaving, convert_outcome}

-- ---- a blob that is read, with room enough
pub conversion-put : (s : List ℕ) (t : VectorType) (v : View) → read_of Plain s ≡ Ok v → (scratch room : ℕ)
    → let dense = scratch_body v.kind t v.dims.0 (body_of s) in let new = result_of v.kind t v.dims.0 (body_of s) in
    length dense ≤ scratch → length new ≤ room → conversion_of s t scratch room ≡ conversion (accepted_as t v.dims.0 (length new)) dense new
unfolding conversion_of
conversion-put s t v e scratch room h l =
    let dense = scratch_body v.kind t v.dims.0 (body_of s) in
    let new = result_of v.kind t v.dims.0 (body_of s) in
    rw (e, le-ltb scratch (length dense) h, le-ltb room (length new) l)

-- ---- an outcome, part by part: the answer, and the output
pub convert-outcome-parts : (s : List ℕ) (t : VectorType) (scratch out : List ℕ) (r : Result View Refusal) (left o : List ℕ) → convert_leaving r left o ≡ convert_outcome s t scratch out
    → let c = conversion_of s t (length scratch) (length out) in (r ≡ c.answer) × (o ≡ onto c.out out)
unfolding convert_outcome
convert-outcome-parts s t scratch out r left o e = (ap (λ (x : ConvertOutcome). x.answer) e, ap (λ (x : ConvertOutcome). x.out) e)

-- ---- where a body was made, the view is that of the new body, and there was room for it
module _ (s : List ℕ) (t : VectorType) (scratch room : ℕ) (w : View) where
  pub converted-view : (v : View) → read_of Plain s ≡ Ok v → (conversion_of s t scratch room).answer ≡ Ok w
      → let new = result_of v.kind t v.dims.0 (body_of s) in ((conversion_of s t scratch room).out ≡ new) × (view_of t v.dims.0 (length new) ≡ w) × (length new ≤ room)
  unfolding conversion_of body_conversion
  converted-view v e answer = (grind (arith, nat_tests), grind (arith, nat_tests), grind (arith, nat_tests))

  pub conversion-fits : (conversion_of s t scratch room).answer ≡ Ok w → (length (conversion_of s t scratch room).out ≡ w.length) × (w.length ≤ room)
  unfolding conversion_of
  conversion-fits answer = by (read_of Plain s) refl
    where
      by : (r : Result View Refusal) → read_of Plain s ≡ r → (length (conversion_of s t scratch room).out ≡ w.length) × (w.length ≤ room)
      by (Ok v) e =
          let (out, view, fits) = converted-view v e answer in
          let size = ap (λ (w : View). w.length) view in
          (ap length out ∙ size, omega arith)
      by (Err r) e = let refused = rw e at answer in absurd cc
