-- What a refusal of the writer carries: an entry exactly if its number is 8, the first whose index is not below dims; the blob's length exactly if it is 15.
use Rattle.std.proofs.Common.{◌≡◌, refl, sym, ap, ◌∙◌, Bool, true, false, true≢false, List, [], ◌∷◌, ◌++◌, ℕ, ◌/◌, eqb, length, Option, None, Some, Ok, Err}
use Rattle.vector_types.specs.Answers.{Test, number_of, detail_of, test_room, first_given, unless}
use Rattle.vector_types.specs.Search.{first_index}
use Rattle.vector_types.specs.Layout.{has_byte, is_outside}
use Rattle.vector_types.specs.Statements.{FirstOutside, names_entry, tells_need}
use Rattle.vector_types.specs.declared.VectorType.{VectorType}
use Rattle.vector_types.specs.declared.VectorType.TheVariants.{Float32Sparse}
use Rattle.vector_types.specs.declared.Detail.TheVariants.{Needs}
use Rattle.vector_types.specs.declared.Refusal.{Refusal}
use Rattle.vector_types.specs.declared.Refusal.TheVariants.{IndexNotBelowDims, OutputTooShort}
use Rattle.vector_types.proofs.Given.{Each, each_first, given-each}
use Rattle.vector_types.proofs.SameKind.{same_kind}
use Rattle.vector_types.proofs.Statements.{first-outside-found}
use Rattle.blob_writer.specs.Write.{blob_of, write_refusals, write_of}

module _ (k : VectorType) (d : ℕ) (body : List ℕ) (room : ℕ) where
  abbrev need : ℕ
  need = length (blob_of k d body)

  abbrev tests : List Test
  tests = write_refusals k d body ++ (test_room OutputTooShort room need ∷ [])

  -- by its number a refusal of the writer names an entry or tells a need; what it says then
  record Says (r : Refusal) : Type 0 where
    entry : names_entry (detail_of r) ≡ eqb (number_of r) 8
    told : tells_need (detail_of r) ≡ eqb (number_of r) 15
    outside : (j : ℕ) → r ≡ IndexNotBelowDims j → (k ≡ Float32Sparse) × FirstOutside body (length body / 8) d j
    length : (n : ℕ) → detail_of r ≡ Needs n → n ≡ need

  silent : {r : Refusal} {b : Bool} → names_entry (detail_of r) ≡ false → tells_need (detail_of r) ≡ false
      → eqb (number_of r) 8 ≡ false → eqb (number_of r) 15 ≡ false → b ≡ true → Says r
  silent unnamed untold other another _ = record {
    entry = unnamed ∙ sym other;
    told = untold ∙ sym another;
    outside = λ j e. absurd (true≢false (sym (ap (λ q. names_entry (detail_of q)) e) ∙ unnamed));
    length = λ n e. absurd (true≢false (sym (ap tells_need e) ∙ untold));
  }

  all-say : Each Says tests
  unfolding write_refusals
  all-say =
      let m = length body / 8 in
      let eighth = each_first Says IndexNotBelowDims (has_byte 9 k) (is_outside body m d) m (λ h some. record {
        entry = refl;
        told = refl;
        outside = λ j e. let same : first_index (is_outside body m d) m ≡ j = cc in (same_kind k Float32Sparse h, rw (← same) (first-outside-found body m d some));
        length = λ n e. absurd cc;
      }) in
      let fifteenth : Says (OutputTooShort need) = record { entry = refl; told = refl; outside = λ j e. absurd cc; length = λ n e. cc } in
      (silent refl refl refl refl, (silent refl refl refl refl, (silent refl refl refl refl, (eighth, (silent refl refl refl refl, (λ _. fifteenth, tt))))))

  refusal-given : (r : Refusal) (g : Option Refusal) → unless g Err (Ok need) ≡ Err r → g ≡ Some r
  refusal-given r None e = absurd cc
  refusal-given r (Some q) e = cc

  module _ (r : Refusal) (e : write_of k d body room ≡ Err r) where
    write-says : Says r
    unfolding write_of
    write-says = given-each Says tests all-say r (refusal-given r (first_given tests) e)

    pub write-entry-named-exactly : names_entry (detail_of r) ≡ eqb (number_of r) 8
    write-entry-named-exactly = write-says.entry

    pub write-need-told-exactly : tells_need (detail_of r) ≡ eqb (number_of r) 15
    write-need-told-exactly = write-says.told

    pub write-need-is-length : (n : ℕ) → detail_of r ≡ Needs n → n ≡ need
    write-need-is-length = write-says.length

  pub write-first-outside-named : (j : ℕ) → write_of k d body room ≡ Err (IndexNotBelowDims j) → (k ≡ Float32Sparse) × FirstOutside body (length body / 8) d j
  write-first-outside-named j e = (write-says (IndexNotBelowDims j) e).outside j refl
