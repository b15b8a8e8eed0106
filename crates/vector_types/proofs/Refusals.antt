-- A number and what goes with it tell the refusal, and by its number alone a refusal names an entry or tells a need: each variant says so.
use Rattle.std.proofs.Common.{◌≡◌, ℕ, ◌-◌, ◌||◌, eqb, refl, sym, ap₂, ◌∙◌, get_or}
use Rattle.vector_types.specs.Answers.{number_of, detail_of}
use Rattle.vector_types.specs.Examples.{all_refusals}
use Rattle.vector_types.specs.Statements.{names_entry, tells_need}
use Rattle.vector_types.specs.declared.Detail.{Detail}
use Rattle.vector_types.specs.declared.Detail.TheVariants.{Nothing, Needs, Starts, Entry}
use Rattle.vector_types.specs.declared.Refusal.{Refusal}
use Rattle.vector_types.specs.declared.Refusal.TheVariants.{LengthOverLimit}

-- what a detail holds
abbrev carried : Detail → ℕ
carried Nothing = 0
carried (Needs need) = need
carried (Starts place) = place
carried (Entry entry) = entry

-- the refusal of a number and a detail
abbrev refusal_of : ℕ → Detail → Refusal
refusal_of n d = get_or (all_refusals (carried d)) (n - 1) LengthOverLimit

-- ---- each fact is one of every variant
refusal-told : (r : Refusal) → refusal_of (number_of r) (detail_of r) ≡ r
refusal-told LengthOverLimit = refl
refusal-told _ = refl

pub number-detail-tell : (q r : Refusal) → number_of q ≡ number_of r → detail_of q ≡ detail_of r → q ≡ r
number-detail-tell q r e d = sym (refusal-told q) ∙ ap₂ refusal_of e d ∙ refusal-told r

pub entry-named-exactly : (r : Refusal) → names_entry (detail_of r) ≡ (eqb (number_of r) 8 || eqb (number_of r) 10)
entry-named-exactly LengthOverLimit = refl
entry-named-exactly _ = refl

pub need-told-exactly : (r : Refusal) → tells_need (detail_of r) ≡ (eqb (number_of r) 15 || eqb (number_of r) 17)
need-told-exactly LengthOverLimit = refl
need-told-exactly _ = refl
