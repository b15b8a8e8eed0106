-- The test of a kind refuses exactly where the definition's does; the other kinds have none.
use Rattle.std.proofs.Common.{◌≡◌, sym, ◌∙◌, List, ℕ, ◌/◌, arith, eqb-true, None, Ok}
use Rattle.std.proofs.lemmas.Grind.{common_steps}
use Rattle.vector_types.specs.Search.{found_index}
use Rattle.vector_types.specs.Layout.{ceil, entry_count, body_fits}
use Rattle.vector_types.specs.Read.{read_of, is_not_above_previous}
use Rattle.vector_types.specs.declared.View.{View}
use Rattle.vector_types.specs.declared.VectorType.TheVariants.{Float32Sparse, Float1Bit}
use Rattle.vector_types.specs.declared.Mode.TheVariants.{Plain, Strict}
use Rattle.vector_types.proofs.Bodies.{entries-within}
use Rattle.vector_types.proofs.SameKind.{other_kind}
use Rattle.vector_types.proofs.Some.{found-some, found-no}
use Rattle.vector_types.proofs.Views.{view-facts}
use Rattle.vector_types.proofs.Strict.{strict-sparse, strict-bits, strict-other}
use Rattle.vector_types.proofs.strictness.check_strict.Goals as goal

-- what the code takes from the view is what the definitions take from the blob
module _ (s : List ℕ) (v : View) (e : read_of Plain s ≡ Ok v) where
  count-by-length : v.kind ≡ Float32Sparse → entry_count s ≡ v.length / 8
  count-by-length h = omega (arith, (entries-within s v e h).0)

  rising : v.kind ≡ Float32Sparse → found_index (is_not_above_previous s (v.length / 8)) (v.length / 8) ≡ None → Ok v ≡ read_of Strict s
  rising h none =
      let passes = found-no (is_not_above_previous s (entry_count s)) (entry_count s) (rw (← count-by-length h) at none) in
      sym (strict-sparse s v e h ∙ rw passes)

  length-by-dims : v.kind ≡ Float1Bit → v.length ≡ ceil v.dims.0 8
  unfolding body_fits
  length-by-dims h = eqb-true v.length (ceil v.dims.0 8) (rw h at (view-facts s v e).fit)

pub first_not_above_previous-requires : goal.first_not_above_previous-requires
first_not_above_previous-requires c = omega (arith, (view-facts _ _ c.requires).within)

pub returns-in-Some : goal.returns-in-Some
returns-in-Some c =
    let count = count-by-length _ _ c.requires c.in-Float32Sparse.is in
    let law = strict-sparse _ _ c.requires c.in-Float32Sparse.is in
    grind (arith, common_steps, found-some)

pub returns-in_default-first_not_above_previous : goal.returns-in_default-first_not_above_previous
returns-in_default-first_not_above_previous c =
    rising _ _ c.requires c.in-Float32Sparse.is (sym c.in_default-first_not_above_previous.ensures)

pub unused_set-requires : goal.unused_set-requires
unused_set-requires c = omega (arith, length-by-dims _ _ c.requires c.in-Float1Bit.is, (view-facts _ _ c.requires).within)

pub returns-then-unused_set : goal.returns-then-unused_set
returns-then-unused_set c =
    let long = length-by-dims _ _ c.requires c.in-Float1Bit.is in
    let law = strict-bits _ _ c.requires c.in-Float1Bit.is in
    grind (arith, common_steps)

pub returns-else-unused_set : goal.returns-else-unused_set
returns-else-unused_set c =
    let long = length-by-dims _ _ c.requires c.in-Float1Bit.is in
    let law = strict-bits _ _ c.requires c.in-Float1Bit.is in
    grind (arith, common_steps)

pub returns-in_default : goal.returns-in_default
returns-in_default c =
    sym (strict-other _ _ c.requires (other_kind _ Float32Sparse c.in_default.not-Float32Sparse) (other_kind _ Float1Bit c.in_default.not-Float1Bit))
