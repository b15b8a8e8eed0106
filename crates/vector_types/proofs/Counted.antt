-- How many readings a view holds, in any mode: the entries of its blob, or the dims of its row; 65,536 at the most. It may exceed dims (specs/Examples.antt).
use Rattle.std.proofs.Common.{◌≡◌, refl, false, true≢false, List, ℕ, ◌≤◌, arith, Ok}
use Rattle.vector_types.specs.Answers.{readings_of}
use Rattle.vector_types.specs.Layout.{max_blob_length, max_dims, has_byte, entry_count, dims_of}
use Rattle.vector_types.specs.Read.{read_of}
use Rattle.vector_types.specs.declared.VectorType.{VectorType}
use Rattle.vector_types.specs.declared.VectorType.TheVariants.{Float32Sparse}
use Rattle.vector_types.specs.declared.View.{View}
use Rattle.vector_types.specs.declared.Mode.{Mode}
use Rattle.vector_types.proofs.Bodies.{entries-within}
use Rattle.vector_types.proofs.Modes.{shown-plainly}
use Rattle.vector_types.proofs.Views.{ViewFacts, view-facts}

pub readings-are-dims : (k : VectorType) (d m : ℕ) → has_byte 9 k ≡ false → readings_of k d m ≡ d
readings-are-dims Float32Sparse d m h = absurd (true≢false h)
readings-are-dims _ d m h = refl

few-of : (k : VectorType) (d m : ℕ) → d ≤ max_dims → m ≤ max_blob_length → readings_of k d m ≤ max_dims
few-of Float32Sparse d m few short = omega arith
few-of _ d m few short = few

module _ (mode : Mode) (s : List ℕ) (v : View) (e : read_of mode s ≡ Ok v) where
  facts : ViewFacts s v
  facts = view-facts s v (shown-plainly mode s v e)

  pub sparse-readings : v.kind ≡ Float32Sparse → v.readings.0 ≡ entry_count s
  sparse-readings h =
      let counted = rw h at facts.counted in
      omega (arith, counted, (entries-within s v (shown-plainly mode s v e) h).0)

  pub other-readings : has_byte 9 v.kind ≡ false → v.readings.0 ≡ dims_of v.kind s
  other-readings h = rw (facts.counted, readings-are-dims v.kind v.dims.0 v.length h, facts.sized)

  pub few-readings : v.readings.0 ≤ max_dims
  few-readings = rw facts.counted (few-of v.kind v.dims.0 v.length facts.few (omega (arith, facts.within, facts.short)))
