-- The strict mode: of what the plain mode shows it refuses exactly indices that do not rise and unused bits that are set.
use Rattle.std.proofs.Common.{◌≡◌, refl, sym, ap₂, ◌∙◌, Bool, true, false, cond, ◌↔◌, List, ℕ, ◌-◌, ◌*◌, ltb, None, Ok, Err}
use mathlib.Core.Logic.Iff
use Rattle.vector_types.specs.declared.Refusal.TheVariants.{SparseOrder, UnusedBitSet}
use Rattle.vector_types.specs.Answers.{first_given, unless}
use Rattle.vector_types.specs.Search.{first_index, any_index}
use Rattle.vector_types.specs.Layout.{has_byte, entry_count, dims_of, length_of, layout_row}
use Rattle.vector_types.specs.Read.{read_of, own_refusals, is_not_above_previous, unused_set}
use Rattle.vector_types.specs.Statements.{IndicesRise, UnusedZero}
use Rattle.vector_types.specs.declared.VectorType.{VectorType}
use Rattle.vector_types.specs.declared.VectorType.TheVariants.{Float32Sparse, Float1Bit}
use Rattle.vector_types.specs.declared.Refusal.{Refusal}
use Rattle.vector_types.specs.declared.View.{View}
use Rattle.vector_types.specs.declared.Mode.TheVariants.{Plain, Strict}
use Rattle.vector_types.proofs.Given.{unless-cond}
use Rattle.vector_types.proofs.Statements.{none-not-above, none-unused-set}
use Rattle.vector_types.proofs.Modes.{read-by-own}
use Rattle.vector_types.proofs.Views.{view-facts}

accepted-iff : (b : Bool) (r : Refusal) (v : View) → cond b (Err r) (Ok v) ≡ Ok v ↔ b ≡ false
accepted-iff true r v = (λ e. cc, λ e. cc)
accepted-iff false r v = (λ _. refl, λ _. refl)

-- the first entry of a sparse blob that is not above the one before it, or how many there are
abbrev pub first_not_above : List ℕ → ℕ
first_not_above s = first_index (is_not_above_previous s (entry_count s)) (entry_count s)

-- what the strict mode answers where the plain one shows v, by kind
module _ (s : List ℕ) (v : View) (e : read_of Plain s ≡ Ok v) where
  strict-kind : (k : VectorType) → v.kind ≡ k → read_of Strict s ≡ unless (first_given (own_refusals Strict (Ok k) s)) Err (Ok v)
  strict-kind k h = read-by-own Strict s v e ∙ rw ((view-facts s v e).names, h)

  pub strict-sparse : v.kind ≡ Float32Sparse → read_of Strict s ≡ cond (ltb (first_not_above s) (entry_count s)) (Err (SparseOrder (first_not_above s))) (Ok v)
  unfolding layout_row
  strict-sparse h = strict-kind Float32Sparse h ∙ unless-cond (ltb (first_not_above s) (entry_count s)) (SparseOrder (first_not_above s)) None Err (Ok v)

  pub strict-bits : v.kind ≡ Float1Bit
      → read_of Strict s ≡ cond (any_index (unused_set s v.dims.0) (8 * v.length - v.dims.0)) (Err UnusedBitSet) (Ok v)
  unfolding layout_row
  strict-bits h =
      let t = view-facts s v e in
      let sized : dims_of Float1Bit s ≡ v.dims.0 = sym (rw h at t.sized) in
      let long : length_of Float1Bit s ≡ v.length = sym (rw h at t.long) in
      let test : ℕ → ℕ → Bool = λ d m. any_index (unused_set s d) (8 * m - d) in
      strict-kind Float1Bit h
      ∙ unless-cond (test (dims_of Float1Bit s) (length_of Float1Bit s)) UnusedBitSet None Err (Ok v)
      ∙ ap₂ (λ d m. cond (test d m) (Err UnusedBitSet) (Ok v)) sized long

  pub strict-other : has_byte 9 v.kind ≡ false → has_byte 3 v.kind ≡ false → read_of Strict s ≡ Ok v
  unfolding layout_row
  strict-other sparse bits = strict-kind v.kind refl ∙ rw (sparse, bits)

  pub strict-indices-rise : v.kind ≡ Float32Sparse → read_of Strict s ≡ Ok v ↔ IndicesRise s (entry_count s)
  strict-indices-rise h =
      let exactly = Iff.trans (accepted-iff (ltb (first_not_above s) (entry_count s)) (SparseOrder (first_not_above s)) v) (none-not-above s (entry_count s)) in
      rw (strict-sparse h) exactly

  pub strict-unused : v.kind ≡ Float1Bit → read_of Strict s ≡ Ok v ↔ UnusedZero s v.dims.0 v.length
  strict-unused h =
      let b : Bool = any_index (unused_set s v.dims.0) (8 * v.length - v.dims.0) in
      let exactly = Iff.trans (accepted-iff b UnusedBitSet v) (none-unused-set s v.dims.0 v.length) in
      rw (strict-bits h) exactly
