-- Two Float8 blobs of d elements that differ at most in the padding of the body and in the byte before the trailing count t.
use Rattle.std.specs.Prelude.{ℕ, ◌-◌, ◌*◌, ◌<◌, ◌≤◌, ◌≡◌, List, length, get_or}
use Rattle.vector_types.specs.Layout.{ceil, length_before_type}

-- the padding: from d up to the next multiple of 4
abbrev pub IsPadding : ℕ → ℕ → Type 0
IsPadding d i = (d ≤ i) × (i < 4 * ceil d 4)

-- of the n bytes before the type byte t is the last, so the one before it stands at n - 2
pub record AlikeButPadding (d : ℕ) (s s' : List ℕ) : Type 0 where
  pub same_length : length s ≡ length s'
  pub same_bytes : (i : ℕ) → (IsPadding d i → ⊥) → (i ≡ length_before_type s - 2 → ⊥) → get_or s i 0 ≡ get_or s' i 0
