-- Laws of `parts_of` by the first place of the byte at which a text is split, as std has it: what stands before it is the first part.
use Rattle.std.proofs.Common.{◌≡◌, refl, sym, Bool, true, false, cond, List, [], ◌∷◌, ℕ, ◌+◌, ◌<◌, ◌≤◌, eqb, ltb, length, take, drop, arith, Some, None}
use Rattle.std.specs.List.{position_or_len, position}
use Rattle.std.proofs.lemmas.Option.{cond_some}
use Rattle.std.proofs.lemmas.List.Splits.{slice_split_none, slice_split_first}
use Rattle.std.proofs.lemmas.List.Sums.{fails_before_first}
use borrow.Author.Tests.{ltb-true, ltb-false}
use Rattle.lines.specs.Parts.{parts_of}

abbrev pub is : ℕ → ℕ → Bool
is b x = eqb x b

-- ---- the first place, as `find` answers it
pub position-some : (p : ℕ → Bool) (s : List ℕ) {i : ℕ} → Some i ≡ position p s → (i ≡ position_or_len p s) × (i < length s)
position-some p s {i} e =
    let (less, same) = cond_some (ltb (position_or_len p s) (length s)) (position_or_len p s) i (sym e) in
    (sym same, omega (arith, same, ltb-true (position_or_len p s) (length s) less))

pub position-none : (p : ℕ → Bool) (s : List ℕ) → None ≡ position p s → length s ≤ position_or_len p s
position-none p s e = by (ltb (position_or_len p s) (length s)) refl e
  where
    by : (t : Bool) → ltb (position_or_len p s) (length s) ≡ t → None ≡ cond t (Some (position_or_len p s)) None → length s ≤ position_or_len p s
    by true f e = absurd cc
    by false f e = ltb-false (position_or_len p s) (length s) f

pub parts-first : (b : ℕ) (s : List ℕ) {i : ℕ} → Some i ≡ position (is b) s → parts_of b s ≡ take i s ∷ parts_of b (drop (i + 1) s)
unfolding parts_of
parts-first b s {i} e =
    let (at, less) = position-some (is b) s e in
    rw at (slice_split_first (is b) s 0 (rw at at less))

pub parts-one : (b : ℕ) (s : List ℕ) → None ≡ position (is b) s → parts_of b s ≡ s ∷ []
unfolding parts_of
parts-one b s e =
    let none = position-none (is b) s e in
    slice_split_none (is b) s (λ k d h. fails_before_first (is b) s k d (omega (arith, none)))
