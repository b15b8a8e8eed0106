-- The body of a sparse blob is its values and as many indices, and its halves are these.
use Rattle.std.proofs.Common.{◌≡◌, refl, Result, Ok, Err}
use mathlib.Core.List.{List, ◌++◌}
use Prim.Native.Nat.{ℕ, ◌+◌, ◌*◌, ◌≤◌}
use native.Mathlib.Omega.{arith}
use lib.ListN.{length, take, drop, length-append, length-drop}
use lib.Seq.{length-take-le, take-add, take-append_seam, drop-append_seam}
use Rattle.vector_types.specs.Read.{read_of}
use Rattle.vector_types.specs.Parts.{shown_half, values_of, indices_of}
use Rattle.vector_types.specs.declared.Refusal.{Refusal}
use Rattle.vector_types.specs.declared.View.{View}
use Rattle.vector_types.specs.declared.Mode.TheVariants.{Plain}
use Rattle.vector_types.proofs.Views.{half-within}
use Rattle.sparse_view.specs.Halves.{half}

module _ (s : List ℕ) where
  -- how many bytes the values have, and the indices as many
  abbrev h : ℕ
  h = shown_half (read_of Plain s)

  within : (x : Result View Refusal) → read_of Plain s ≡ x → 2 * shown_half x ≤ length s
  within (Ok v) e = half-within s v e
  within (Err r) e = omega arith

  pub both-within : 2 * h ≤ length s
  both-within = within (read_of Plain s) refl

  pub joined : take (2 * h) s ≡ values_of s ++ indices_of s
  unfolding values_of indices_of
  joined = let two : 2 * h ≡ h + h = omega arith in rw two (take-add h h s)

  pub length-values : length (values_of s) ≡ h
  unfolding values_of
  length-values = length-take-le h s (omega (arith, both-within))

  length-indices : length (indices_of s) ≡ h
  unfolding indices_of
  length-indices = length-take-le h (drop h s) (rw length-drop (omega (arith, both-within)))

  pub half_is : half (values_of s ++ indices_of s) ≡ h
  half_is = rw (length-append, length-values, length-indices) (omega arith)

  pub first-is : take (half (values_of s ++ indices_of s)) (values_of s ++ indices_of s) ≡ values_of s
  first-is = rw (half_is, ← length-values) (take-append_seam (values_of s) (indices_of s))

  pub second_is : drop (half (values_of s ++ indices_of s)) (values_of s ++ indices_of s) ≡ indices_of s
  second_is = rw (half_is, ← length-values) (drop-append_seam (values_of s) (indices_of s))

-- what the code is proved by
pub ruleset bodies = (joined, length-values, half_is, first-is, second_is)
