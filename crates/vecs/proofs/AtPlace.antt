-- What is answered at a place: each case by its own condition, what a vector that is shown tells of its file, and bvecs by its buffer's room.
use mathlib.Core.Path.{◌≡◌, refl, ◌∙◌}
use mathlib.Core.Logic.{◌⊎◌}
use mathlib.Core.Bool.{cond}
use Rattle.std.proofs.Common.{Option, None, Some, Result, Ok, Err}
use mathlib.Core.List.{List}
use Prim.Native.Nat.{ℕ, ◌+◌, ◌-◌, ◌*◌, ◌<◌, ◌≤◌}
use native.Mathlib.Omega.{arith}
use Rattle.std.proofs.lemmas.Bool.Decides.{nat_tests}
use lib.Dec.{ltb}
use lib.ListN.{length, take, drop, length-drop}
use lib.Seq.{length-take-le}
use borrow.Author.Tests.{le-ltb}
use Rattle.promises.specs.Onto.{onto}
use Rattle.little_endian.specs.Bytes.{u32_at}
use Rattle.vector_types.specs.Layout.{max_dims}
use Rattle.vecs.specs.Vecs.{bytes_left, vector_of, vecs_refusals, vecs_answer_by, vector_at, elements_at, bvecs_of, byte_floats, floats_after, vecs_leaving, bvecs_outcome}
use Rattle.vecs.specs.declared.Found.{Found}
use Rattle.vector_types.specs.declared.Refusal.{Refusal}
use Rattle.vector_types.specs.declared.Refusal.TheVariants.{DimsOverLimit, OutputTooShort, FileEndsInside}

-- ---- each case
module _ (w : ℕ) (file : List ℕ) (place : ℕ) where
  pub at-end : length file ≤ place → vector_at w file place ≡ Ok None
  unfolding vector_at vecs_answer_by
  at-end h = grind (arith, nat_tests)

  pub file-cut : place < length file → (length file < place + 4) ⊎ ((u32_at file place ≤ max_dims) × (length file < place + 4 + w * u32_at file place))
      → vector_at w file place ≡ Err (FileEndsInside place)
  unfolding vector_at vecs_answer_by vecs_refusals
  file-cut inside short = grind (arith, nat_tests)

  pub count-over : place < length file → 4 ≤ bytes_left file place → max_dims < u32_at file place → vector_at w file place ≡ Err DimsOverLimit
  unfolding vector_at vecs_answer_by vecs_refusals
  count-over inside counted many = grind (arith, nat_tests)

  pub vector-whole : place < length file → 4 ≤ bytes_left file place → u32_at file place ≤ max_dims → w * u32_at file place ≤ bytes_left file place - 4
      → vector_at w file place ≡ Ok (Some (vector_of w place (u32_at file place)))
  unfolding vector_at vecs_answer_by vecs_refusals
  vector-whole inside counted few fits = grind (arith, nat_tests)

-- the end is answered only there
pub end-past : (w : ℕ) (file : List ℕ) (place : ℕ) → vector_at w file place ≡ Ok None → length file ≤ place
unfolding vector_at vecs_answer_by vecs_refusals
end-past w file place e = grind (arith, nat_tests)

-- ---- what a vector tells: it has the count that stands there, which is within the limit, and lies within the file
pub record VectorFacts (w : ℕ) (file : List ℕ) (place : ℕ) (v : Found) : Type 0 where
  pub is : v ≡ vector_of w place (u32_at file place)
  pub few : u32_at file place ≤ max_dims
  pub within : place + 4 + w * u32_at file place ≤ length file

pub vector-facts : (w : ℕ) (file : List ℕ) (place : ℕ) (v : Found) → vector_at w file place ≡ Ok (Some v) → VectorFacts w file place v
unfolding vector_at vecs_answer_by vecs_refusals
vector-facts w file place v e = record { is = grind (arith, nat_tests); few = grind (arith, nat_tests); within = grind (arith, nat_tests) }

module _ (w : ℕ) (file : List ℕ) (place : ℕ) (v : Found) (e : vector_at w file place ≡ Ok (Some v)) where
  facts : VectorFacts w file place v
  facts = vector-facts w file place v e

  -- its elements
  pub elements-are : elements_at w file place ≡ take (w * v.dims.0) (drop v.start file)
  unfolding elements_at
  elements-are = let size : v.next - v.start ≡ w * v.dims.0 = rw facts.is (omega arith) in rw (e, size)

  pub length-elements : length (elements_at w file place) ≡ w * v.dims.0
  length-elements = rw (elements-are, facts.is) (length-take-le (w * u32_at file place) (drop (place + 4) file) (omega (arith, length-drop (place + 4) file, facts.within)))

-- ---- bvecs: the answer at the place, unless the buffer is too short for a vector
abbrev pub with_room : ℕ → Result (Option Found) Refusal → Result (Option Found) Refusal
with_room room (Ok (Some v)) = cond (ltb room (4 * v.dims.0)) (Err (OutputTooShort (4 * v.dims.0))) (Ok (Some v))
with_room room (Ok None) = Ok None
with_room room (Err r) = Err r

pub bvecs-by-room : (file : List ℕ) (place room : ℕ) → bvecs_of file place room ≡ with_room room (vector_at 1 file place)
unfolding bvecs_of vector_at vecs_answer_by vecs_refusals
bvecs-by-room file place room = grind (arith, nat_tests)

module _ (file : List ℕ) (place : ℕ) (out : List ℕ) where
  -- the outcome by the answer at the place
  pub bvecs-outcome : (r : Result (Option Found) Refusal) → vector_at 1 file place ≡ r
      → bvecs_outcome file place out ≡ vecs_leaving (with_room (length out) r) (floats_after (with_room (length out) r) (elements_at 1 file place) out)
  unfolding bvecs_outcome
  bvecs-outcome r e = rw (bvecs-by-room, e)

  pub bvecs-put : (v : Found) → vector_at 1 file place ≡ Ok (Some v) → 4 * v.dims.0 ≤ length out
      → bvecs_outcome file place out ≡ vecs_leaving (Ok (Some v)) (onto (byte_floats (elements_at 1 file place)) out)
  bvecs-put v e h = bvecs-outcome (Ok (Some v)) e ∙ rw (le-ltb _ _ h)

-- ---- what the code that reads a place is proved by
pub within : (w : ℕ) (file : List ℕ) (place : ℕ) (v : Found) → vector_at w file place ≡ Ok (Some v) → v.next ≤ length file
within w file place v e = let t = vector-facts w file place v e in rw t.is t.within

pub ordered : (w : ℕ) (file : List ℕ) (place : ℕ) (v : Found) → vector_at w file place ≡ Ok (Some v) → v.next ≡ v.start + w * v.dims.0
ordered w file place v e = let t = vector-facts w file place v e in rw t.is refl

pub few : (w : ℕ) (file : List ℕ) (place : ℕ) (v : Found) → vector_at w file place ≡ Ok (Some v) → v.dims.0 ≤ max_dims
few w file place v e = let t = vector-facts w file place v e in rw t.is t.few

pub shown : (w : ℕ) (file : List ℕ) (place : ℕ) (v : Found) → vector_at w file place ≡ Ok (Some v) → elements_at w file place ≡ take (v.next - v.start) (drop v.start file)
unfolding elements_at
shown w file place v e = rw e

pub ruleset places = (within, ordered, few, shown, bvecs-by-room, length-elements)
