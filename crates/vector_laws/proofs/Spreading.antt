-- The elements of a sparse body spread over a dense one: at each index what its last entry says, or +0.0.
use mathlib.Core.Path.{◌≡◌, refl, ap, ◌∙◌}
use mathlib.Core.Logic.{◌⊎◌, inl, inr}
use Prim.Native.Nat.{ℕ, zero, suc, ◌+◌, ◌*◌, ◌^◌, ◌<◌, ◌≤◌}
use native.Mathlib.Nat.{add-zero, zero-mul, le_refl}
use native.Mathlib.Omega.{arith}
use mathlib.Core.Bool.{Bool, true, false, cond}
use mathlib.Core.List.{List}
use mathlib.Core.Option.{some}
use lib.Dec.{eqb, ltb}
use lib.ListN.{length, drop, replicate, get_or-replicate}
use lib.Ieee.{binary32, of_bits}
use borrow.Author.Tests.{eqb-true, eqb-false, ltb-true, ltb-false}
use Rattle.float_laws.specs.Zero.{plus_zero}
use Rattle.little_endian.specs.Bytes.{number_at, put, f32_at}
use Rattle.little_endian.proofs.Numbers.{number_at-take, number_at-drop}
use Rattle.little_endian.proofs.Put.{number_at-put, number_at-put-else}
use Rattle.vector_types.specs.Layout.{index_at, has_index_outside}
use Rattle.vector_types.specs.declared.VectorType.TheVariants.{Float32Sparse}
use Rattle.bodies.specs.Entries.{stored_count, entries_of, Below}
use Rattle.bodies.specs.Elements.{dense_element}
use Rattle.convert_parts.specs.Spread.{entry_bytes, spread, spread_body}
use Rattle.convert_parts.proofs.Spread.{index_below, length-entry, length-spread}
use Rattle.bodies.specs.Inner.Walk.{lookup}
use Rattle.vector_laws.proofs.Summed.{or_zero, AreElements}

zeros-number : (w n i : ℕ) → i + w ≤ n → number_at w (replicate n 0) i ≡ 0
unfolding number_at
zeros-number zero n i h = refl
zeros-number (suc w) n i h = rw (zeros-number w n i (omega arith), get_or-replicate {A = ℕ} n (i + w) 0 0 (omega arith), zero-mul (256 ^ w))

zeros-at : (d t : ℕ) → t < d → f32_at (replicate (4 * d) 0) (4 * t) ≡ plus_zero
unfolding of_bits
zeros-at d t l = ap (of_bits binary32) (zeros-number 4 (4 * d) (4 * t) (omega arith))

-- four bytes put at the place of the element x: that element is they, another is as before
module _ (l vs : List ℕ) (x : ℕ) (room : 4 * x + 4 ≤ length l) (four_bytes : length vs ≡ 4) where
  put-here : f32_at (put l (4 * x) vs) (4 * x) ≡ f32_at vs 0
  put-here = ap (of_bits binary32) (rw add-zero at (number_at-put l (4 * x) vs (omega arith) 4 0 (omega arith)))

  put-else : (t : ℕ) → (x ≡ t → ⊥) → f32_at (put l (4 * x) vs) (4 * t) ≡ f32_at l (4 * t)
  put-else t h = ap (of_bits binary32) (number_at-put-else l (4 * x) vs (omega arith) 4 (4 * t) (away (ltb x t) refl))
    where
      away : (b : Bool) → ltb x t ≡ b → (4 * t + 4 ≤ 4 * x) ⊎ (4 * x + length vs ≤ 4 * t)
      away true p = inr (omega (arith, ltb-true x t p))
      away false p = inl (omega (arith, ltb-false x t p, h))

module _ (d : ℕ) (body : List ℕ) (inside : has_index_outside Float32Sparse d body ≡ false) where
  pub below : Below (entries_of body) d
  below = index_below binary32 d body inside

  spread_at : (n t : ℕ) → n ≤ stored_count body → t < d → f32_at (spread binary32 d body n) (4 * t) ≡ or_zero (lookup (entries_of body) n t)
  unfolding spread lookup
  spread_at zero t h l = zeros-at d t l
  spread_at (suc n) t h l = go (eqb x t) refl (spread_at n t (omega arith) l)
    where
      x : ℕ
      x = index_at body (stored_count body) n

      now : List ℕ
      now = spread binary32 d body n

      entry : List ℕ
      entry = entry_bytes binary32 body n

      four_bytes : length entry ≡ 4
      four_bytes = length-entry binary32 body n h

      value : f32_at entry 0 ≡ f32_at body (4 * n)
      value = ap (of_bits binary32) (number_at-take 4 4 (drop (4 * n) body) 0 (omega arith) ∙ rw add-zero at (number_at-drop 4 (4 * n) body 0))

      room : 4 * x + 4 ≤ length now
      room = omega (arith, below n h, length-spread binary32 d body inside n (omega arith))

      go : (c : Bool) → eqb x t ≡ c → f32_at now (4 * t) ≡ or_zero (lookup (entries_of body) n t)
          → f32_at (put now (4 * x) entry) (4 * t) ≡ or_zero (cond c (some (f32_at body (4 * n))) (lookup (entries_of body) n t))
      go true e rest = rw (← eqb-true x t e) (put-here now entry x room four_bytes ∙ value)
      go false e rest = put-else now entry x room four_bytes t (eqb-false x t e) ∙ rest

  pub spread-elements : AreElements (entries_of body) (dense_element binary32 (spread_body binary32 d body)) d
  spread-elements t l = spread_at (stored_count body) t (le_refl (stored_count body)) l
