-- The unused bits of a 1-bit body: one of them is set exactly if the last byte, shifted by the used ones, is not 0.
use Rattle.std.proofs.Common.{◌≡◌, refl, sym, ◌∙◌, Bool, true, false, not, List, ℕ, ◌+◌, ◌-◌, ◌*◌, ◌/◌, ◌%◌, ◌^◌, ◌<◌, ◌≤◌, arith, eqb, eq-eqb, eqb-true, get_or, shr_lt, shr-shr, w8, pow_mono, lt_of_not-le}
use Rattle.std.specs.Int.{bit_at, trailing_zeros}
use Rattle.std.proofs.lemmas.Nat.Bits.{bit_at-zero, bit_at_above, bit_at-trailing_zeros}
use Rattle.std.proofs.lemmas.Bool.{eqb-false}
use Rattle.vector_types.specs.Search.{first_from, any_index}
use Rattle.vector_types.specs.Layout.{ceil}
use Rattle.vector_types.specs.Read.{unused_set}
use Rattle.vector_types.proofs.Some.{true-some, false-some}

-- a search over the bits of a number of n bits
module _ (p : ℕ → Bool) (x n : ℕ) (bits : (j : ℕ) → j < n → p j ≡ eqb (bit_at x j) 1) (few : n ≤ 8) (low : x < 2 ^ n) where
  any-bit : any_index p n ≡ not (eqb x 0)
  any-bit = by-zero (eqb x 0) refl
    where
      by-zero : (b : Bool) → eqb x 0 ≡ b → any_index p n ≡ not b
      by-zero true e =
          let zero = eqb-true x 0 e in
          false-some p n (λ j l. bits j l ∙ rw (zero, bit_at-zero j))
      by-zero false e =
          let byte : x < 2 ^ 8 = omega (arith, pow_mono few) in
          let some = eqb-false x 0 e in
          let set = (bit_at-trailing_zeros w8 x (omega arith) byte).1 in
          let within : trailing_zeros w8 x < n = lt_of_not-le (λ above. omega (arith, set, bit_at_above x n (trailing_zeros w8 x) low above)) in
          true-some p n (trailing_zeros w8 x) within (bits (trailing_zeros w8 x) within ∙ eq-eqb (bit_at x (trailing_zeros w8 x)) 1 set)

-- the byte in which bit d stands, and the bits of it from d on
module _ (s : List ℕ) (d : ℕ) where
  abbrev last : ℕ
  last = get_or s (d / 8) 0

  bit_past : (j : ℕ) → j < 8 - d % 8 → unused_set s d j ≡ eqb (bit_at (last / 2 ^ (d % 8)) j) 1
  bit_past j h =
      let place : (d + j) / 8 ≡ d / 8 = omega arith in
      let bit : (d + j) % 8 ≡ d % 8 + j = omega arith in
      rw (place, bit, shr-shr)

  pub none-unused : d % 8 ≡ 0 → false ≡ any_index (unused_set s d) (8 * ceil d 8 - d)
  unfolding first_from
  none-unused e = let z : 8 * ceil d 8 - d ≡ 0 = omega arith in rw z

  pub some-unused : last < 256 → (d % 8 ≡ 0 → ⊥) → not (eqb (last / 2 ^ (d % 8)) 0) ≡ any_index (unused_set s d) (8 * ceil d 8 - d)
  some-unused h u =
      let n : 8 * ceil d 8 - d ≡ 8 - d % 8 = omega arith in
      let all : 8 - d % 8 + d % 8 ≡ 8 = omega arith in
      let low : last / 2 ^ (d % 8) < 2 ^ (8 - d % 8) = shr_lt (8 - d % 8) (d % 8) (rw all h) in
      rw n (sym (any-bit (unused_set s d) (last / 2 ^ (d % 8)) (8 - d % 8) bit_past (omega arith) low))
