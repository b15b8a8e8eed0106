-- No blob ends in a dead outcome of the Rust's checks: where a type byte is looked at, an even number of bytes stands before it, and the data
-- is as long as `vector_type` says.
use Rattle.std.proofs.Common.{◌≡◌, refl, sym, ap, ◌∙◌, Bool, true, false, cond, not, true≢false, List, ℕ, ◌+◌, ◌-◌, ◌*◌, ◌%◌, ◌≤◌, arith, ltb, leb, eqb, length, get_or, take, length-take-le, eq-eqb, le-ltb, ltb-false, is_some}
use Rattle.std.proofs.lemmas.Bool.{eqb-false}
use Rattle.vector_types.specs.Layout.{ceil}
use Rattle.vector_types.specs.Original.{Outcome, one_bit_empty, one_bit_odd, one_bit_trailing, one_bit_full, float8_under_two, float8_odd, float8_under_ten, float8_trailing, one_bit_no_dims, one_bit_length, float8_under_eight, float8_no_dims, float8_length, vector, dead_outcomes, NoneOf, one_bit_type, float8_type, by_type_byte, is_untyped, vector_type, from_data_with_dims, after_type, from_slice}
use Rattle.vector_types.specs.OriginalNumbers.{answer_to}
use Rattle.vector_types.specs.declared.VectorType.TheVariants.{Float32Dense, Float1Bit, Float8}
use Rattle.vector_types.proofs.Bools.{cond-through, cond_same}

-- the rules have no answer to a dead outcome, and one to every other
abbrev is_answered : Outcome → Bool
is_answered o = is_some (answer_to o)

answered-alive : (o : Outcome) → is_answered o ≡ true → NoneOf dead_outcomes o
answered-alive o h = (other one_bit_odd refl, (other float8_odd refl, (other one_bit_length refl, (other float8_under_eight refl, tt))))
  where
    other : (x : Outcome) → is_answered x ≡ false → o ≡ x → ⊥
    other x dead e = true≢false (sym h ∙ ap is_answered e ∙ dead)

-- the checks of kinds 3 and 4 without the dead ones, of n bytes before the type byte, the last of which is t
abbrev live_one_bit : ℕ → ℕ → Outcome
live_one_bit n t = let d = 8 * n - t in
    cond (eqb n 0) one_bit_empty (cond (ltb (8 * n) t) one_bit_trailing (cond (leb n (ceil d 8)) one_bit_full
    (cond (eqb d 0) one_bit_no_dims (vector Float1Bit d (ceil d 8)))))

abbrev live_float8 : ℕ → ℕ → Outcome
live_float8 n t = let d = n - 10 - t in
    cond (ltb n 2) float8_under_two (cond (ltb n 10) float8_under_ten (cond (ltb (n - 10) t) float8_trailing
    (cond (eqb d 0) float8_no_dims (cond (not (eqb (n - 2) (4 * ceil d 4 + 8))) float8_length (vector Float8 d (n - 2))))))

module _ (s : List ℕ) (n : ℕ) (inside : n ≤ length s) (even : n % 2 ≡ 0) (t : ℕ) where
  -- 8 * n - t bits need at most n bytes, so that many are there
  pub one-bit-live : after_type (one_bit_type n t) s ≡ live_one_bit n t
  unfolding one_bit_type from_data_with_dims
  one-bit-live =
      let m = ceil (8 * n - t) 8 in
      let long = length-take-le m s (omega arith) in
      simp (cond-through (λ r. after_type r s), eq-eqb (n % 2) 0 even, long, eq-eqb m m refl)

  -- with 10 bytes or more 8 are data
  pub float8-live : after_type (float8_type n t) s ≡ live_float8 n t
  unfolding float8_type from_data_with_dims
  float8-live = by_ten (ltb n 10) refl
    where
      long : length (take (n - 2) s) ≡ n - 2
      long = length-take-le (n - 2) s (omega arith)

      by_ten : (b : Bool) → ltb n 10 ≡ b → after_type (float8_type n t) s ≡ live_float8 n t
      by_ten true h = simp (cond-through (λ r. after_type r s), eq-eqb (n % 2) 0 even, h)
      by_ten false h =
          let ten = ltb-false n 10 h in
          simp (cond-through (λ r. after_type r s), eq-eqb (n % 2) 0 even, h, long, le-ltb (n - 2) 8 (omega arith))

-- a type byte is looked at only where the length is odd
even-before-type : (s : List ℕ) → is_untyped s ≡ false → (length s - 1) % 2 ≡ 0
even-before-type s h = omega (arith, eqb-false)

-- the other kinds have no dead check
module _ (s : List ℕ) where
  untyped-answered : is_answered (from_data_with_dims Float32Dense (take (length s) s) 0) ≡ true
  unfolding from_data_with_dims
  untyped-answered = simp (cond-through is_answered, cond_same)

  typed-answered : (n : ℕ) → n ≤ length s → n % 2 ≡ 0 → (b t : ℕ) → is_answered (after_type (by_type_byte b n t) s) ≡ true
  unfolding by_type_byte from_data_with_dims
  typed-answered n inside even b t =
      simp (cond-through (λ r. after_type r s), one-bit-live s n inside even t, float8-live s n inside even t, cond-through is_answered, cond_same)

pub dead-outcomes-unreached : (s : List ℕ) → NoneOf dead_outcomes (from_slice s)
unfolding from_slice vector_type
dead-outcomes-unreached s = answered-alive (from_slice s) (by_length (is_untyped s) refl)
  where
    by_length : (b : Bool) → is_untyped s ≡ b → is_answered (from_slice s) ≡ true
    by_length true h = rw h (untyped-answered s)
    by_length false h =
        let n = length s - 1 in
        rw h (typed-answered s n (omega arith) (even-before-type s h) (get_or s n 0) (get_or s (n - 1) 0))
