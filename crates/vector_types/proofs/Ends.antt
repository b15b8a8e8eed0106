-- Where a blob's type byte stands, if it has one, and which kind it names.
use Rattle.std.proofs.Common.{◌≡◌, refl, ap, ◌∙◌, Bool, true, false, true≢false, List, ℕ, ◌+◌, ◌-◌, ◌%◌, ◌≤◌, arith, length, get_or, eq-eqb, ne_eqb, eqb-true, Ok}
use Rattle.std.proofs.lemmas.Bool.{eqb-false}
use Rattle.vector_types.specs.Layout.{has_byte, by_byte, has_even_length, named_kind, length_before_type}
use Rattle.vector_types.specs.Read.{of_kind}
use Rattle.vector_types.specs.declared.VectorType.{VectorType}
use Rattle.vector_types.specs.declared.VectorType.TheVariants.{Float32Dense}

module _ (s : List ℕ) where
  -- an even length: no type byte
  pub even-untyped : length s % 2 ≡ 0 → (named_kind s ≡ Ok Float32Dense) × (length_before_type s ≡ length s)
  unfolding named_kind length_before_type
  even-untyped h = let e = eq-eqb (length s % 2) 0 h in (rw e, rw e)

  -- an odd one: the last byte, after n others
  pub odd_typed : (n : ℕ) → length s ≡ n + 1 → n % 2 ≡ 0 → (named_kind s ≡ by_byte (get_or s n 0)) × (length_before_type s ≡ n)
  unfolding named_kind length_before_type
  odd_typed n long h =
      let e = ne_eqb (length s % 2) 0 (λ z. omega arith) in
      let last : length s - 1 ≡ n = omega arith in
      (rw (e, last), rw (e, last))

  pub odd-last : (length s % 2 ≡ 0 → ⊥) → (named_kind s ≡ by_byte (get_or s (length s - 1) 0)) × (length_before_type s ≡ length s - 1)
  odd-last odd = odd_typed (length s - 1) (omega arith) (omega arith)

  -- by the length alone
  pub before-type : length_before_type s ≡ length s - length s % 2
  before-type = by-evenness (has_even_length s) refl
    where
      by-evenness : (b : Bool) → has_even_length s ≡ b → length_before_type s ≡ length s - length s % 2
      by-evenness true h = let even = eqb-true (length s % 2) 0 h in omega (arith, (even-untyped even).1)
      by-evenness false h = let odd = eqb-false (length s % 2) 0 h in omega (arith, (odd-last odd).1)

  pub before-within : (length_before_type s ≤ length s) × (length s ≤ length_before_type s + 1)
  before-within = omega (arith, before-type)

-- all kinds but Float32Dense have a type byte, after an even number of bytes
pub record Typed (s : List ℕ) : Type 0 where
  pub one_more : length s ≡ length_before_type s + 1
  pub even : length_before_type s % 2 ≡ 0

pub named-typed : (s : List ℕ) (k : VectorType) → named_kind s ≡ Ok k → has_byte 1 k ≡ false → Typed s
unfolding named_kind
named-typed s k e other = by-evenness (has_even_length s) refl
  where
    odd-length : has_even_length s ≡ false → Typed s
    odd-length h =
        let odd = eqb-false (length s % 2) 0 h in
        let size = (odd-last s odd).1 in
        record { one_more = omega arith; even = omega arith }

    by-evenness : (b : Bool) → has_even_length s ≡ b → Typed s
    by-evenness true h = absurd (true≢false (ap (λ n. of_kind n (has_byte 1)) (rw h at e) ∙ other))
    by-evenness false h = odd-length h
