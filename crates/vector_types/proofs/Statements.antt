-- The tests of the modes against the statements: a test finds nothing exactly if its statement holds of every place, those of 8 and 10 else the first.
use Rattle.std.proofs.Common.{◌≡◌, refl, Bool, true, false, ◌↔◌, List, ℕ, zero, suc, ◌+◌, ◌-◌, ◌*◌, ◌<◌, arith, ltb-true, leb-true, leb-false, ne_eqb}
use mathlib.Core.Bool.{false≢true}
use Rattle.std.proofs.lemmas.Bool.{lt-leb, eqb-false}
use Rattle.vector_types.specs.Search.{first_index, any_index}
use Rattle.vector_types.specs.Layout.{index_at, is_outside, bit_at}
use Rattle.vector_types.specs.Read.{is_not_above_previous, unused_set}
use Rattle.vector_types.specs.Statements.{IndicesBelow, FirstOutside, IndicesRise, FirstNotAbove, UnusedZero}
use Rattle.vector_types.proofs.Some.{first-true, before-first, some-false, false-some}

-- refusal 8
pub none-outside : (s : List ℕ) (k d : ℕ) → any_index (is_outside s k d) k ≡ false ↔ IndicesBelow s k d
none-outside s k d = (
  λ e j l. leb-false d (index_at s k j) (some-false (is_outside s k d) k e j l),
  λ below. false-some (is_outside s k d) k (λ j l. lt-leb d (index_at s k j) (below j l)),
)

pub first-outside-found : (s : List ℕ) (k d : ℕ) → any_index (is_outside s k d) k ≡ true → FirstOutside s k d (first_index (is_outside s k d) k)
first-outside-found s k d e = record {
  entry = ltb-true (first_index (is_outside s k d) k) k e;
  outside = leb-true d (index_at s k (first_index (is_outside s k d) k)) (first-true (is_outside s k d) k e);
  before = λ i l. leb-false d (index_at s k i) (before-first (is_outside s k d) k i l);
}

-- refusal 10
pub none-not-above : (s : List ℕ) (k : ℕ) → any_index (is_not_above_previous s k) k ≡ false ↔ IndicesRise s k
none-not-above s k = (
  λ e j l. leb-false (index_at s k (suc j)) (index_at s k j) (some-false (is_not_above_previous s k) k e (suc j) l),
  λ rise. false-some (is_not_above_previous s k) k (all_above rise),
)
  where
    all_above : IndicesRise s k → (j : ℕ) → j < k → is_not_above_previous s k j ≡ false
    all_above rise zero l = refl
    all_above rise (suc j) l = lt-leb (index_at s k (suc j)) (index_at s k j) (rise j l)

pub first-not-above-found : (s : List ℕ) (k : ℕ) → any_index (is_not_above_previous s k) k ≡ true → FirstNotAbove s k (first_index (is_not_above_previous s k) k)
first-not-above-found s k e =
    let p : ℕ → Bool = is_not_above_previous s k in
    at_place (first_index p k) (ltb-true (first_index p k) k e) (first-true p k e) (before-first p k)
  where
    at_place : (j : ℕ) → j < k → is_not_above_previous s k j ≡ true → ((i : ℕ) → i < j → is_not_above_previous s k i ≡ false) → FirstNotAbove s k j
    at_place zero l holds fails = absurd (false≢true holds)
    at_place (suc j) l holds fails = record {
      entry = l;
      positive = omega arith;
      not_above = let previous : suc j - 1 ≡ j = omega arith in rw previous (leb-true (index_at s k (suc j)) (index_at s k j) holds);
      before = λ i m. leb-false (index_at s k (suc i)) (index_at s k i) (fails (suc i) m);
    }

-- refusal 11
pub none-unused-set : (s : List ℕ) (d m : ℕ) → any_index (unused_set s d) (8 * m - d) ≡ false ↔ UnusedZero s d m
none-unused-set s d m = (
  zero-by-test,
  λ zeros. false-some (unused_set s d) (8 * m - d) (λ i l. ne_eqb (bit_at s (d + i)) 1 (omega (arith, zeros (d + i) (omega arith) (omega arith)))),
)
  where
    zero-by-test : any_index (unused_set s d) (8 * m - d) ≡ false → UnusedZero s d m
    zero-by-test e i l u =
        let place : d + (i - d) ≡ i = omega arith in
        let clear = eqb-false (bit_at s (d + (i - d))) 1 (some-false (unused_set s d) (8 * m - d) e (i - d) (omega arith)) in
        let bit = rw place at clear in
        omega arith
