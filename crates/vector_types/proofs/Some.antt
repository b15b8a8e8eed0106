-- A search finds the first place where the test holds, and nothing exactly if there is none; tests that agree at every place find the same.
use Rattle.std.proofs.Common.{◌≡◌, ◌≢◌, refl, sym, ap, ◌∙◌, Bool, true, false, cond, true≢false, ℕ, zero, suc, ◌+◌, ◌<◌, ◌≤◌, arith, ltb, ltb-true, lt-ltb, le-ltb, ⊎_elim, eq-or-lt_of_le, Some, None}
use Rattle.std.proofs.lemmas.Bool.{false_from_ne_true}
use Rattle.vector_types.specs.Search.{first_from, first_index, any_index, found_index}

-- the test fails at the n places from i on
abbrev Fails : (ℕ → Bool) → ℕ → ℕ → Type 0
Fails p i n = (j : ℕ) → i ≤ j → j < i + n → p j ≡ false

module _ (p : ℕ → Bool) where
  fails-from : (n i : ℕ) → Fails p i n → first_from p i n ≡ i + n
  unfolding first_from
  fails-from zero i h = omega arith
  fails-from (suc n) i h = rw (h i (omega arith) (omega arith)) (fails-from n (suc i) (λ j l m. h j (omega arith) (omega arith)) ∙ omega arith)

  hit-after : (n i j : ℕ) → i ≤ j → j < i + n → p j ≡ true → first_from p i n ≤ j
  unfolding first_from
  hit-after zero i j l m q = omega arith
  hit-after (suc n) i j l m q = by_first (p i) refl (hit-after n (suc i) j)
    where
      by_first : (b : Bool) → p i ≡ b → (suc i ≤ j → j < suc i + n → p j ≡ true → first_from p (suc i) n ≤ j) → first_from p i (suc n) ≤ j
      by_first true e rest = rw e l
      by_first false e rest =
          let other : i ≢ j = λ same. true≢false (sym q ∙ rw (← same) e) in
          rw e (rest (omega arith) (omega arith) q)

  first-within : (n i : ℕ) → first_from p i n ≤ i + n
  unfolding first_from
  first-within zero i = omega arith
  first-within (suc n) i = by_first (p i) (first-within n (suc i))
    where
      by_first : (b : Bool) → first_from p (suc i) n ≤ suc i + n → cond b i (first_from p (suc i) n) ≤ i + suc n
      by_first true rest = omega arith
      by_first false rest = omega arith

  hit-first : (n i : ℕ) → first_from p i n < i + n → p (first_from p i n) ≡ true
  unfolding first_from
  hit-first zero i h = absurd (omega arith)
  hit-first (suc n) i h = by_first (p i) refl (hit-first n (suc i)) h
    where
      by_first : (b : Bool) → p i ≡ b → (first_from p (suc i) n < suc i + n → p (first_from p (suc i) n) ≡ true)
          → cond b i (first_from p (suc i) n) < i + suc n → p (cond b i (first_from p (suc i) n)) ≡ true
      by_first true e rest less = e
      by_first false e rest less = rest (omega arith)

module _ (p : ℕ → Bool) (n : ℕ) where
  -- of the place that is found
  pub first-true : any_index p n ≡ true → p (first_index p n) ≡ true
  first-true e = hit-first p n 0 (omega (arith, ltb-true (first_index p n) n e))

  pub before-first : (j : ℕ) → j < first_index p n → p j ≡ false
  before-first j less = false_from_ne_true (p j) (λ q. omega (arith, hit-after p n 0 j (omega arith) (omega (arith, first-within p n 0)) q))

  pub true-some : (j : ℕ) → j < n → p j ≡ true → any_index p n ≡ true
  true-some j m q = lt-ltb (first_index p n) n (omega (arith, hit-after p n 0 j (omega arith) (omega arith) q))

  pub some-false : any_index p n ≡ false → (j : ℕ) → j < n → p j ≡ false
  some-false e j m = false_from_ne_true (p j) (λ q. true≢false (sym (true-some j m q) ∙ e))

  pub false-some : ((j : ℕ) → j < n → p j ≡ false) → any_index p n ≡ false
  false-some h = le-ltb (first_index p n) n (omega (arith, fails-from p n 0 (λ j l m. h j (omega arith))))

  -- a search that stops at a hit after misses alone, and one that comes to the end
  pub found_first : (j : ℕ) → j < n → p j ≡ true → ((i : ℕ) → i < j → p i ≡ false) → Some j ≡ found_index p n
  found_first j less hit misses =
      let upto : first_index p n ≤ j = hit-after p n 0 j (omega arith) (omega arith) hit in
      let here : first_index p n ≡ j = ⊎_elim (λ e. e) (λ l. absurd (true≢false (sym (hit-first p n 0 (omega arith)) ∙ misses (first_index p n) l))) (eq-or-lt_of_le upto) in
      rw (true-some j less hit, here)

  pub found_none : ((j : ℕ) → j < n → p j ≡ false) → None ≡ found_index p n
  found_none misses = rw (false-some misses)

  -- what is found is the first place, and where nothing is found there is none
  pub found-some : (j : ℕ) → found_index p n ≡ Some j → (any_index p n ≡ true) × (first_index p n ≡ j)
  found-some j e = by-any (any_index p n) refl e
    where
      by-any : (b : Bool) → any_index p n ≡ b → cond b (Some (first_index p n)) None ≡ Some j → (any_index p n ≡ true) × (first_index p n ≡ j)
      by-any true h found = (h, cc)
      by-any false h found = absurd cc

  pub found-no : found_index p n ≡ None → any_index p n ≡ false
  found-no e = by-any (any_index p n) refl e
    where
      by-any : (b : Bool) → any_index p n ≡ b → cond b (Some (first_index p n)) None ≡ None → any_index p n ≡ false
      by-any true h found = absurd cc
      by-any false h found = h

first_from-same : (p q : ℕ → Bool) (i n : ℕ) → ((j : ℕ) → i ≤ j → j < i + n → p j ≡ q j) → first_from p i n ≡ first_from q i n
unfolding first_from
first_from-same p q i zero h = refl
first_from-same p q i (suc n) h =
    let rest = first_from-same p q (suc i) n (λ j l m. h j (omega arith) (omega arith)) in
    rw (h i (omega arith) (omega arith), rest)

module _ (p q : ℕ → Bool) (n : ℕ) (h : (j : ℕ) → j < n → p j ≡ q j) where
  pub first-same : first_index p n ≡ first_index q n
  first-same = first_from-same p q 0 n (λ j l m. h j (omega arith))

  pub some_same : any_index p n ≡ any_index q n
  some_same = ap (λ (i : ℕ). ltb i n) first-same

  pub found_same : found_index p n ≡ found_index q n
  found_same = rw (some_same, first-same)
