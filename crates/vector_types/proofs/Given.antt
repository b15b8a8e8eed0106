-- The first of several refusals: none is given exactly if every test fails, and one that is given is that of a test that holds.
use Rattle.std.proofs.Common.{◌≡◌, refl, Bool, true, false, cond, ℕ, List, [], ◌∷◌, ◌++◌, Option, None, Some, Result, Ok, Err, subst}
use mathlib.Core.Bool.{and-eq-true_iff}
use Rattle.vector_types.specs.Answers.{Test, test_first, first_given, unless}
use Rattle.vector_types.specs.Search.{first_index, any_index}
use Rattle.vector_types.specs.declared.Refusal.{Refusal}
use Rattle.vector_types.proofs.Bools.{cond-through}

-- every test of a list fails
abbrev pub Passed : List Test → Type 0
Passed [] = Unit {0}
Passed (t ∷ ts) = (t.holds ≡ false) × Passed ts

pub none_passed : (ts : List Test) → first_given ts ≡ None → Passed ts
none_passed [] e = tt
none_passed (t ∷ ts) e = by-test t.holds refl (none_passed ts) e
  where
    by-test : (b : Bool) → t.holds ≡ b → (first_given ts ≡ None → Passed ts) → cond b (Some t.gives) (first_given ts) ≡ None → (t.holds ≡ false) × Passed ts
    by-test true h rest e = absurd cc
    by-test false h rest e = (h, rest e)

pub passed_none : (ts : List Test) → Passed ts → first_given ts ≡ None
passed_none [] p = refl
passed_none (t ∷ ts) (h, p) = rw h (passed_none ts p)

pub unless-accepted : {A : Type 0} (g : Option Refusal) (x : Result A Refusal) (v : A) → unless g Err x ≡ Ok v → (g ≡ None) × (x ≡ Ok v)
unless-accepted None x v e = (refl, e)
unless-accepted (Some r) x v e = absurd cc

-- what every refusal of a list has that can be given, the first that is given has
abbrev pub Each : (Refusal → Type 0) → List Test → Type 0
Each P [] = Unit {0}
Each P (t ∷ ts) = (t.holds ≡ true → P t.gives) × Each P ts

pub given-each : (P : Refusal → Type 0) (ts : List Test) → Each P ts → (r : Refusal) → first_given ts ≡ Some r → P r
given-each P [] each r e = absurd cc
given-each P (t ∷ ts) (holds, each) r e = by-test t.holds refl (given-each P ts each r) e
  where
    by-test : (b : Bool) → t.holds ≡ b → (first_given ts ≡ Some r → P r) → cond b (Some t.gives) (first_given ts) ≡ Some r → P r
    by-test true h rest e = let same : t.gives ≡ r = cc in subst P same (holds h)
    by-test false h rest e = rest e

-- a test that is made of a search
pub each_first : (P : Refusal → Type 0) (r : ℕ → Refusal) (b : Bool) (p : ℕ → Bool) (k : ℕ) → (b ≡ true → any_index p k ≡ true → P (r (first_index p k)))
    → let t = test_first r b p k in t.holds ≡ true → P t.gives
each_first P r b p k found h = let (holds, some) = (and-eq-true_iff b (any_index p k)).0 h in found holds some

-- two lists: the first of the second is given only where the first list gives none
pub first-append : (ts us : List Test) → first_given (ts ++ us) ≡ unless (first_given ts) Some (first_given us)
first-append [] us = refl
first-append (t ∷ ts) us = by-test t.holds (first-append ts us)
  where
    by-test : (b : Bool) → first_given (ts ++ us) ≡ unless (first_given ts) Some (first_given us)
        → cond b (Some t.gives) (first_given (ts ++ us)) ≡ unless (cond b (Some t.gives) (first_given ts)) Some (first_given us)
    by-test true rest = refl
    by-test false rest = rest

pub unless-twice : {A : Type 0} (g h : Option Refusal) (refuse : Refusal → A) (x : A)
    → unless (unless g Some h) refuse x ≡ unless g refuse (unless h refuse x)
unless-twice None h refuse x = refl
unless-twice (Some r) h refuse x = refl

-- a test that comes first
pub unless-cond : {A : Type 0} (b : Bool) (r : Refusal) (g : Option Refusal) (refuse : Refusal → A) (x : A) → unless (cond b (Some r) g) refuse x ≡ cond b (refuse r) (unless g refuse x)
unless-cond b r g refuse x = cond-through (λ (h : Option Refusal). unless h refuse x) b (Some r) g
