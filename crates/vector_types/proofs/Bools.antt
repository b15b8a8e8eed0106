-- Laws of truth values that std lacks: a conjunction of three, and choices by tests.
use Rattle.std.proofs.Common.{◌≡◌, refl, Bool, true, false, cond, ◌&&◌, ◌||◌}
use mathlib.Core.Bool.{false≢true, and-eq-true_iff}

pub and-three : (x y z : Bool) → x && y && z ≡ true → (x ≡ true) × (y ≡ true) × (z ≡ true)
and-three true y z e = let (f, g) = (and-eq-true_iff y z).0 e in (refl, f, g)
and-three false y z e = absurd (false≢true e)

-- ---- choices
pub cond-through : {A B : Type 0} (f : A → B) (b : Bool) (x y : A) → f (cond b x y) ≡ cond b (f x) (f y)
cond-through f true x y = refl
cond-through f false x y = refl

pub cond_same : {A : Type 0} (b : Bool) (x : A) → cond b x x ≡ x
cond_same true x = refl
cond_same false x = refl

pub cond-or : {A : Type 0} (a b : Bool) (x y : A) → cond (a || b) x y ≡ cond b x (cond a x y)
cond-or true true x y = refl
cond-or true false x y = refl
cond-or false true x y = refl
cond-or false false x y = refl

-- one of three tests holds that have the same answer
pub one_of_three : {A : Type 0} (a b c : Bool) → (a ≡ false → b ≡ false → c ≡ false → ⊥) → (x y : A) → cond a x (cond b x (cond c x y)) ≡ x
one_of_three true b c h x y = refl
one_of_three false true c h x y = refl
one_of_three false false true h x y = refl
one_of_three false false false h x y = absurd (h refl refl refl)
