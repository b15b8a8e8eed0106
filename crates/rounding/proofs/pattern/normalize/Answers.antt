-- `rounding::pattern::normalize` meets its contract. The invariant: a * 2 ^ d is m * 2 ^ e. The exponent decreases, and is not 0 while a is below hid.
use Rattle.std.proofs.Common.{◌≡◌, ℕ, zero, suc, ◌-◌, ◌*◌, ◌^◌, ◌<◌, ◌≤◌, sym, refl, ap, ◌∙◌, le_trans, le_of_eq, lt_of_lt_of_le, lt_irrefl, mul-le-mul_right, zero-lt-suc, mul_assoc, one-mul, mul-one, arith, rules}
use native.Mathlib.Nat.{pow-succ'}
use Rattle.rounding.proofs.pattern.normalize.Goals as goal

-- while a is below h and a * 2 ^ d is at least h, d is not 0
exponent-pos : (a d m e h : ℕ) → a * 2 ^ d ≡ m * 2 ^ e → 0 < m → h ≤ 2 ^ e → a < h → 1 ≤ d
exponent-pos a zero m e h i p l k =
    absurd (lt_irrefl a (lt_of_lt_of_le k (le_trans l (le_trans (le_of_eq (sym (one-mul (2 ^ e)))) (le_trans (mul-le-mul_right (2 ^ e) p) (le_of_eq (sym i ∙ mul-one a)))))))
exponent-pos a (suc d) m e h i p l k = zero-lt-suc d

doubled-same : (a d : ℕ) → 1 ≤ d → a * 2 * 2 ^ (d - 1) ≡ a * 2 ^ d
doubled-same a d h = let e : suc (d - 1) ≡ d = omega arith in mul_assoc a 2 (2 ^ (d - 1)) ∙ ap (λ (x : ℕ). a * x) (sym (pow-succ' 2 (d - 1)) ∙ ap (λ (x : ℕ). 2 ^ x) e)

pub loop-a-init : goal.loop-a-init
loop-a-init c = (refl, search rules, search rules)

pub overflow_sub-d : goal.overflow_sub-d
overflow_sub-d c = let l = c.loop-a in exponent-pos l.a l.d c.args.m c.args.e c.args.hid l.invariant.0 c.requires.m_positive c.requires.e_enough c.loop-a-test.true

pub loop-a-smaller : goal.loop-a-smaller
loop-a-smaller c = let p = overflow_sub-d c in omega arith

pub loop-a-preserved : goal.loop-a-preserved
loop-a-preserved c = let p = overflow_sub-d c in (doubled-same c.loop-a.a c.loop-a.d p ∙ c.loop-a.invariant.0, omega arith, omega arith)

pub returns : goal.returns
returns c = let l = c.loop-a in record { same = l.invariant.0; at_least = omega arith; less_than = l.invariant.1; exponent = l.invariant.2 }
