-- `rounding::narrowing::narrow_small` meets its contract: the law of a small f32 (`narrow-small`). Below 2 ^ 871 of an f64's smallest values the answer is 0.
use Rattle.std.proofs.Common.{◌≡◌, ℕ, ◌-◌, ◌*◌, ◌/◌, ◌^◌, ◌<◌, sym, ap, ◌∙◌, subst, div-lt_iff_lt-mul, arith, pow_pos, pow_mono}
use lib.Ieee.Nearest.{closest}
use Rattle.rounding.specs.Inner.Parts.{IsNarrowedPattern}
use Rattle.rounding.proofs.Powers.{one_shl}
use Rattle.rounding.proofs.Patterns.{digits_lt}
use Rattle.rounding.proofs.NarrowLaw.{narrow_pattern, narrow_pattern-tiny, narrow_pattern-small, narrow-small}
use Rattle.rounding.proofs.narrowing.narrow_small.Goals as goal
use Rattle.rounding.proofs.narrowing.narrow_small.Goals.{After-decode-x}

digits-few : (c : After-decode-x) → c.decode-x.result.m < 2 ^ 53
digits-few c = subst (λ (x : ℕ). x < 2 ^ 53) (sym c.decode-x.ensures.0) (digits_lt (2 ^ 52) c.args.b (pow_pos 52))

exponent_lt : (c : After-decode-x) → c.decode-x.result.e < 896
exponent_lt c = let q : c.args.b / 2 ^ 52 < 897 = (div-lt_iff_lt-mul (pow_pos 52)).1 c.requires in omega (arith, c.decode-x.ensures.1)

-- the pattern that the law gives for the digits answers
by-pattern : (c : After-decode-x) (r : ℕ) → r ≡ narrow_pattern c.decode-x.result.m c.decode-x.result.e → IsNarrowedPattern c.args.b r
by-pattern c r e =
    let b = c.args.b in
    subst (IsNarrowedPattern b) (sym (e ∙ ap (narrow_pattern c.decode-x.result.m) c.decode-x.ensures.1 ∙ ap (λ (m : ℕ). narrow_pattern m (b / 2 ^ 52 - 1)) c.decode-x.ensures.0)) (narrow-small b c.requires)

pub nearest_quotient-requires : goal.nearest_quotient-requires
nearest_quotient-requires c =
    let k = c.decode-x.result.e in
    rw (one_shl (924 - k) (omega arith)) record { half_positive = pow_pos (924 - k); half_bound = pow_mono {i = 924 - k} {j = 61} (omega arith); q_bound = omega (arith, digits-few (goal.at.nearest_quotient-requires c).After-decode-x) }

pub returns-then-x-lt871 : goal.returns-then-x-lt871
returns-then-x-lt871 c = by-pattern (goal.at.returns-then-x-lt871 c).After-decode-x 0 (narrow_pattern-tiny c.decode-x.result.m c.decode-x.result.e (digits-few (goal.at.returns-then-x-lt871 c).After-decode-x) (omega arith))

pub returns-else-x-lt871 : goal.returns-else-x-lt871
returns-else-x-lt871 c =
    let m = c.decode-x.result.m in
    let k = c.decode-x.result.e in
    by-pattern (goal.at.returns-else-x-lt871 c).After-decode-x c.nearest_quotient.result (c.nearest_quotient.ensures ∙ ap (λ (h : ℕ). closest m (2 * h)) (one_shl (924 - k) (omega arith)) ∙ narrow_pattern-small m k (exponent_lt (goal.at.returns-else-x-lt871 c).After-decode-x))

pub overflow_sub-x : goal.overflow_sub-x
overflow_sub-x c = omega (arith, exponent_lt (goal.at.overflow_sub-x c).After-decode-x)
