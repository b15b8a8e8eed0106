-- `rounding::whole::root_digits` meets its contract. The invariant: root and rest are those after i turns, and the last 54 digits of left follow the first i pairs. What the turns make is the root (`turns-whole-root`).
use Rattle.std.proofs.Common.{◌≡◌, ℕ, suc, ◌^◌, ◌≤◌, refl, add-one, arith, pow_mono}
use Rattle.rounding.specs.Inner.Digits.{next_root, next_rest, next_pair, turns}
use Rattle.rounding.proofs.Digits.{turns-whole-root, turns-root-lt, digits-left-next}
use Rattle.rounding.proofs.whole.root_digits.Goals as goal

-- a turn on what i turns have made, with the pair that follows
next-turn : (a i : ℕ) {root rest pair root' rest' : ℕ} → (root' ≡ next_root root rest pair) × (rest' ≡ next_rest root rest pair)
    → root ≡ (turns a i).root → rest ≡ (turns a i).rest → pair ≡ next_pair a i
    → (root' ≡ (turns a (suc i)).root) × (rest' ≡ (turns a (suc i)).rest)
unfolding turns
next-turn a i made p q s = rw (p, q, s) at made

pub loop-i-init : goal.loop-i-init
unfolding turns
loop-i-init c = (omega arith, refl, refl, omega arith)

pub one_digit-r-requires : goal.one_digit-r-requires
one_digit-r-requires c =
    let a = c.args.a in
    let i = c.loop-i.i in
    let few : 2 ^ i ≤ 2 ^ 54 = pow_mono {i = i} {j = 54} (omega arith) in
    let small = (turns-whole-root a i (omega arith)).small in
    let less = turns-root-lt a i (omega arith) in
    record { root_bound = omega arith; rest_bound = omega arith; pair_bound = omega arith }

pub loop-i-preserved : goal.loop-i-preserved
loop-i-preserved c =
    let a = c.args.a in
    let i = c.loop-i.i in
    let I = c.loop-i.invariant in
    let made = next-turn a i c.one_digit-r.ensures I.1 I.2 (omega (arith, I.3)) in
    let left = digits-left-next a i in
    rw (add-one i) (omega arith, made.0, made.1, omega (arith, I.3))

pub returns : goal.returns
returns c =
    let I = c.loop-i.invariant in
    let all : c.loop-i.i ≡ c.args.n = omega arith in
    rw (I.1, I.2, all) (turns-whole-root c.args.a c.args.n (omega arith))
