-- The count is the tally of the bytes before, which a turn takes by eight and then by one.
use Prim.Native.Nat.{◌/◌}
use mathlib.Core.Path.{◌≡◌}
use native.Mathlib.Omega.{arith}
use lib.Bits.{differ}
use lib.ListN.{length}
use Rattle.distance_sums.specs.OneBit.{differing}
use Rattle.distance_sums.proofs.Counts.{counted_none, counted-le, counted-byte, counted-word, xor-digits}
use Rattle.distance_sums.proofs.bits.differing.Goals as goal

pub loop-k-init : goal.loop-k-init
loop-k-init c =
    (omega arith, counted_none differ _ _ (λ k. (c.type_inv.a k).fits) (λ k. (c.type_inv.b k).fits))

pub overflow_add-count : goal.overflow_add-count
overflow_add-count c =
    let loop = c.loop-k in
    omega (arith, counted-le xor-digits (counted-word xor-digits loop.k c.u64_at-x.ensures c.u64_at-y.ensures loop.invariant.1))

pub loop-k-preserved : goal.loop-k-preserved
loop-k-preserved c =
    let loop = c.loop-k in
    (omega arith, counted-word xor-digits loop.k c.u64_at-x.ensures c.u64_at-y.ensures loop.invariant.1)

pub loop-i-init : goal.loop-i-init
loop-i-init c =
    let loop = c.loop-k in
    let all : loop.k ≡ length c.args.a.now / 8 = omega arith in
    (omega arith, rw (← all) loop.invariant.1)

pub overflow_add-count-in-loop-i : goal.overflow_add-count-in-loop-i
overflow_add-count-in-loop-i c =
    let inv = c.loop-i.invariant in
    omega (arith, counted-le xor-digits (counted-byte xor-digits inv.1))

pub loop-i-preserved : goal.loop-i-preserved
loop-i-preserved c =
    let inv = c.loop-i.invariant in
    (omega arith, counted-byte xor-digits inv.1)

pub returns : goal.returns
unfolding differing
returns c =
    let loop = c.loop-i in
    let all : loop.i ≡ length c.args.a.now = omega arith in
    rw (← all) loop.invariant.1.count
