-- Each count is the tally of the bytes before, which a turn takes by eight and then by one.
use Prim.Native.Nat.{◌/◌, min, max}
use mathlib.Core.Path.{◌≡◌}
use native.Mathlib.Omega.{arith}
use lib.ListN.{length}
use Rattle.distance_sums.specs.OneBit.{overlap_of}
use Rattle.distance_sums.proofs.Counts.{counted_none, counted-le, counted-byte, counted-word, and-digits, or_digits}
use Rattle.distance_sums.proofs.bits.overlapping.Goals as goal

pub loop-k-init : goal.loop-k-init
loop-k-init c = (
  omega arith,
  counted_none min _ _ (λ k. (c.type_inv.a k).fits) (λ k. (c.type_inv.b k).fits),
  counted_none max _ _ (λ k. (c.type_inv.a k).fits) (λ k. (c.type_inv.b k).fits),
)

pub overflow_add-both : goal.overflow_add-both
overflow_add-both c =
    let loop = c.loop-k in
    omega (arith, counted-le and-digits (counted-word and-digits loop.k c.u64_at-x.ensures c.u64_at-y.ensures loop.invariant.1))

pub overflow_add-either : goal.overflow_add-either
overflow_add-either c =
    let loop = c.loop-k in
    omega (arith, counted-le or_digits (counted-word or_digits loop.k c.u64_at-x.ensures c.u64_at-y.ensures loop.invariant.2))

pub loop-k-preserved : goal.loop-k-preserved
loop-k-preserved c =
    let loop = c.loop-k in (
      omega arith,
      counted-word and-digits loop.k c.u64_at-x.ensures c.u64_at-y.ensures loop.invariant.1,
      counted-word or_digits loop.k c.u64_at-x.ensures c.u64_at-y.ensures loop.invariant.2,
    )

pub loop-i-init : goal.loop-i-init
loop-i-init c =
    let loop = c.loop-k in
    let all : loop.k ≡ length c.args.a.now / 8 = omega arith in
    (omega arith, rw (← all) loop.invariant.1, rw (← all) loop.invariant.2)

pub overflow_add-both-in-loop-i : goal.overflow_add-both-in-loop-i
overflow_add-both-in-loop-i c =
    let inv = c.loop-i.invariant in
    omega (arith, counted-le and-digits (counted-byte and-digits inv.1))

pub overflow_add-either-in-loop-i : goal.overflow_add-either-in-loop-i
overflow_add-either-in-loop-i c =
    let inv = c.loop-i.invariant in
    omega (arith, counted-le or_digits (counted-byte or_digits inv.2))

pub loop-i-preserved : goal.loop-i-preserved
loop-i-preserved c =
    let inv = c.loop-i.invariant in
    (omega arith, counted-byte and-digits inv.1, counted-byte or_digits inv.2)

pub returns : goal.returns
unfolding overlap_of
returns c =
    let loop = c.loop-i in
    let all : loop.i ≡ length c.args.a.now = omega arith in
    rw (← all, loop.invariant.1.count, loop.invariant.2.count)
