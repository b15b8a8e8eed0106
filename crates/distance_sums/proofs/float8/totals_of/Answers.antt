-- The loop adds one pair a turn, for which each sum has room.
use mathlib.Core.Path.{◌≡◌, sym}
use native.Mathlib.Omega.{arith}
use Rattle.distance_sums.proofs.Totalled.{totalled_none, totalled_more}
use Rattle.distance_sums.proofs.float8.totals_of.Goals as goal

pub loop-i-init : goal.loop-i-init
loop-i-init c =
    (omega arith, totalled_none (λ k. (c.type_inv.a k).fits) (λ k. (c.type_inv.b k).fits) c.new-t.ensures)

pub overflow_cast-p : goal.overflow_cast-p
overflow_cast-p c = omega (arith, c.type_inv.a c.loop-i.i)

pub overflow_cast-q : goal.overflow_cast-q
overflow_cast-q c = omega (arith, c.type_inv.b c.loop-i.i)

pub loop-i-preserved : goal.loop-i-preserved
loop-i-preserved c = (omega arith, totalled_more c.loop-i.invariant.1)

pub returns : goal.returns
returns c =
    let all : c.loop-i.i ≡ c.args.dims = omega arith in
    rw (sym all) c.loop-i.invariant.1.sums
