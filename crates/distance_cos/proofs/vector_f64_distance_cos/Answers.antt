-- The loop adds one pair a turn.
use mathlib.Core.Path.{◌≡◌, ap, ◌∙◌}
use native.Mathlib.Omega.{arith}
use lib.Ieee.{binary64}
use Rattle.distance_sums.specs.Dense.{dense_cosine}
use Rattle.distance_sums.specs.Values.{cosine_of}
use Rattle.distance_sums.proofs.Sums.{products-none, products-more}
use Rattle.distance_cos.proofs.vector_f64_distance_cos.Goals as goal

pub loop-i-init : goal.loop-i-init
loop-i-init c = (omega arith, c.new-sums.ensures ∙ products-none _ _ _)

pub loop-i-preserved : goal.loop-i-preserved
loop-i-preserved c =
    let l = c.loop-i in
    (omega arith, products-more _ _ l.i _ _ c.f64_at.ensures c.f64_at-in-loop-i.ensures binary64 _ _ l.invariant.1 c.step-sums.ensures)

pub returns : goal.returns
unfolding cosine_of
returns c =
    let l = c.loop-i in
    let all : l.i ≡ c.args.dims = omega arith in
    c.distance.ensures ∙ ap (dense_cosine binary64) (rw all at l.invariant.1)
