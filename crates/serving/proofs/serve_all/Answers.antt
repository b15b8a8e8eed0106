-- Each turn serves lines of the rest; where no more are left, all of the text is served.
use Rattle.std.proofs.Common.{rules, refl, ◌+◌}
use borrow.Author.Tests.{not-true, not-false}
use Rattle.line_stream.proofs.ServingAll.{TextServedUpTo, none-served, rest-ready, more-served, none_left, rest-shorter, all-served}
use Rattle.serving.proofs.serve_all.Goals as goal
use Rattle.serving.proofs.serve_all.Goals.{After-serve-served}
use Rattle.serving.proofs.serve_all.Given.{Over}

pub loop-at-init : goal.loop-at-init
loop-at-init g c = none-served _ _ c.requires.text_ready

pub serve-served-requires : goal.serve-served-requires
serve-served-requires g c = let ready = rest-ready c.loop-at.invariant c.requires.text_ready.numbers in search rules

-- more of the text is served
next : (g : Over) (c : After-serve-served g) → let a = c.args in let r = c.serve-served.result in
    TextServedUpTo a.text.now a.held.before (c.loop-at.at + r.at) (record { count = 0; before = r.before })
next g c = more-served c.args.text.now c.loop-at.at c.serve-served.ensures refl c.loop-at.invariant

pub loop-at-preserved : goal.loop-at-preserved
loop-at-preserved g c = next g (goal.at.loop-at-preserved g c).After-serve-served

pub loop-at-smaller : goal.loop-at-smaller
loop-at-smaller g c =
    let within = (next g (goal.at.loop-at-smaller g c).After-serve-served).within in
    rest-shorter c.args.text.now c.loop-at.at c.serve-served.ensures c.requires.room within (not-false _ c.if-not-served.false)

pub returns : goal.returns
returns g c =
    all-served (next g (goal.at.returns g c).After-serve-served) (none_left c.args.text.now c.loop-at.at c.serve-served.ensures (not-true _ c.if-not-served.true))
