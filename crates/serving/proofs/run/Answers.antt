-- The next text starts with the line that is kept, and its lines are served.
use Rattle.std.proofs.Common.{rules, ◌≡◌, subst, Result, Ok, Err, MatchResult, IfOk, arith, take, drop}
use borrow.Author.Tests.{not-false}
use Rattle.line_stream.specs.Inner.Stream.{kept_of}
use Rattle.line_stream.specs.Inner.Reading.{HoldsText}
use Rattle.line_stream.specs.Inner.Rooms.{most_kept}
use Rattle.line_stream.specs.declared.ending.Stopped.{Stopped}
use Rattle.line_stream.proofs.InputRead.{nothing_read, text-ready, text-served}
use Rattle.serving.proofs.run.Goals as goal
use Rattle.serving.proofs.run.Goals.{In_ok-text}
use Rattle.serving.proofs.run.Given.{Over}

-- what holds of an answer whose error was mapped
unmapped : {T E : Type 0} (D : Type 0) (r : Result T E) {y : T} (P : T → Type 0) {Q : E → Type 0} → MatchResult r (λ x. ◌≡◌ {A = Result T D} (Ok y) (Ok x)) Q → (is : (e : E) → Q e → ⊥) → IfOk r P → P y
unmapped D (Ok x) {y} P e is p = subst P (cc) p
unmapped D (Err e) P q is p = absurd (is e q)

pub loop-text-init : goal.loop-text-init
loop-text-init g c = nothing_read _ _ _ _

read : (g : Over) (c : In_ok-text g) → let l = c.loop-text in
    HoldsText (kept_of (most_kept g.R.Replies.LIMIT) (drop l.at (take l.end l.input))) l.left c.next_text.new.buffer c.in_ok-text.text
read g c = rw c.LIMIT.ensures at (unmapped Stopped c.next_text.result _ c.in_ok-text.ensures.cases (λ e q. q) c.next_text.ensures.read)

pub serve_all-requires : goal.serve_all-requires
serve_all-requires g c =
    let text = read g (goal.at.serve_all-requires g c).In_ok-text in
    let ready = text-ready _ _ c.loop-text.invariant text (omega (arith, text.fits, c.next_text.auto.buffer)) in
    search rules

pub loop-text-preserved : goal.loop-text-preserved
loop-text-preserved g c =
    let served = unmapped Stopped c.serve_all.result _ c.in_ok-served.ensures.cases (λ e q. q) c.serve_all.ensures in
    text-served _ _ c.loop-text.invariant (read g (goal.at.loop-text-preserved g c).In_ok-text) (not-false _ c.if-not-text.false) served
