-- The next piece stands behind what is left of the last; all its vectors are listed.
use Rattle.std.proofs.Common.{rules, ◌≡◌, ◌+◌, ◌<◌, ◌^◌, subst, length, Result, Ok, Err, MatchResult, IfOk, arith, take, drop}
use borrow.Author.Tests.{not-false}
use Rattle.line_stream.specs.Inner.Stream.{kept_of}
use Rattle.line_stream.specs.Inner.Reading.{HoldsPiece}
use Rattle.line_stream.specs.declared.ending.Stopped.{Stopped}
use Rattle.vecs_lines.specs.Inner.Rooms.{longest_vector}
use Rattle.fvecs.proofs.FileRead.{no-file-read, text-counted, piece-listed}
use Rattle.fvecs.proofs.run.Goals as goal
use Rattle.fvecs.proofs.run.Goals.{In_ok-piece}
use Rattle.fvecs.proofs.run.Given.{Over}

-- what holds of an answer whose error was mapped
unmapped : {T E : Type 0} (D : Type 0) (r : Result T E) {y : T} (P : T → Type 0) {Q : E → Type 0} → MatchResult r (λ x. ◌≡◌ {A = Result T D} (Ok y) (Ok x)) Q → (is : (e : E) → Q e → ⊥) → IfOk r P → P y
unmapped D (Ok x) {y} P e is p = subst P (cc) p
unmapped D (Err e) P q is p = absurd (is e q)

pub loop-piece-init : goal.loop-piece-init
loop-piece-init g c = no-file-read _ _

read : (g : Over) (c : In_ok-piece g) → let l = c.loop-piece in HoldsPiece (kept_of longest_vector (drop l.at (take l.end l.input))) l.left c.next_piece.new.buffer c.in_ok-piece.piece
read g c = unmapped Stopped c.next_piece.result _ c.in_ok-piece.ensures.cases (λ e q. q) c.next_piece.ensures.read

-- places and numbers are counted
counted : (g : Over) (c : In_ok-piece g) → let text = take c.in_ok-piece.piece.end c.next_piece.new.buffer in
    (c.loop-piece.place + length text < 2 ^ 64) × (c.loop-piece.before + length text + 1 < 2 ^ 64)
counted g c = let piece = read g c in text-counted c.loop-piece.invariant piece (omega (arith, piece.fits, c.next_piece.auto.buffer, c.loop-piece.auto.input, c.requires.input_len))

pub list_text-requires : goal.list_text-requires
list_text-requires g c = let counted = counted g (goal.at.list_text-requires g c).In_ok-piece in search rules

pub overflow_add-place : goal.overflow_add-place
overflow_add-place g c =
    let counted = counted g (goal.at.overflow_add-place g c).In_ok-piece in
    omega (arith, counted.0, rw c.in-Some.is at c.in_ok-listed.ensures.at_in_bounds)

pub loop-piece-preserved : goal.loop-piece-preserved
loop-piece-preserved g c =
    let piece = read g (goal.at.loop-piece-preserved g c).In_ok-piece in
    piece-listed c.loop-piece.invariant piece (not-false _ c.if-last.false) (rw (c.in-Some.is, c.if-last.false) at c.in_ok-listed.ensures.lists_on)
