-- Two digits are put for a byte.
use Rattle.std.proofs.Common.{refl, ◌≡◌, ◌∙◌, ◌≤◌, length, length-set, arith, ap, append-nil, drop, ◌++◌, []}
use Rattle.std.proofs.Math.ListN.{drop_of_length-le}
use Rattle.lines.specs.Hex.{hex_of}
use Rattle.lines.proofs.Writing.{write-none, write-next, write-all}
use Rattle.lines.proofs.Pairs.{hex_of-byte, hex_of-end, length-hex_of}
use Rattle.lines.proofs.hex.DigitsSource.make.Goals as goal

pub loop-i-init : goal.loop-i-init
loop-i-init c = write-none _ _

pub bounds-out-at : goal.bounds-out-at
bounds-out-at c = omega (arith, length-hex_of c.args.self.now.bytes.now, c.requires, c.loop-i.auto.out, c.loop-i-test.true)

pub bounds-out-at-in-loop-i : goal.bounds-out-at-in-loop-i
bounds-out-at-in-loop-i c = simp length-set (omega (arith, length-hex_of c.args.self.now.bytes.now, c.requires, c.loop-i.auto.out, c.loop-i-test.true))

pub loop-i-preserved : goal.loop-i-preserved
loop-i-preserved c =
    let l = c.loop-i in
    let a = c.args in
    let next = hex_of-byte a.self.now.bytes.now l.i c.loop-i-test.true in
    let fits : length (hex_of a.self.now.bytes.now) ≤ length a.out.now = omega (arith, c.requires) in
    write-next (write-next l.invariant (rw (c.glyph.ensures, c.glyph-in-loop-i.ensures) next) fits refl) refl fits (omega arith)

pub returns : goal.returns
returns c =
    let l = c.loop-i in
    let s = c.args.self.now.bytes.now in
    let put = (write-all l.invariant (hex_of-end s l.i c.loop-i-test.false)).left in
    let full : drop (length (hex_of s)) c.args.out.now ≡ [] = drop_of_length-le c.args.out.now (omega (arith, c.requires)) in
    put ∙ ap (λ rest. hex_of s ++ rest) full ∙ append-nil (hex_of s)
