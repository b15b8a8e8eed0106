-- Scratch is long enough, and the output too short.
use Rattle.std.proofs.Common.{◌<◌, ◌≤◌, arith, length, lt-ltb, le-ltb}
use Rattle.convert_parts.specs.Result.{result_of, scratch_body}
use Rattle.convert_parts.proofs.Lengths.{length-scratch}
use Rattle.convert.specs.Convert.{body_conversion}
use Rattle.convert.proofs.convert_body.Goals as goal

pub returns-then-out-need : goal.returns-then-out-need
unfolding body_conversion
returns-then-out-need c =
    let a = c.args in
    let body = a.body.now in
    let enough : length (scratch_body a.kind a.target a.dims body) ≤ length a.scratch.now =
    omega (arith, c.scratch_length-whole.ensures, length-scratch a.dims body a.kind a.target c.requires) in
    let short : length a.out.now < length (result_of a.kind a.target a.dims body) = omega (arith, c.result_length-need.ensures) in
    rw (le-ltb _ _ enough, lt-ltb _ _ short, c.result_length-need.ensures)
