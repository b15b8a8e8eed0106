-- The vector is put to the part after the fill.
use Rattle.std.proofs.Common.{sym, ap, ◌∙◌, ◌≡◌, ◌+◌, true, Ok, arith, rules}
use Rattle.vector_types.specs.Layout.{has_byte}
use Rattle.vecs.specs.Append.{vector_length, append_leaving}
use Rattle.vecs.proofs.Appended.{append-fits, put-part}
use Rattle.vecs.proofs.appending.fvecs_append.Goals as goal

pub returns : goal.returns
returns c =
    let a = c.args in
    let v = c.in_ok-vector.vector.view in
    let read = sym c.in_ok-vector.ensures.read in
    let dense : has_byte 1 v.kind ≡ true = search rules in
    let put = put-part a.fill a.out.now _ _ (rw (c.body.ensures.result_value, c.in_ok-vector.ensures.same) at c.put_vector.ensures) in
    ap (append_leaving (Ok (a.fill + vector_length v.dims.0))) put
    ∙ sym (append-fits a.blob.now a.out.now a.fill v read dense (omega (arith, c.saturating_sub.ensures)))
