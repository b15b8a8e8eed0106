-- The body is twice as many bytes of the blob as its values are.
use Rattle.std.proofs.Common.{ap, length, length-take, arith}
use Rattle.sparse_view.proofs.Bodies.{both-within, length-values}
use Rattle.sparse_view.proofs.SparseView.of.Goals as goal

pub slice_bounds-result-end : goal.slice_bounds-result-end
slice_bounds-result-end c =
    let s = c.args.blob.now in
    simp length-take (omega (arith, ap length c.values-size.ensures.result_value, length-values s, both-within s))
