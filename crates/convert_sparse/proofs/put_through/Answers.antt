-- The dense body is written to scratch, and the new one made of it.
use mathlib.Core.Path.{◌≡◌, refl}
use Prim.Native.Nat.{◌*◌}
use native.Mathlib.Omega.{arith}
use lib.ListN.{take, length-take}
use lib.Ieee.{binary32}
use Rattle.bodies.proofs.Lengths.{sparse-length}
use Rattle.convert_parts.specs.Spread.{spread_body}
use Rattle.convert_sparse.proofs.Steps.{dense-fitting, dense-front}
use Rattle.convert_sparse.proofs.put_through.Goals as goal
use Rattle.convert_sparse.proofs.put_through.Goals.{After-put_singles}

pub put_singles-requires : goal.put_singles-requires
put_singles-requires c =
    record { dims_le_max_dims = c.requires.fitting.limited; body_len = sparse-length c.args.dims _ refl c.requires.fitting.fit; body_value = c.requires.fitting.inside; dims_in_bounds = c.requires.dims_in_bounds }

pub slice_bounds-put_result-end-2 : goal.slice_bounds-put_result-end-2
slice_bounds-put_result-end-2 c =
    simp length-take (omega (arith, c.put_singles.auto.out, c.requires.dims_in_bounds))

-- the dense body in scratch
front : (c : After-put_singles) → let a = c.args in take (4 * a.dims) c.put_singles.new.out ≡ spread_body binary32 a.dims a.body.now
front c = dense-front c.args.dims c.args.body.now c.requires.fitting c.args.scratch.now c.put_singles.new.out c.put_singles.ensures

pub put_result-requires : goal.put_result-requires
put_result-requires c =
    rw (front (goal.at.put_result-requires c).After-put_singles) record { fitting = dense-fitting c.args.dims c.args.body.now c.requires.fitting; size_value = c.requires.size_value; size_in_bounds = c.requires.size_in_bounds }

pub returns : goal.returns
returns c =
    record { scratch_after = c.put_singles.ensures; out_after = rw (front (goal.at.returns c).After-put_singles) at c.put_result.ensures }
