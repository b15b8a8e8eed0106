-- The entries of the elements below i are laid out; a value is copied as a number.
use mathlib.Core.Path.{ap, ◌∙◌}
use Prim.Native.Nat.{◌*◌}
use native.Mathlib.Omega.{arith}
use borrow.Author.Rules.{rules}
use lib.Ieee.{binary32}
use Rattle.little_endian.specs.Bytes.{bytes_of}
use Rattle.little_endian.proofs.Numbers.{bytes_of-number_at}
use Rattle.convert_parts.specs.Result.{result_of}
use Rattle.convert_parts.proofs.Patterns.{nonzero-tested}
use Rattle.convert_parts.proofs.Regions.{laying-none, laying-room, laying-next, laying-all}
use Rattle.convert_f32.proofs.Stored.{length-value}
use Rattle.convert_f32.proofs.sparse.put_sparse.Goals as goal

pub put_entry-n-requires : goal.put_entry-n-requires
put_entry-n-requires c =
    record { i_lt_max_dims = omega (arith, c.requires.dims_le_max_dims, c.loop-i-test.true); i_bound = laying-room _ _ _ _ _ (length-value _ _ c.requires.body_len) c.requires.count_value c.requires.count_in_bounds c.loop-i.invariant c.loop-i-test.true _ (nonzero-tested binary32 _ _ _ c.u32_at-bits.ensures); count_in_bounds = search rules }

pub loop-i-preserved : goal.loop-i-preserved
loop-i-preserved c =
    let less = c.loop-i-test.true in
    let value = ap (bytes_of 4) c.u32_at-bits.ensures ∙ bytes_of-number_at 4 c.args.body.now (4 * c.loop-i.i) (λ k. (c.type_inv.body k).fits) (omega (arith, c.requires.body_len)) in
    laying-next _ _ _ _ _ (length-value _ _ c.requires.body_len) c.requires.count_value c.requires.count_in_bounds c.loop-i.invariant less _ (nonzero-tested binary32 _ _ _ c.u32_at-bits.ensures) _ value
    _ c.put_entry-n.ensures.value _ (search rules) c.put_entry-n.ensures.out_after

pub returns : goal.returns
unfolding result_of
returns c =
    laying-all _ _ _ _ _ (length-value _ _ c.requires.body_len) c.requires.count_value c.requires.count_in_bounds c.loop-i.invariant c.loop-i-test.false

pub loop-i-init : goal.loop-i-init
loop-i-init c = laying-none _ _ _ _ _
