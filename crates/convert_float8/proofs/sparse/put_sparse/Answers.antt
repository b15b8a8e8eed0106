-- The entries of the elements below i are laid out.
use mathlib.Core.Path.{ap, ◌∙◌}
use native.Mathlib.Omega.{arith}
use borrow.Author.Rules.{rules}
use lib.Ieee.{binary32, to_bits}
use Rattle.little_endian.specs.Bytes.{bytes_of}
use Rattle.convert_parts.proofs.Regions.{laying-none, laying-room, laying-next, laying-all}
use Rattle.convert_float8.proofs.Scaled.{element-computed, nonzero-computed, length-value, stored-elements}
use Rattle.convert_float8.proofs.sparse.put_sparse.Goals as goal

pub put_entry-n-requires : goal.put_entry-n-requires
put_entry-n-requires c =
    let x = element-computed _ _ _ c.scale_of-scale.ensures c.element-x.ensures in
    record { i_lt_max_dims = omega (arith, c.requires.dims_le_max_dims, c.loop-i-test.true); i_bound = laying-room _ _ _ _ _ (length-value _ _) c.requires.count_value c.requires.count_in_bounds c.loop-i.invariant c.loop-i-test.true _ (nonzero-computed _ _ _ x); count_in_bounds = search rules }

pub loop-i-preserved : goal.loop-i-preserved
loop-i-preserved c =
    let x = element-computed _ _ _ c.scale_of-scale.ensures c.element-x.ensures in
    let value = ap (bytes_of 4) (c.bits32.ensures ∙ ap (to_bits binary32) x) in
    laying-next _ _ _ _ _ (length-value _ _) c.requires.count_value c.requires.count_in_bounds c.loop-i.invariant c.loop-i-test.true _ (nonzero-computed _ _ _ x) _ value
    _ c.put_entry-n.ensures.value _ (search rules) c.put_entry-n.ensures.out_after

pub returns : goal.returns
returns c =
    rw (stored-elements _ _) (laying-all _ _ _ _ _ (length-value _ _) c.requires.count_value c.requires.count_in_bounds c.loop-i.invariant c.loop-i-test.false)

pub loop-i-init : goal.loop-i-init
loop-i-init c = laying-none _ _ _ _ _
