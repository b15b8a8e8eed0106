-- The entries of the elements below i are laid out.
use mathlib.Core.Path.{sym, ap, ◌∙◌}
use native.Mathlib.Omega.{arith}
use borrow.Author.Rules.{rules}
use lib.Ieee.{binary32, to_bits}
use Rattle.little_endian.specs.Bytes.{bytes_of}
use Rattle.convert_parts.proofs.Regions.{laying-none, laying-room, laying-next, laying-all}
use Rattle.convert_1bit.proofs.Units.{bit-nonzero, all-stored, length-value, stored-bits}
use Rattle.convert_1bit.proofs.sparse.put_sparse.Goals as goal

pub put_entry-n-requires : goal.put_entry-n-requires
put_entry-n-requires c =
    let body = c.args.body.now in
    let d = c.args.dims in
    let less = c.loop-i-test.true in
    record { i_lt_max_dims = omega (arith, c.requires.dims_le_max_dims); i_bound = laying-room _ _ _ _ _ (length-value body d) (sym (all-stored body d)) c.requires.dims_in_bounds c.loop-i.invariant less _ (bit-nonzero body _); count_in_bounds = search rules }

pub loop-i-preserved : goal.loop-i-preserved
loop-i-preserved c =
    let body = c.args.body.now in
    let d = c.args.dims in
    let value = ap (bytes_of 4) (c.bits32.ensures ∙ ap (to_bits binary32) c.element-x.ensures) in
    laying-next _ _ _ _ _ (length-value body d) (sym (all-stored body d)) c.requires.dims_in_bounds c.loop-i.invariant c.loop-i-test.true _ (bit-nonzero body _) _ value
    _ c.put_entry-n.ensures.value _ (search rules) c.put_entry-n.ensures.out_after

pub returns : goal.returns
returns c =
    let body = c.args.body.now in
    let d = c.args.dims in
    rw (stored-bits body d) (laying-all _ _ _ _ _ (length-value body d) (sym (all-stored body d)) c.requires.dims_in_bounds c.loop-i.invariant c.loop-i-test.false)

pub loop-i-init : goal.loop-i-init
loop-i-init c = laying-none _ _ _ _ _
