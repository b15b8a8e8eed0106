-- The entries of the elements below i are laid out; a value is narrowed.
use mathlib.Core.Path.{ap}
use Prim.Native.Nat.{ℕ}
use native.Mathlib.Omega.{arith}
use borrow.Author.Rules.{rules}
use lib.Ieee.{binary32, binary64, of_bits}
use Rattle.rounding.specs.Narrow.{narrowed}
use Rattle.little_endian.specs.Bytes.{float_bytes}
use Rattle.convert_parts.specs.Result.{result_of}
use Rattle.convert_parts.proofs.Patterns.{nonzero-tested}
use Rattle.convert_parts.proofs.Regions.{laying-none, laying-room, laying-next, laying-all}
use Rattle.convert_f64.proofs.Stored.{length-value}
use Rattle.convert_f64.proofs.sparse.put_sparse.Goals as goal

pub put_narrowed-n-requires : goal.put_narrowed-n-requires
put_narrowed-n-requires c =
    record { i_lt_max_dims = omega (arith, c.requires.dims_le_max_dims, c.loop-i-test.true); i_bound = laying-room _ _ _ _ _ (length-value _ _) c.requires.count_value c.requires.count_in_bounds c.loop-i.invariant c.loop-i-test.true _ (nonzero-tested binary64 _ _ _ c.u64_at-bits.ensures); count_in_bounds = search rules }

pub loop-i-preserved : goal.loop-i-preserved
loop-i-preserved c =
    let less = c.loop-i-test.true in
    let value = ap (λ (b : ℕ). float_bytes binary32 (narrowed (of_bits binary64 b))) c.u64_at-bits.ensures in
    laying-next _ _ _ _ _ (length-value _ _) c.requires.count_value c.requires.count_in_bounds c.loop-i.invariant less _ (nonzero-tested binary64 _ _ _ c.u64_at-bits.ensures) _ value
    _ c.put_narrowed-n.ensures.value _ (search rules) c.put_narrowed-n.ensures.out_after

pub returns : goal.returns
unfolding result_of
returns c =
    laying-all _ _ _ _ _ (length-value _ _) c.requires.count_value c.requires.count_in_bounds c.loop-i.invariant c.loop-i-test.false

pub loop-i-init : goal.loop-i-init
loop-i-init c = laying-none _ _ _ _ _
