-- The first hit is found, after misses alone; where there are one or no entries the loop never runs, and there is no hit.
use Rattle.std.proofs.Common.{◌≡◌, true, List, ℕ, zero, suc, ◌-◌, ◌<◌, ◌≤◌, arith, le-leb}
use Rattle.vector_types.specs.Layout.{index_at}
use Rattle.vector_types.specs.Read.{is_not_above_previous}
use Rattle.vector_types.proofs.Some.{found_first, found_none}
use Rattle.vector_types.proofs.strictness.first_not_above_previous.Goals as goal

hit : (s : List ℕ) (k j : ℕ) {index before : ℕ} → 0 < j → index ≡ index_at s k j → before ≡ index_at s k (j - 1) → index ≤ before → is_not_above_previous s k j ≡ true
hit s k zero later e f h = absurd (omega arith)
hit s k (suc j) later e f h = let previous : suc j - 1 ≡ j = omega arith in let g = rw previous at f in rw (← e, ← g) (le-leb _ _ h)

pub returns-then-index-before : goal.returns-then-index-before
returns-then-index-before c =
    let test = hit _ _ _ (omega arith) c.u32_at-index.ensures c.u32_at-before.ensures c.if-index-before.true in
    found_first _ _ _ c.loop-entry-test.true test c.loop-entry.invariant

pub returns : goal.returns
returns c = found_none _ _ (λ j h. c.loop-entry.invariant j (omega arith))
