-- `result` meets its contract: each arm is its row.
use mathlib.Core.Path.{ap, ◌∙◌}
use native.Mathlib.Omega.{arith}
use lib.Ieee.{binary32, binary64, to_bits}
use Rattle.rounding.specs.Root.{root}
use Rattle.rounding.specs.Narrow.{narrowed}
use Rattle.rounding.specs.Truncate.{truncated}
use Rattle.rounding.proofs.RootLaw.{root-unique}
use Rattle.rounding.proofs.NarrowLaw.{narrowed-unique}
use Rattle.probe_floats.proofs.result.Goals as goal

pub overflow_cast-n : goal.overflow_cast-n
overflow_cast-n c = omega (arith, rw c.in-Root32.is at c.requires)

pub overflow_cast-n-in-Widen : goal.overflow_cast-n-in-Widen
overflow_cast-n-in-Widen c = omega (arith, rw c.in-Widen.is at c.requires)

pub overflow_cast-n-in-Trunc : goal.overflow_cast-n-in-Trunc
overflow_cast-n-in-Trunc c = omega (arith, rw c.in-Trunc.is at c.requires)

pub returns-in-Root32 : goal.returns-in-Root32
returns-in-Root32 c =
    let x = root-unique binary32 c.f32_of-x.result c.root32.result c.root32.ensures ∙ ap (root binary32) c.f32_of-x.ensures in
    rw c.in-Root32.is record { value = c.bits32.ensures ∙ ap (to_bits binary32) x; upper_bound = omega (arith, c.bits32.type_inv) }

pub returns-in-Root64 : goal.returns-in-Root64
returns-in-Root64 c =
    let x = root-unique binary64 c.f64_of-x.result c.root64.result c.root64.ensures ∙ ap (root binary64) c.f64_of-x.ensures in
    rw c.in-Root64.is record { value = c.bits64.ensures ∙ ap (to_bits binary64) x; upper_bound = omega (arith, c.bits64.type_inv) }

pub returns-in-Narrow : goal.returns-in-Narrow
returns-in-Narrow c =
    let x = narrowed-unique c.f64_of-x-in-Narrow.result c.narrow.result c.narrow.ensures ∙ ap narrowed c.f64_of-x-in-Narrow.ensures in
    rw c.in-Narrow.is record { value = c.bits32-in-Narrow.ensures ∙ ap (to_bits binary32) x; upper_bound = omega (arith, c.bits32-in-Narrow.type_inv) }

pub returns-in-Widen : goal.returns-in-Widen
returns-in-Widen c =
    let x = c.widen.ensures ∙ c.f32_of-x-in-Widen.ensures in
    rw c.in-Widen.is record { value = c.bits64-in-Widen.ensures ∙ ap (to_bits binary64) x; upper_bound = omega (arith, c.bits64-in-Widen.type_inv) }

pub returns-in-Trunc : goal.returns-in-Trunc
returns-in-Trunc c =
    rw c.in-Trunc.is record { value = c.truncate.ensures ∙ ap truncated c.f32_of-x-in-Trunc.ensures; upper_bound = omega (arith, c.truncate.type_inv) }
