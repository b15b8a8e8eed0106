-- A loop over the texts of an input ends: fewer bytes are left each time.
use mathlib.Core.Path.{◌≡◌, refl}
use mathlib.Core.Bool.{Bool, true, false, cond}
use mathlib.Core.List.{List}
use Prim.Native.Nat.{ℕ, ◌+◌, ◌<◌}
use native.Mathlib.Omega.{arith}
use Rattle.line_stream.specs.Inner.Reading.{HoldsInput}
use Rattle.line_stream.specs.declared.InputText.{InputText}

-- it goes on only while the input may
pub left-fewer : {kept ending buffer : List ℕ} {left : ℕ} {t : InputText} → HoldsInput kept ending left buffer t → (on : Bool) → (on ≡ true → t.more ≡ true)
    → cond on (t.left + 1) 0 < left + 1
left-fewer h true may = omega (arith, h.some (may refl), h.fewer (may refl))
left-fewer h false may = omega arith
