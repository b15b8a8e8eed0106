-- The two zeros, the sign of a value, and what a sum that starts from +0 can be.
use Rattle.std.specs.Prelude.{◌≢◌, Bool, true, false, pos, T, Float}
use Rattle.std.specs.Float.{nan, inf, fin, Format}
use Rattle.std.specs.Float.Ieee.{fits}

abbrev pub signed_zero : Bool → Float
signed_zero s = fin s 0 (pos 0)

abbrev pub plus_zero : Float
plus_zero = signed_zero false

abbrev pub minus_zero : Float
minus_zero = signed_zero true

-- true where there is a minus sign; a NaN has none
abbrev pub sign : Float → Bool
sign nan = false
sign (inf s) = s
sign (fin s m e) = s

-- a value of the format that is not -0
pub record FromZero (f : Format) (x : Float) : Type 0 where
  pub fitting : T (fits f x)
  pub not_minus_zero : x ≢ minus_zero
