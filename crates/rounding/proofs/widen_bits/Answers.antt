-- `rounding::widen_bits` meets its contract: by whether the pattern is a NaN's.
use Rattle.std.proofs.Common.{Bool, not, T, sym, ap, ◌∙◌, subst, rules}
use lib.Ieee.{nan, binary32, binary64, of_bits, to_bits, fits, is_nan}
use lib.Ieee.Bits.{nan_bits_is, of_bits-fits}
use lib.Ieee.Compare.{nan_differs}
use lib.Ieee.Fits.{and_i, fits_widens}
use Rattle.float_laws.proofs.Nan.{number-pattern, nan-encoded, nan_pattern}
use Rattle.rounding.proofs.widen_bits.Goals as goal
use Rattle.rounding.proofs.widen_bits.Goals.{Then-b-le2139095040}

pub float_from_bits-result : goal.float_from_bits-result
float_from_bits-result c = number-pattern binary32 c.args.b (search rules)

number : (c : Then-b-le2139095040) → T (not (is_nan (of_bits binary32 c.args.b)))
number c = subst (λ (x : Bool). T (not x)) (nan_bits_is binary32 c.args.b) (float_from_bits-result c)

pub float_to_float-result : goal.float_to_float-result
float_to_float-result c = let b = c.args.b in and_i (fits binary64 (of_bits binary32 b)) (not (is_nan (of_bits binary32 b))) (fits_widens (of_bits binary32 b) (of_bits-fits binary32 b)) (number (goal.at.float_to_float-result c).Then-b-le2139095040)

pub returns-else-b-le2139095040 : goal.returns-else-b-le2139095040
returns-else-b-le2139095040 c = nan-encoded binary64 nan nan_differs ∙ ap (to_bits binary64) (sym (nan_pattern binary32 c.args.b (search rules)))

pub float_to_bits-result : goal.float_to_bits-result
float_to_bits-result c = number (goal.at.float_to_bits-result c).Then-b-le2139095040
