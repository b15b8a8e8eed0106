-- The least and the greatest element as the code's record has them.
use Rattle.std.specs.Prelude.{ℕ, true, false, cond, Float}
use Rattle.std.specs.Float.{inf}
use Rattle.std.specs.Float.Ieee.{lt}
use Rattle.convert_parts.specs.Quantized.{least, greatest}
use Rattle.convert_parts.specs.declared.quantized.Range.{Range}

abbrev pub range : Float → Float → Range
range l h = record { low = l; high = h }

-- of no elements, and with x besides
abbrev pub no_range : Range
no_range = range (inf false) (inf true)

abbrev pub wider_by : Range → Float → Range
wider_by r x = range (cond (lt x r.low) x r.low) (cond (lt r.high x) x r.high)

-- of the first n elements
abbrev pub range_of : (ℕ → Float) → ℕ → Range
range_of e n = range (least e n) (greatest e n)
