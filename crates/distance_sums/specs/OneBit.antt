-- 1-bit vectors: counts over the whole bytes of two bodies, unused bits included, bit by bit.
use Rattle.std.specs.Prelude.{ℕ, ◌*◌, min, max, cond, List, eqb, pos, ◌-ℤ◌, Float}
use Rattle.std.specs.Int.Bits.{differ}
use Rattle.std.specs.Float.{nan, binary64}
use Rattle.std.specs.Float.Ieee.{sub, div, neg, of_int}
use Rattle.float_laws.specs.Running.{total}
use Rattle.vector_types.specs.Layout.{ceil, bit_at}
use Rattle.distance_sums.specs.Dense.{float_one}
use Rattle.distance_sums.specs.declared.bits.Overlap.{Overlap}

-- f of the two bits at each place below m, added up
abbrev pub tally : (ℕ → ℕ → ℕ) → List ℕ → List ℕ → ℕ → ℕ
tally f a b m = total (λ i. f (bit_at a i) (bit_at b i)) m

-- how many bits the whole bytes of d elements have
abbrev pub whole_bits : ℕ → ℕ
whole_bits d = 8 * ceil d 8

-- the bits that differ; those set in both and in either
unfoldable pub differing : List ℕ → List ℕ → ℕ → ℕ
differing a b m = tally differ a b m

unfoldable pub overlap_of : List ℕ → List ℕ → ℕ → Overlap
overlap_of a b m = record { both = tally min a b m; either = tally max a b m }

-- the count of differing bits, h
unfoldable pub bit_cosine : ℕ → Float
bit_cosine h = of_int binary64 (pos h)

-- -(dims - 2h): the whole number as a float, negated, so that 0 gives -0.0
unfoldable pub bit_dot : ℕ → ℕ → Float
bit_dot d h = neg (of_int binary64 (pos d -ℤ pos (2 * h)))

-- 1 - both / either, and NaN where no bit is set
unfoldable pub bit_jaccard : Overlap → Float
bit_jaccard o = cond (eqb o.either 0) nan (sub binary64 float_one (div binary64 (of_int binary64 (pos o.both)) (of_int binary64 (pos o.either))))
