-- A float in bytes, for both formats at once: it fits the format, and is read back where it was put, by the law of its pattern's bytes.
use mathlib.Core.Path.{◌≡◌, refl, ap, ◌∙◌}
use mathlib.Core.List.{List}
use Prim.Native.Nat.{ℕ, ◌+◌, ◌*◌, ◌^◌, ◌≤◌}
use lib.Dec.{T}
use lib.ListN.{length}
use lib.Ieee.{Float, Format, binary32, binary64, fits, top, of_bits, to_bits}
use lib.Ieee.Bits.{of_bits-to_bits, of_bits-fits, to_bits-lt}
use Rattle.little_endian.specs.Bytes.{number_at, put, width, float_at, float_bytes}
use Rattle.little_endian.proofs.Put.{number_at-put-bytes_of}

-- a format has as many patterns as its bytes have numbers
pattern-count : (f : Format) → 2 * top f ≡ 256 ^ width f
pattern-count binary32 = refl
pattern-count binary64 = refl

pub float_at-fits : (f : Format) (s : List ℕ) (i : ℕ) → T (fits f (float_at f s i))
float_at-fits f s i = of_bits-fits f (number_at (width f) s i)

-- a float that the format holds is read back where it was put
pub float_at-put : (f : Format) (x : Float) (l : List ℕ) (i : ℕ) → i + width f ≤ length l → T (fits f x)
    → float_at f (put l i (float_bytes f x)) i ≡ x
float_at-put f x l i room h =
    let below = rw pattern-count at (to_bits-lt f x h) in
    ap (of_bits f) (number_at-put-bytes_of (width f) (to_bits f x) l i room below) ∙ of_bits-to_bits f x h
