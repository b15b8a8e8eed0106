-- To Float8, from a dense body in f32: each element as a byte between the least and the greatest.
use Rattle.std.specs.Prelude.{ℕ, zero, suc, ◌-◌, ◌*◌, true, false, cond, List, [], ◌∷◌, ◌++◌, eqb, pos, negsuc, replicate, Float}
use Rattle.std.specs.Float.{inf, fin, binary32}
use Rattle.std.specs.Float.Ieee.{add, sub, div, lt, eq, of_int}
use Rattle.float_laws.specs.Zero.{plus_zero}
use Rattle.rounding.specs.Truncate.{truncated}
use Rattle.little_endian.specs.Bytes.{float_bytes}
use Rattle.vector_types.specs.Layout.{ceil}
use Rattle.bodies.specs.Elements.{dense_element}
use Rattle.bodies.specs.Scale.{scale}
use Rattle.bodies.specs.declared.float8.Scale.{Scale}
use Rattle.convert_parts.specs.Pieces.{pieces}

-- the least and the greatest of the first n elements, from +infinity and -infinity: NaN is passed over, and the first of two zeros kept
unfoldable pub least : (ℕ → Float) → ℕ → Float
least e zero = inf false
least e (suc n) = cond (lt (e n) (least e n)) (e n) (least e n)

unfoldable pub greatest : (ℕ → Float) → ℕ → Float
greatest e zero = inf true
greatest e (suc n) = cond (lt (greatest e n) (e n)) (e n) (greatest e n)

-- the scale of d elements from low to high: alpha is (high - low) / 255, shift is low; of no elements both are 0.0
unfoldable pub scale_for : ℕ → Float → Float → Scale
scale_for d low high = cond (eqb d 0) (scale plus_zero plus_zero) (scale (div binary32 (sub binary32 high low) (of_int binary32 (pos 255))) low)

abbrev pub fitted_scale : (ℕ → Float) → ℕ → Scale
fitted_scale e d = scale_for d (least e d) (greatest e d)

abbrev pub one_half : Float
one_half = fin false 1 (negsuc 0)

-- the byte of x: (x - shift) / alpha + 0.5, truncated; 0 where alpha is 0
abbrev pub quantum : Scale → Float → ℕ
quantum c x =
    cond (eq c.alpha plus_zero) 0 (truncated (add binary32 (div binary32 (sub binary32 x c.shift) c.alpha) one_half))

-- what follows the bytes: zeros up to a multiple of 4, alpha and shift
abbrev pub scale_end : ℕ → Scale → List ℕ
scale_end d c = replicate (4 * ceil d 4 - d) 0 ++ (float_bytes binary32 c.alpha ++ float_bytes binary32 c.shift)

abbrev pub quantized_with : Scale → (ℕ → Float) → ℕ → List ℕ
quantized_with c e d = pieces (λ i. quantum c (e i) ∷ []) d ++ scale_end d c

unfoldable pub quantized_body : ℕ → List ℕ → List ℕ
unfolding least greatest scale_for pieces
quantized_body d body = let e = dense_element binary32 body in quantized_with (fitted_scale e d) e d
