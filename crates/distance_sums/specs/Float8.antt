-- Float8 vectors: cosine and dot from whole-number sums of the quantized bytes, in f64 and in the Rust's order of terms.
use Rattle.std.specs.Prelude.{ℕ, ◌*◌, false, List, pos, get_or, Float}
use Rattle.std.specs.Float.{fin, binary64}
use Rattle.std.specs.Float.Ieee.{add, sub, mul, div, of_int}
use Rattle.float_laws.specs.Running.{total}
use Rattle.rounding.specs.Root.{root}
use Rattle.bodies.specs.Scale.{scale_in, wide}
use Rattle.bodies.specs.declared.float8.WideScale.{WideScale}
use Rattle.distance_sums.specs.Dense.{float_one}
use Rattle.distance_sums.specs.declared.float8.Totals.{Totals}

-- alpha and shift of a body of d elements, in f64
abbrev pub wide_scale : ℕ → List ℕ → WideScale
wide_scale d body = wide (scale_in d body)

-- the quantized byte i
abbrev pub byte_at : List ℕ → ℕ → ℕ
byte_at body i = get_or body i 0

-- the sums of the bytes of each body, of their squares, and of the products
unfoldable pub totals_of : List ℕ → List ℕ → ℕ → Totals
totals_of a b d = record {
  sum1 = total (byte_at a) d;
  sum2 = total (byte_at b) d;
  squares1 = total (λ i. byte_at a i * byte_at a i) d;
  squares2 = total (λ i. byte_at b i * byte_at b i) d;
  products = total (λ i. byte_at a i * byte_at b i) d;
}

-- sums and products in f64, left to right, and a whole number there
infixl 7 ◌⊛◌
abbrev pub ◌⊛◌ : Float → Float → Float
x ⊛ y = mul binary64 x y

infixl 6 ◌⊕◌
abbrev pub ◌⊕◌ : Float → Float → Float
x ⊕ y = add binary64 x y

abbrev pub whole : ℕ → Float
whole n = of_int binary64 (pos n)

abbrev pub float_two : Float
float_two = fin false 1 (pos 1)

-- the terms of the dot: those in the middle change places when the vectors do
unfoldable pub scaled_dot : WideScale → WideScale → Totals → ℕ → Float
scaled_dot u v t d =
    u.alpha ⊛ v.alpha ⊛ whole t.products
    ⊕ u.alpha ⊛ v.shift ⊛ whole t.sum1
    ⊕ v.alpha ⊛ u.shift ⊛ whole t.sum2
    ⊕ u.shift ⊛ v.shift ⊛ whole d

-- a norm, squared
unfoldable pub scaled_norm : WideScale → ℕ → ℕ → ℕ → Float
scaled_norm u squares sum d =
    u.alpha ⊛ u.alpha ⊛ whole squares
    ⊕ float_two ⊛ u.alpha ⊛ u.shift ⊛ whole sum
    ⊕ u.shift ⊛ u.shift ⊛ whole d

-- no test at all
unfoldable pub scaled_cosine : WideScale → WideScale → Totals → ℕ → Float
unfolding scaled_dot scaled_norm
scaled_cosine u v t d =
    sub binary64 float_one (div binary64 (scaled_dot u v t d) (root binary64 (scaled_norm u t.squares1 t.sum1 d ⊛ scaled_norm v t.squares2 t.sum2 d)))
