-- The lesser and the greater of two floats: one NaN is passed over, as by the Rust's `min` and `max`.
use Rattle.std.specs.Prelude.{◌≡◌, ◌⊎◌, Bool, true, false, cond, T, Float}
use Rattle.std.specs.Float.{Format}
use Rattle.std.specs.Float.Ieee.{lt, eq, is_nan, fits}

-- of two that are equal, the first
unfoldable pub lesser : Float → Float → Float
lesser x y = cond (eq x x) (cond (lt y x) y x) y

unfoldable pub greater : Float → Float → Float
greater x y = cond (eq x x) (cond (lt x y) y x) y

-- m is chosen of x and y: the one that is not NaN, and where neither is, one that the other does not come before.
-- Of 0.0 and -0.0 either may be chosen, and no distance tells which was (`proofs/EitherZero.antt`).
abbrev pub Chosen : (Float → Float → Bool) → Float → Float → Float → Type 0
Chosen before x y m =
    (is_nan x ≡ true → m ≡ y)
    × (is_nan x ≡ false → is_nan y ≡ true → m ≡ x)
    × (is_nan x ≡ false → is_nan y ≡ false → ((m ≡ x) × (before y x ≡ false)) ⊎ ((m ≡ y) × (before x y ≡ false)))

abbrev pub IsLesser : Float → Float → Float → Type 0
IsLesser x y m = Chosen lt x y m

abbrev pub IsGreater : Float → Float → Float → Type 0
IsGreater x y m = Chosen (λ u v. lt v u) x y m

-- lo and hi choose the lesser and the greater of every two values of a format
pub record AreChoices (f : Format) (lo hi : Float → Float → Float) : Type 0 where
  pub low : (x y : Float) → T (fits f x) → T (fits f y) → IsLesser x y (lo x y)
  pub high : (x y : Float) → T (fits f x) → T (fits f y) → IsGreater x y (hi x y)
