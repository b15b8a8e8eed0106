-- An f64 as an f32: the nearest value, a tie to the even one. Rust's `x as f32`.
use Rattle.std.specs.Prelude.{◌≡◌, ◌*◌, ◌↔◌, Float}
use Rattle.std.specs.Float.{nan, inf, fin, binary32}
use Rattle.std.specs.Float.Ieee.{up, down, round}
use Rattle.rounding.specs.Nearest.{IsRounded}

-- y is x as an f32
abbrev pub IsNarrowed : Float → Float → Type 0
IsNarrowed nan y = y ≡ nan
IsNarrowed (inf s) y = y ≡ inf s
IsNarrowed (fin s m e) y = IsRounded binary32 s (m * up e) (down e) y

-- The same as a function, to compute with. `round` is what the language's own sums and products round by.
unfoldable pub narrowed : Float → Float
unfolding round
narrowed nan = nan
narrowed (inf s) = inf s
narrowed (fin s m e) = round binary32 s (m * up e) (down e)

-- `narrowed x` is the one value that `IsNarrowed` allows. The theorem is `narrowed-exactly` (`proofs/NarrowLaw.antt`).
abbrev pub NarrowedExactly : Type 0
NarrowedExactly = (x y : Float) → IsNarrowed x y ↔ y ≡ narrowed x
