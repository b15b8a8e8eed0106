-- An f32 cut toward zero and held in 0..255, a NaN giving 0. Rust's `x as u8`.
use Rattle.std.specs.Prelude.{ℕ, ◌*◌, ◌/◌, min, cond, Float}
use Rattle.std.specs.Float.{nan, inf, fin}
use Rattle.std.specs.Float.Ieee.{up, down}

-- m * 2 ^ e is the fraction m * up e / down e
unfoldable pub truncated : Float → ℕ
truncated nan = 0
truncated (inf s) = cond s 0 255
truncated (fin s m e) = cond s 0 (min (m * up e / down e) 255)
