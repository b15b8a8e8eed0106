-- The square root, rounded once to the nearest value, a tie to the even one. Rust's `sqrt`.
use Rattle.std.specs.Prelude.{◌≡◌, ℕ, zero, suc, ◌+◌, ◌*◌, ◌^◌, true, false, cond, ◌↔◌, ℤ, Float}
use Rattle.std.specs.Float.{nan, inf, fin, Format}
use Rattle.std.specs.Float.Ieee.{low, up, down}
use Rattle.rounding.specs.Nearest.{Nearest}
use Rattle.rounding.specs.Inner.Pick.{pick}

-- m * 2 ^ e is m * up e * 2 ^ (low + low) / down e squares of the smallest value.
-- So M / 2 smallest values are compared with its root by squares: M * M * down e against four times m * up e * 2 ^ (low + low).
abbrev pub radicand : Format → ℕ → ℤ → ℕ
radicand f m e = 4 * (m * up e * 2 ^ (low f + low f))

-- y is the root of x
abbrev pub IsRoot : Format → Float → Float → Type 0
IsRoot f nan y = y ≡ nan
IsRoot f (inf s) y = y ≡ cond s nan (inf false)
IsRoot f (fin s zero e) y = y ≡ fin s zero e
IsRoot f (fin true (suc m) e) y = y ≡ nan
IsRoot f (fin false (suc m) e) y = Nearest f false (radicand f (suc m) e) (λ M. M * M * down e) y

-- the same as a function, to compute with
unfoldable pub root : Format → Float → Float
unfolding pick
root f nan = nan
root f (inf s) = cond s nan (inf false)
root f (fin s zero e) = fin s zero e
root f (fin true (suc m) e) = nan
root f (fin false (suc m) e) = pick f false (radicand f (suc m) e) (λ M. M * M * down e)

-- `root f x` is the one value that `IsRoot` allows. The theorem is `root-exactly` (`proofs/RootLaw.antt`).
abbrev pub RootExactly : Type 0
RootExactly = (f : Format) (x y : Float) → IsRoot f x y ↔ y ≡ root f x
