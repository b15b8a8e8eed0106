-- Words of the contracts of the functions inside: what each part of the root and of narrowing hands on.
use Rattle.std.specs.Prelude.{◌≡◌, ℕ, ◌+◌, ◌*◌, ◌^◌, ◌<◌, ◌≤◌, Bool, cond, ◌==◌, from_bits}
use Rattle.std.specs.Float.{Format, binary32, binary64}
use Rattle.std.specs.Float.Ieee.{prec, low, hid, ones, top}
use Rattle.rounding.specs.Narrow.{IsNarrowed}
use Rattle.rounding.specs.Root.{IsRoot}

-- root is the whole part of n's square root: root * root + rest is n, and rest is at most twice the root
pub record IsWholeRoot (n root rest : ℕ) : Type 0 where
  pub is : root * root + rest ≡ n
  pub small : rest ≤ 2 * root

-- m' * 2 ^ e' is m * 2 ^ e, with m' from h on and below 2 * h
pub record IsNormalized (m e h m' e' : ℕ) : Type 0 where
  pub same : m' * 2 ^ e' ≡ m * 2 ^ e
  pub at_least : h ≤ m'
  pub less_than : m' < 2 * h
  pub exponent : e' ≤ e

-- the format that keeps p digits
abbrev pub format_of : ℕ → Format
format_of p = cond (p == 53) binary64 binary32

-- the numbers of a format: its digits, the weight of its exponent's field, minus the exponent of its smallest value
pub record Widths (f : Format) (p h l : ℕ) : Type 0 where
  pub digits : p ≡ prec f
  pub lead : h ≡ hid f
  pub least : l ≡ low f

-- r is the pattern of a finite value, the root of what has the pattern b
pub record IsRootPattern (f : Format) (b r : ℕ) : Type 0 where
  pub finite : r < ones f * hid f
  pub is : IsRoot f (from_bits f b) (from_bits f r)

-- with either sign, the f32's pattern r is what the f64's pattern b is narrowed to
pub record IsNarrowedPattern (b r : ℕ) : Type 0 where
  pub not_nan : r ≤ ones binary32 * hid binary32
  pub is : (s : Bool) → IsNarrowed (from_bits binary64 (cond s (top binary64) 0 + b)) (from_bits binary32 (cond s (top binary32) 0 + r))
