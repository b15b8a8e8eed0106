-- `hex::put_hex` puts the kit's digits, which are `width` in number.
use mathlib.Core.Path.{◌≡◌, ◌∙◌, ap}
use mathlib.Core.List.{◌++◌}
use Prim.Native.Nat.{ℕ, ◌+◌, ◌≤◌, min, max}
use lib.ListN.{length, length-append}
use Rattle.io.specs.Digits.{last_digits}
use native.Mathlib.Omega.{arith}
use lib.Dec.{lit<}
use Rattle.std.proofs.Common.{rules}
use Rattle.lines.proofs.Decimal.{length_digits, fewest-most}
use Rattle.lines.proofs.hex.put_hex.Goals as goal
use Rattle.lines.proofs.hex.put_hex.Goals.{After-hex-k}

-- as many digits as asked
wide : (g : _) (c : After-hex-k g) → c.hex-k.result ≡ c.args.width
wide g c =
    let a = c.args in
    let w = min (max a.width 1) 16 in
    let same : w ≡ a.width = omega arith in
    let f = c.hex-k.ensures.len in
    let most : c.hex-k.result ≤ a.width
    = fewest-most 16 w a.n c.hex-k.result a.width (lit< tt) (omega arith) c.requires.n_bound f in
    omega (arith, f.0)

pub extend_from_slice-requires : goal.extend_from_slice-requires
extend_from_slice-requires g c = let w = wide g (goal.at.extend_from_slice-requires g c).After-hex-k in search rules

pub returns : goal.returns
returns g c =
    let a = c.args in
    let e = c.hex-k.ensures.digits ∙ ap (λ (k : ℕ). last_digits 16 k a.n) (wide g (goal.at.returns g c).After-hex-k) in
    let put = c.extend_from_slice.ensures ∙ ap (λ digits. a.out.now ++ digits) e in
    record { puts = put; size = rw put (length-append a.out.now _ ∙ ap (λ k. length a.out.now + k) (length_digits 16 a.width a.n)) }
