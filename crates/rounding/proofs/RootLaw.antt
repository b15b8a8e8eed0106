-- `root` is the one value that `IsRoot` allows (by `pick-nearest` and `nearest-unique`), and half of a whole root, rounded up, is the root's pattern: by squares. For both formats at once.
use Rattle.std.proofs.Common.{◌≡◌, ℕ, zero, suc, ◌+◌, ◌-◌, ◌*◌, ◌/◌, ◌%◌, ◌^◌, ◌<◌, ◌≤◌, true, false, sym, refl, ap, ◌∙◌, subst, inr, true≢false, zero-le, le_trans, le_of_eq, lt_of_lt_of_le, lt_of_le_of_lt, le_of_lt, lt_irrefl, add-suc, mul-le-mul_right, zero-lt-suc, mul_assoc, lt-suc_self, div-lt_iff_lt-mul, mul-le-mul, mul-le-mul_left, mul-lt-mul_of_pos_right, mul-pos, one-mul, lt_of_not-le, zero-add, zero-mul, not-le_of_lt, arith, lit≤, pow_pos, pow_mono, pow-add}
use Prim.Native.Nat.{compare}
use native.Mathlib.Nat.{pow-succ'}
use lib.Arith.{lt_of_le-ne}
use lib.Ieee.{Float, nan, inf, fin, Format, binary32, binary64, prec, emax, low, up, down, nearest, hid, ones, of_bits}
use lib.Ieee.Exact.{HasValue}
use lib.Ieee.Fits.{two, down_pos}
use Rattle.rounding.specs.Nearest.{Nearest}
use Rattle.rounding.specs.Inner.Pick.{digits_of, count}
use Rattle.rounding.specs.Root.{IsRoot, root, radicand, RootExactly}
use Rattle.rounding.specs.Inner.Parts.{IsWholeRoot, IsNormalized, IsRootPattern}
use Rattle.rounding.proofs.Compare.{compare-lt, compare-gt, compare-scale}
use Rattle.rounding.proofs.Patterns.{signed, signed-value, hid-pos, twice_hid, digits-pos, count-is, count_at, count-lt}
use Rattle.rounding.proofs.Nearest.{Increasing, nearest-unique, pick-nearest, floor-nearest, nearest-scale}
use Rattle.rounding.proofs.WholeRootLaw.{square_le, lt-next-square, root_ge, root-lt}
use Rattle.rounding.proofs.Digits.{no_tie}

-- ---- one value, and only one
squares-rise : (D : ℕ) → 0 < D → Increasing (λ M. M * M * D)
squares-rise D p a b l = mul-lt-mul_of_pos_right (lt_of_le_of_lt (mul-le-mul_left a (le_of_lt l)) (mul-lt-mul_of_pos_right l (lt_of_le_of_lt zero-le l))) p

pub root_is : (f : Format) (x : Float) → IsRoot f x (root f x)
unfolding root
root_is f nan = refl
root_is f (inf s) = refl
root_is f (fin s zero e) = refl
root_is f (fin true (suc m) e) = refl
root_is f (fin false (suc m) e) = pick-nearest f false (radicand f (suc m) e) (λ M. M * M * down e) (squares-rise (down e) (down_pos e))

pub root-unique : (f : Format) (x y : Float) → IsRoot f x y → y ≡ root f x
unfolding root
root-unique f nan y h = h
root-unique f (inf s) y h = h
root-unique f (fin s zero e) y h = h
root-unique f (fin true (suc m) e) y h = h
root-unique f (fin false (suc m) e) y h =
    let rising = squares-rise (down e) (down_pos e) in
    nearest-unique f false (radicand f (suc m) e) (λ M. M * M * down e) rising h (pick-nearest f false (radicand f (suc m) e) (λ M. M * M * down e) rising)

pub root-exactly : RootExactly
root-exactly f x y = (root-unique f x y, λ e. subst (λ (z : Float). IsRoot f x z) (sym e) (root_is f x))

-- x is X smallest values, so its root is that of X * 2 ^ low squares of the smallest value
pub root-by-value : (f : Format) (x : Float) (X : ℕ) (y : Float) → 0 < X → HasValue x false X (2 ^ low f) → Nearest f false (4 * (X * 2 ^ low f)) (λ M. M * M * 1) y → IsRoot f x y
root-by-value f nan X y p v n = absurd v
root-by-value f (inf s) X y p v n = absurd v
root-by-value f (fin s zero e) X y p v n =
    absurd (lt_irrefl 0 (subst (λ (z : ℕ). 0 < z) (sym v.1 ∙ ap (λ (z : ℕ). z * 2 ^ low f) (zero-mul (up e)) ∙ zero-mul (2 ^ low f)) (mul-pos p (down_pos e))))
root-by-value f (fin true (suc m) e) X y p v n = absurd (true≢false v.0)
root-by-value f (fin false (suc m) e) X y p v n =
    nearest-scale (4 * (X * 2 ^ low f)) (radicand f (suc m) e) (down e) 1 (λ M. M * M * 1) (λ M. M * M * down e) (down_pos e) (zero-lt-suc 0)
    (number (suc m * up e) (2 ^ low f) (2 ^ (low f + low f)) (down e) (pow-add 2 (low f) (low f)) v.1) (λ M. point M (down e)) f false y n
  where
    number : (a l q d : ℕ) → q ≡ l * l → a * l ≡ X * d → 4 * (X * l) * d ≡ 4 * (a * q) * 1
    number a l q d e h = let g : a * l * l ≡ X * d * l = ap (λ (z : ℕ). z * l) h in rw e (omega arith)

    point : (M d : ℕ) → M * M * 1 * d ≡ M * M * d * 1
    point M d = omega arith

-- ---- from the whole root w of m * 2 ^ t, which has one digit more than the format keeps
-- how far m * 2 ^ e is shifted up: by the format's digits and one or two more, so that what is left of e is even
abbrev pub root_shift : ℕ → ℕ → ℕ
root_shift p e = p + 1 + (e + p + 1) % 2

four-hid : (f : Format) → 4 * hid f ≡ 2 ^ suc (prec f)
four-hid f = twice (hid f) ∙ ap (λ (x : ℕ). 2 * x) (twice_hid f) ∙ sym (pow-succ' 2 (prec f))
  where
    twice : (h : ℕ) → 4 * h ≡ 2 * (2 * h)
    twice h = omega arith

eight-hid : (f : Format) → 8 * hid f ≡ 2 ^ suc (suc (prec f))
eight-hid f = twice (hid f) ∙ ap (λ (x : ℕ). 2 * x) (four-hid f) ∙ sym (pow-succ' 2 (suc (prec f)))
  where
    twice : (h : ℕ) → 8 * h ≡ 2 * (4 * h)
    twice h = omega arith

module _ (f : Format) (m e w r : ℕ) (full : hid f ≤ m) (less : m < 2 * hid f) (wide : root_shift (prec f) e ≤ e) (root : IsWholeRoot (m * 2 ^ root_shift (prec f) e) w r) where
  abbrev h : ℕ
  h = hid f

  abbrev t : ℕ
  t = root_shift (prec f) e

  -- the number is A * U * U
  abbrev A : ℕ
  A = m * 2 ^ t

  abbrev k : ℕ
  k = (e - t) / 2

  abbrev U : ℕ
  U = 2 ^ k

  number_is : m * 2 ^ e ≡ A * (U * U)
  number_is =
      let halves : e ≡ t + (k + k) = omega arith in
      ap (λ (x : ℕ). m * 2 ^ x) halves ∙ rw (pow-add 2 t (k + k), pow-add 2 k k) (sym (mul_assoc m (2 ^ t) (U * U)))

  -- 4 * h ≤ 2 ^ t ≤ 8 * h, so (2 * h)² ≤ A < (4 * h)²
  A-ge : 2 * h * (2 * h) ≤ A
  A-ge =
      let power : 4 * h ≤ 2 ^ t = rw (four-hid f) (pow_mono {i = suc (prec f)} {j = t} (omega arith)) in
      let l : h * (4 * h) ≤ A = mul-le-mul full power in
      omega arith

  A-lt : A < 4 * h * (4 * h)
  A-lt =
      let power : 2 ^ t ≤ 8 * h = rw (eight-hid f) (pow_mono {i = t} {j = suc (suc (prec f))} (omega arith)) in
      let l : 2 * h * 2 ^ t ≤ 2 * h * (8 * h) = mul-le-mul_left (2 * h) power in
      let g : A < 2 * h * 2 ^ t = mul-lt-mul_of_pos_right less (pow_pos t) in
      omega arith

  w-ge : 2 * h ≤ w
  w-ge = root_ge (2 * h) root A-ge

  pub w-lt : w < 4 * h
  w-lt = root-lt (4 * h) root A-lt

  -- the pattern of the largest value that is not above the root
  abbrev floor : ℕ
  floor = suc k * h + w / 2

  count-floor : count f floor ≡ w / 2 * (2 * U)
  count-floor = rw (← pow-succ' 2 k) (count_at f (suc k) (w / 2) (inr (omega (arith, w-ge))) (omega (arith, w-lt)))

  count_next : count f (suc floor) ≡ suc (w / 2) * (2 * U)
  count_next = rw (← add-suc (suc k * h) (w / 2), ← pow-succ' 2 k) (count_at f (suc k) (suc (w / 2)) (inr (omega (arith, w-ge))) (omega (arith, w-lt)))

  abbrev number : ℕ
  number = 4 * (A * (U * U))

  abbrev mid : ℕ → ℕ
  mid M = M * M * 1

  floor-le : mid (count f floor + count f floor) ≤ number
  floor-le = rw count-floor (low (w / 2) U (le_trans (mul-le-mul {n₁ = 2 * (w / 2)} {m₁ = 2 * (w / 2)} (omega arith) (omega arith)) (square_le root)))
    where
      low : (q U : ℕ) → 2 * q * (2 * q) ≤ A → mid (q * (2 * U) + q * (2 * U)) ≤ 4 * (A * (U * U))
      low q U l = let g : 2 * q * (2 * q) * (U * U) ≤ A * (U * U) = mul-le-mul_right (U * U) l in omega arith

  lt-next : number < mid (count f (suc floor) + count f (suc floor))
  lt-next = rw count_next (high (suc (w / 2)) U (lt_of_lt_of_le (lt-next-square root) (mul-le-mul {n₂ = 2 * suc (w / 2)} {m₂ = 2 * suc (w / 2)} (omega arith) (omega arith))) (mul-pos (pow_pos k) (pow_pos k)))
    where
      high : (q U : ℕ) → A < 2 * q * (2 * q) → 0 < U * U → 4 * (A * (U * U)) < mid (q * (2 * U) + q * (2 * U))
      high q U l p = let g : A * (U * U) < 2 * q * (2 * q) * (U * U) = mul-lt-mul_of_pos_right l p in omega arith

  -- the midpoint is mean * U: the root is below it if w is even, above it if w is odd, and never at it (`no_tie`)
  abbrev mean : ℕ
  mean = 2 * (w / 2) + 1

  compare-midway : compare number (mid (count f floor + count f (suc floor))) ≡ compare A (mean * mean)
  compare-midway = rw (count-floor, count_next) (compare-scale A (mean * mean) number (mid (w / 2 * (2 * U) + suc (w / 2) * (2 * U))) 1 (4 * (U * U)) (zero-lt-suc 0) (mul-pos (zero-lt-suc 3) (mul-pos (pow_pos k) (pow_pos k))) (scaled A U) (point (w / 2) U))
    where
      scaled : (A U : ℕ) → 4 * (A * (U * U)) * 1 ≡ A * (4 * (U * U))
      scaled A U = omega arith

      point : (q U : ℕ) → mid (q * (2 * U) + suc q * (2 * U)) * 1 ≡ (2 * q + 1) * (2 * q + 1) * (4 * (U * U))
      point q U = omega arith

  nearest-floor : nearest floor (compare A (mean * mean)) ≡ suc k * h + (w + 1) / 2
  nearest-floor = go (w % 2) refl
    where
      below : w % 2 ≡ 0 → A < mean * mean
      below z = subst (λ (x : ℕ). A < x * x) (omega arith) (lt-next-square root)

      above : (r : ℕ) → w % 2 ≡ suc r → mean * mean < A
      above r z =
          let odd : mean ≡ w = omega arith in
          lt_of_le-ne (rw odd (square_le root)) (λ q. no_tie m t w (omega arith) (omega arith) (record { is = omega (arith, rw odd at q); small = zero-le }))

      go : (r : ℕ) → w % 2 ≡ r → nearest floor (compare A (mean * mean)) ≡ suc k * h + (w + 1) / 2
      go zero z = let q : w / 2 ≡ (w + 1) / 2 = omega arith in rw (compare-lt A (mean * mean) (below z)) (ap (λ (x : ℕ). suc k * h + x) q)
      go (suc r) z = let q : suc (w / 2) ≡ (w + 1) / 2 = omega arith in rw (compare-gt A (mean * mean) (above r z), ← q) (sym (add-suc (suc k * h) (w / 2)))

  halved-nearest : floor < ones f * h → Nearest f false (4 * (m * 2 ^ e)) mid (signed f false (suc k * h + (w + 1) / 2))
  halved-nearest l =
      subst (λ (x : ℕ). Nearest f false (4 * x) mid (signed f false (suc k * h + (w + 1) / 2))) (sym number_is)
      (subst (λ (x : ℕ). Nearest f false number mid (signed f false x)) (ap (nearest floor) compare-midway ∙ nearest-floor)
      (floor-nearest f false number mid (squares-rise 1 (zero-lt-suc 0)) floor l floor-le lt-next))

-- ---- from a pattern
-- the number of a pattern, normalized, has an exponent of at least the shift
module _ (f : Format) (b m e : ℕ) (some : 0 < b) (norm : IsNormalized (digits_of (hid f) b) (b / hid f - 1 + low f) (hid f) m e) where
  pub shift-le-exponent : root_shift (prec f) e ≤ e
  shift-le-exponent = let most : prec f + 1 < e = lt_of_not-le (λ l. not-le_of_lt (small l) large) in omega arith
    where
      large : 2 ^ low f ≤ m * 2 ^ e
      large = rw (norm.same, pow-add 2 (b / hid f - 1) (low f)) (beside (digits_of (hid f) b) (2 ^ (b / hid f - 1)) (2 ^ low f) (mul-pos (digits-pos (hid f) b (hid-pos f) some) (pow_pos (b / hid f - 1))))
        where
          beside : (d x y : ℕ) → 0 < d * x → y ≤ d * (x * y)
          beside d x y p = le_trans (le_of_eq (sym (one-mul y))) (rw (← mul_assoc d x y) (mul-le-mul_right y p))

      far : (f : Format) → prec f + (prec f + 2) ≤ low f
      far binary32 = lit≤ tt
      far binary64 = lit≤ tt

      small : e ≤ prec f + 1 → m * 2 ^ e < 2 ^ low f
      small l =
          let grows : 2 ^ prec f * 2 ^ e ≤ 2 ^ low f = rw (← pow-add 2 (prec f) e) (pow_mono {i = prec f + e} (omega (arith, far f))) in
          lt_of_lt_of_le (mul-lt-mul_of_pos_right (rw (← twice_hid f) norm.less_than) (pow_pos e)) grows

  pub root-pattern-of : (w r : ℕ) → b < ones f * hid f → IsWholeRoot (m * 2 ^ root_shift (prec f) e) w r → IsRootPattern f b (((e - root_shift (prec f) e) / 2 + 1) * hid f + (w + 1) / 2)
  root-pattern-of w r fine root =
      let k = (e - root_shift (prec f) e) / 2 in
      let room : k + 3 < ones f = deep (emax f) (prec f) e (b / hid f) ((div-lt_iff_lt-mul (hid-pos f)).1 fine) norm.exponent (two f) (wide f) in
      let w-less = w-lt f m e w r norm.at_least norm.less_than shift-le-exponent root in
      let floor-lt : suc (suc k * hid f + w / 2) < ones f * hid f = lt_of_le_of_lt (below k (hid f) w w-less) (mul-lt-mul_of_pos_right room (hid-pos f)) in
      record {
        finite = lt_of_le_of_lt (over k (hid f) w) floor-lt;
        is =
            root-by-value f (of_bits f b) (count f b) _ (lt_of_le_of_lt zero-le (count-lt f 0 b some))
            (subst (λ (x : ℕ). HasValue (of_bits f x) false (count f b) (2 ^ low f)) (zero-add b) (signed-value f false b fine))
            (subst (λ (x : ℕ). Nearest f false (4 * x) (λ M. M * M * 1) (of_bits f ((k + 1) * hid f + (w + 1) / 2))) number
            (subst (λ (x : ℕ). Nearest f false (4 * (m * 2 ^ e)) (λ M. M * M * 1) (of_bits f x)) (regroup k (hid f) ((w + 1) / 2))
            (halved-nearest f m e w r norm.at_least norm.less_than shift-le-exponent root (lt_of_le_of_lt (le_of_lt (lt-suc_self _)) floor-lt))));
      }
    where
      number : m * 2 ^ e ≡ count f b * 2 ^ low f
      number = norm.same ∙ rw (count-is f b, pow-add 2 (b / hid f - 1) (low f)) (sym (mul_assoc (digits_of (hid f) b) (2 ^ (b / hid f - 1)) (2 ^ low f)))

      regroup : (k h q : ℕ) → 0 + (suc k * h + q) ≡ (k + 1) * h + q
      regroup k h q = omega arith

      wide : (f : Format) → 4 ≤ emax f
      wide binary32 = lit≤ tt
      wide binary64 = lit≤ tt

      deep : (x p e c : ℕ) → c < 2 * x + 1 → e ≤ c - 1 + (x + p - 2) → 2 ≤ p → 4 ≤ x → (e - root_shift p e) / 2 + 3 < 2 * x + 1
      deep x p e c a b d y = omega arith

      below : (k h w : ℕ) → w < 4 * h → suc (suc k * h + w / 2) ≤ (k + 3) * h
      below k h w l = omega arith

      over : (k h w : ℕ) → (k + 1) * h + (w + 1) / 2 ≤ suc (suc k * h + w / 2)
      over k h w = omega arith
