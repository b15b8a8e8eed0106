-- A format's patterns, without their sign, from 0 to an infinity's: `count` is strictly increasing, and each value of the format has exactly one pattern. By a pattern's exponent and digits, for both formats at once.
use Rattle.std.proofs.Common.{◌≡◌, ℕ, zero, suc, ◌+◌, ◌-◌, ◌*◌, ◌/◌, ◌%◌, ◌^◌, ◌<◌, ◌≤◌, Bool, true, false, cond, not, T, eqb, leb, ◌⊎◌, ℤ, sym, refl, ap, ◌∙◌, inl, inr, le_trans, le_of_eq, le_refl, lt_of_lt_of_le, le_of_suc-le-suc, le-add_right, lt_of_le_of_lt, add-zero, le_of_lt, add_assoc, lt_irrefl, mul-le-mul_right, mod-lt, mod-eq_of_lt, mul_assoc, lt-suc_self, mul_comm, div-lt_iff_lt-mul, add_comm, eq-or-lt_of_le, mul-lt-mul_of_pos_right, mul-pos, lt_of_not-le, div-add-mod', zero-add, zero-mul, mul_right_comm, not-le_of_lt, mul-div_cancel, arith, lit≤, le→leb, eqb→eq, pow_pos, pow-add}
use native.Mathlib.Nat.{add-mod_left, mul-mod_left, mul-add-mod_self_left, pow-succ', eq_of_mul-eq-mul_right}
use native.Mathlib.Decide.{dec_lt, le_ind}
use lib.Dec.{eqb-suc-zero, not_T}
use lib.Arith.{digits_div, digits_mod, lt→nleb}
use lib.Ieee.{Float, nan, inf, fin, Format, binary32, binary64, prec, emax, low, up, down, size, hid, ones, top, of_fields, of_bits, to_bits, fits, is_nan}
use lib.Ieee.Bits.{of_bits-fits, of_bits-to_bits, to_bits-of_bits, is_true, is_false}
use lib.Ieee.Digits.{size-le}
use lib.Ieee.Fits.{two, down_pos, kept-lt}
use lib.Ieee.Exact.{HasValue, odd_sign}
use Rattle.float_laws.proofs.Value.{canonical}
use Rattle.rounding.specs.Nearest.{HasSize}
use Rattle.rounding.specs.Inner.Pick.{digits_of, count}

-- ---- the numbers of a format
pub hid-pos : (f : Format) → 0 < hid f
hid-pos f = pow_pos (prec f - 1)

pub twice_hid : (f : Format) → 2 * hid f ≡ 2 ^ prec f
twice_hid f = let e : suc (prec f - 1) ≡ prec f = omega (arith, two f) in sym (pow-succ' 2 (prec f - 1)) ∙ rw e

-- the exponent's field has an even weight, so a pattern is even where its digits are
pub hid-even : (f : Format) → hid f ≡ 2 * 2 ^ (prec f - 2)
hid-even f = let e : prec f - 1 ≡ suc (prec f - 2) = omega (arith, two f) in rw e (pow-succ' 2 (prec f - 2))

emax-pos : (f : Format) → 1 ≤ emax f
emax-pos binary32 = lit≤ tt
emax-pos binary64 = lit≤ tt

pred-suc : (x : ℕ) → suc x - 1 ≡ x
pred-suc x = omega arith

-- ---- the pattern k * hid + q stands for q * 2 ^ k, where k is 0 or q has all the digits
abbrev pub Full : ℕ → ℕ → ℕ → Type 0
Full h k q = (k ≡ 0) ⊎ (h ≤ q)

abbrev pub value : ℕ → ℕ → ℕ
value h b = digits_of h b * 2 ^ (b / h - 1)

-- with the field x + 1 and the digits t
value-suc : (h x t : ℕ) → t < h → value h (suc x * h + t) ≡ (h + t) * 2 ^ x
value-suc h x t l = rw (digits_div (suc x) l, digits_mod (suc x) l, eqb-suc-zero x, add_comm t h, pred-suc x)

-- with the field 0
value-zero : (h t : ℕ) → t < h → value h (0 * h + t) ≡ t * 1
value-zero h t l = rw (digits_div 0 l, digits_mod 0 l, add-zero t)

value-full : (h k q : ℕ) → 0 < h → h ≤ q → q ≤ 2 * h → value h (k * h + q) ≡ q * 2 ^ k
value-full h k q H a b = go (eq-or-lt_of_le b)
  where
    go : (q ≡ 2 * h) ⊎ (q < 2 * h) → value h (k * h + q) ≡ q * 2 ^ k
    go (inl e) =
        let carried : k * h + q ≡ suc (suc k) * h + 0 = omega arith in
        rw carried (value-suc h (suc k) 0 H ∙ rw (pow-succ' 2 k, e) (omega arith))
    go (inr l) =
        let apart : k * h + q ≡ suc k * h + (q - h) = omega arith in
        let join : h + (q - h) ≡ q = omega arith in
        rw apart (value-suc h k (q - h) (omega arith) ∙ rw join)

value-at : (h k q : ℕ) → 0 < h → Full h k q → q ≤ 2 * h → value h (k * h + q) ≡ q * 2 ^ k
value-at h k q H (inr a) b = value-full h k q H a b
value-at h k q H (inl z) b = go (dec_lt q h)
  where
    go : Dec (q < h) → value h (k * h + q) ≡ q * 2 ^ k
    go (yes l) = rw z (value-zero h q l)
    go (no n) = value-full h k q H (le_of_suc-le-suc (lt_of_not-le n)) b

pub count-is : (f : Format) (b : ℕ) → count f b ≡ value (hid f) b
unfolding count
count-is f b = refl

pub count_at : (f : Format) (k q : ℕ) → Full (hid f) k q → q ≤ 2 * hid f → count f (k * hid f + q) ≡ q * 2 ^ k
count_at f k q full most = count-is f (k * hid f + q) ∙ value-at (hid f) k q (hid-pos f) full most

-- an infinity's pattern
pub count-top : (f : Format) → count f (ones f * hid f) ≡ 2 ^ (low f + suc (emax f))
count-top f =
    let k = 2 * emax f in
    let split : ones f * hid f ≡ k * hid f + hid f = one_more k (hid f) in
    let exponent : prec f - 1 + k ≡ low f + suc (emax f) = omega (arith, two f, emax-pos f) in
    rw split (count_at f k (hid f) (inr (le_refl (hid f))) (omega arith) ∙ sym (pow-add 2 (prec f - 1) k) ∙ rw exponent)
  where
    one_more : (k h : ℕ) → (k + 1) * h ≡ k * h + h
    one_more k h = omega arith

-- ---- a pattern's digits
pub digits_lt : (h b : ℕ) → 0 < h → digits_of h b < 2 * h
digits_lt h b p = go (eqb (b / h) 0) (mod-lt b p)
  where
    go : (x : Bool) → b % h < h → b % h + cond x 0 h < 2 * h
    go true l = omega arith
    go false l = omega arith

pub digits-pos : (h b : ℕ) → 0 < h → 0 < b → 0 < digits_of h b
digits-pos h b p q = go (eqb (b / h) 0) (eqb→eq (b / h) 0)
  where
    go : (x : Bool) → (T x → b / h ≡ 0) → 0 < b % h + cond x 0 h
    go true z = let e : 0 * h + b % h ≡ b = rw (z tt) at (div-add-mod' b h) in omega arith
    go false z = omega arith

-- ---- patterns are ordered as their values
-- every pattern is a k * hid + q of this form, with q below 2 * hid
pub record Decomposed (h b : ℕ) : Type 0 where
  pub k : ℕ
  pub q : ℕ
  pub is : b ≡ k * h + q
  pub full : Full h k q
  pub less : q < 2 * h

pub decompose : (h b : ℕ) → 0 < h → Decomposed h b
decompose h b H = go (b / h) (b % h) (div-add-mod' b h) (mod-lt b H)
  where
    go : (x t : ℕ) → x * h + t ≡ b → t < h → Decomposed h b
    go zero t e l = record { k = 0; q = t; is = sym e; full = inl refl; less = omega arith }
    go (suc x) t e l = record { k = x; q = h + t; is = omega arith; full = inr (le-add_right h t); less = omega arith }

pub full-suc : (h k q : ℕ) → Full h k q → Full h k (suc q)
full-suc h k q (inl z) = inl z
full-suc h k q (inr a) = inr (le_trans a (le_of_lt (lt-suc_self q)))

pub count-suc : (f : Format) (b : ℕ) → count f b < count f (suc b)
count-suc f b =
    let p = decompose (hid f) b (hid-pos f) in
    let here : count f b ≡ p.q * 2 ^ p.k = ap (count f) p.is ∙ count_at f p.k p.q p.full (le_of_lt p.less) in
    let up : suc b ≡ p.k * hid f + suc p.q = omega (arith, p.is) in
    let next : count f (suc b) ≡ suc p.q * 2 ^ p.k = ap (count f) up ∙ count_at f p.k (suc p.q) (full-suc (hid f) p.k p.q p.full) p.less in
    rw (here, next) (mul-lt-mul_of_pos_right (lt-suc_self p.q) (pow_pos p.k))

pub count-lt : (f : Format) (a b : ℕ) → a < b → count f a < count f b
count-lt f a b = le_ind (λ (x : ℕ). count f a < count f x) (count-suc f a) (λ m h l. lt_of_lt_of_le l (le_of_lt (count-suc f m))) b

pub count-le : (f : Format) (a b : ℕ) → a ≤ b → count f a ≤ count f b
count-le f a b h = go (eq-or-lt_of_le h)
  where
    go : (a ≡ b) ⊎ (a < b) → count f a ≤ count f b
    go (inl e) = le_of_eq (ap (count f) e)
    go (inr l) = le_of_lt (count-lt f a b l)

-- the other way: the order of two values is that of their patterns
pub lt-of-count-lt : (f : Format) (a b : ℕ) → count f a < count f b → a < b
lt-of-count-lt f a b l = lt_of_not-le (λ h. not-le_of_lt l (count-le f b a h))

-- ---- what a pattern stands for, with a sign
abbrev pub signed : Format → Bool → ℕ → Float
signed f s b = of_bits f (cond s (top f) 0 + b)

of_bits-fields : (f : Format) (b : ℕ) → of_bits f b ≡ of_fields f (leb (top f) b) (b % top f / hid f) (b % hid f)
unfolding of_bits
of_bits-fields f b = refl

below_top : (f : Format) (b : ℕ) → b ≤ ones f * hid f → b < top f
below_top f b h = rw (mul_comm (hid f) (suc (ones f))) (lt_of_le_of_lt h (mul-lt-mul_of_pos_right (lt-suc_self (ones f)) (hid-pos f)))

signed-fields : (f : Format) (s : Bool) (b : ℕ) → b ≤ ones f * hid f → signed f s b ≡ of_fields f s (b / hid f) (b % hid f)
signed-fields f true b h =
    let size : b % top f ≡ b = mod-eq_of_lt (below_top f b h) in
    of_bits-fields f (top f + b)
    ∙ rw (is_true (leb (top f) (top f + b)) (le→leb (top f) (top f + b) (le-add_right (top f) b)), add-mod_left (top f) b, size, mul-add-mod_self_left (hid f) (suc (ones f)) b)
signed-fields f false b h =
    let size : b % top f ≡ b = mod-eq_of_lt (below_top f b h) in
    of_bits-fields f (0 + b) ∙ rw (zero-add b, is_false (leb (top f) b) (lt→nleb (top f) b (below_top f b h)), size)

pub signed-infinity : (f : Format) (s : Bool) → signed f s (ones f * hid f) ≡ inf s
unfolding of_fields
signed-infinity f s = signed-fields f s (ones f * hid f) (le_refl (ones f * hid f)) ∙ rw (mul-div_cancel (ones f) (hid-pos f), mul-mod_left (ones f) (hid f)) (top-fields f)
  where
    top-fields : (f : Format) → of_fields f s (ones f) 0 ≡ inf s
    top-fields binary32 = refl
    top-fields binary64 = refl

fields_value : (f : Format) (s : Bool) (x t : ℕ) → x < ones f → HasValue (of_fields f s x t) s ((t + cond (eqb x 0) 0 (hid f)) * 2 ^ (x - 1)) (2 ^ low f)
unfolding of_fields
fields_value f s zero t h = rw (add-zero t) (odd_sign (prec f) s t 0 (low f))
fields_value f s (suc x) t h =
    let below : T (not (eqb (suc x) (ones f))) = not_T (eqb (suc x) (ones f)) (λ z. lt_irrefl (ones f) (rw (eqb→eq (suc x) (ones f) z) at h)) in
    rw (is_false (eqb (suc x) (ones f)) below, eqb-suc-zero x, add_comm t (hid f), pred-suc x) (odd_sign (prec f) s (hid f + t) x (low f))

pub signed-value : (f : Format) (s : Bool) (b : ℕ) → b < ones f * hid f → HasValue (signed f s b) s (count f b) (2 ^ low f)
signed-value f s b h = rw (count-is f b, signed-fields f s b (le_of_lt h)) (fields_value f s (b / hid f) (b % hid f) ((div-lt_iff_lt-mul (hid-pos f)).1 h))

value-not-nan : (x : Float) (s : Bool) (a c : ℕ) → HasValue x s a c → T (not (is_nan x))
unfolding is_nan
value-not-nan nan s a c v = absurd v
value-not-nan (inf t) s a c v = tt
value-not-nan (fin t m e) s a c v = tt

-- a pattern up to an infinity's has the size that it counts
size-of-value : (f : Format) (s : Bool) (x : Float) (Z : ℕ) → T (fits f x) → HasValue x s Z (2 ^ low f) → HasSize f s x Z
size-of-value f s nan Z t v = v
size-of-value f s (inf u) Z t v = absurd v
size-of-value f s (fin u m e) Z t v = (t, v.0, v.1)

pub signed-size : (f : Format) (s : Bool) (b : ℕ) → b ≤ ones f * hid f → HasSize f s (signed f s b) (count f b)
signed-size f s b h = go (eq-or-lt_of_le h)
  where
    go : (b ≡ ones f * hid f) ⊎ (b < ones f * hid f) → HasSize f s (signed f s b) (count f b)
    go (inl e) = rw (e, signed-infinity f s) (refl, count-top f)
    go (inr l) = size-of-value f s (signed f s b) (count f b) (of_bits-fits f (cond s (top f) 0 + b)) (signed-value f s b l)

-- ---- the pattern of a value
pub record Pattern (f : Format) (s : Bool) (z : Float) (Z : ℕ) : Type 0 where
  pub b : ℕ
  pub within : b ≤ ones f * hid f
  pub is : signed f s b ≡ z
  pub counts : count f b ≡ Z

-- the pattern that `to_bits` writes for a finite value, without its sign
abbrev finite_pattern : Format → ℕ → ℤ → ℕ
finite_pattern f m e = let n = m * up e * 2 ^ low f / down e in (size n - prec f) * hid f + n / 2 ^ (size n - prec f)

to_bits-fin : (f : Format) (s : Bool) (m : ℕ) (e : ℤ) → to_bits f (fin s m e) ≡ cond s (top f) 0 + finite_pattern f m e
unfolding to_bits
to_bits-fin f s m e = add_assoc (cond s (top f) 0) _ _

-- it is below an infinity's
finite_pattern-lt : (f : Format) (m : ℕ) (e : ℤ) → m * up e < 2 ^ suc (emax f) * down e → finite_pattern f m e < ones f * hid f
finite_pattern-lt f m e high =
    let n = m * up e * 2 ^ low f / down e in
    let k = size n - prec f in
    let scaled : m * up e * 2 ^ low f < 2 ^ (suc (emax f) + low f) * down e = rw (pow-add 2 (suc (emax f)) (low f), mul_right_comm (2 ^ suc (emax f)) (2 ^ low f) (down e)) (mul-lt-mul_of_pos_right high (pow_pos (low f))) in
    let digits : size n ≤ suc (emax f) + low f = size-le n (suc (emax f) + low f) ((div-lt_iff_lt-mul (down_pos e)).1 scaled) in
    let room : k + 2 ≤ ones f = omega (arith, two f, emax-pos f) in
    let few : n / 2 ^ k < 2 * hid f = rw (twice_hid f) (kept-lt (prec f) n) in
    lt_of_lt_of_le (small k (hid f) (n / 2 ^ k) few) (mul-le-mul_right (hid f) room)
  where
    small : (k h q : ℕ) → q < 2 * h → k * h + q < (k + 2) * h
    small k h q a = omega arith

fits_lt : (f : Format) (s : Bool) (m : ℕ) (e : ℤ) → T (fits f (fin s m e)) → m * up e < 2 ^ suc (emax f) * down e
fits_lt f s zero e t = rw (zero-mul (up e)) (mul-pos (pow_pos (suc (emax f))) (down_pos e))
fits_lt f s (suc m) e t = (canonical f s m e t).high

-- so a finite value above zero has a pattern below an infinity's
pub to_bits_lt : (f : Format) (m : ℕ) (e : ℤ) → T (fits f (fin false m e)) → to_bits f (fin false m e) < ones f * hid f
to_bits_lt f m e t = rw (to_bits-fin f false m e, zero-add (finite_pattern f m e)) (finite_pattern-lt f m e (fits_lt f false m e t))

pub pattern-of : (f : Format) (s : Bool) (z : Float) (Z : ℕ) → HasSize f s z Z → Pattern f s z Z
pattern-of f s nan Z v = absurd v
pattern-of f s (inf u) Z v = record { b = ones f * hid f; within = le_refl (ones f * hid f); is = signed-infinity f s ∙ ap inf (sym v.0); counts = count-top f ∙ sym v.1 }
pattern-of f s (fin u m e) Z v =
    let l = finite_pattern-lt f m e (fits_lt f u m e v.0) in
    let is : signed f s (finite_pattern f m e) ≡ fin u m e = rw (← v.1, ← to_bits-fin f u m e) (of_bits-to_bits f (fin u m e) v.0) in
    let w : HasValue (fin u m e) s (count f (finite_pattern f m e)) (2 ^ low f) = rw is at (signed-value f s (finite_pattern f m e) l) in
    record { b = finite_pattern f m e; within = le_of_lt l; is = is; counts = eq_of_mul-eq-mul_right (down e) (down_pos e) (count f (finite_pattern f m e)) Z (sym w.1 ∙ v.2) }

-- ---- a value is even where its pattern is
signed-not-nan : (f : Format) (s : Bool) (b : ℕ) → b ≤ ones f * hid f → T (not (is_nan (signed f s b)))
unfolding is_nan
signed-not-nan f s b h = go (eq-or-lt_of_le h)
  where
    go : (b ≡ ones f * hid f) ⊎ (b < ones f * hid f) → T (not (is_nan (signed f s b)))
    go (inl e) = rw (e, signed-infinity f s) tt
    go (inr l) = value-not-nan (signed f s b) s (count f b) (2 ^ low f) (signed-value f s b l)

pub to_bits-signed : (f : Format) (s : Bool) (b : ℕ) → b ≤ ones f * hid f → to_bits f (signed f s b) ≡ cond s (top f) 0 + b
to_bits-signed f s b h = to_bits-of_bits f (cond s (top f) 0 + b) (small s (top f) (below_top f b h)) (signed-not-nan f s b h)
  where
    small : (s : Bool) (t : ℕ) → b < t → cond s t 0 + b < 2 * t
    small true t l = omega arith
    small false t l = omega arith

pub signed-parity : (f : Format) (s : Bool) (b : ℕ) → b ≤ ones f * hid f → to_bits f (signed f s b) % 2 ≡ b % 2
signed-parity f s b h = rw (to_bits-signed f s b h) (go s)
  where
    go : (s : Bool) → (cond s (top f) 0 + b) % 2 ≡ b % 2
    go true = rw (hid-even f, mul_assoc 2 (2 ^ (prec f - 2)) (suc (ones f))) (mul-add-mod_self_left 2 (2 ^ (prec f - 2) * suc (ones f)) b)
    go false = rw (zero-add b)
