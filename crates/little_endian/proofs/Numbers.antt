-- The number that w bytes compose and the w bytes that a number has are inverse to each other, and a number is its bytes joined by `|`: by induction on w.
use mathlib.Core.Path.{◌≡◌, refl, sym, ap, ◌∙◌}
use mathlib.Core.List.{List, ◌∷◌, ◌++◌}
use Prim.Native.Nat.{ℕ, zero, suc, ◌+◌, ◌*◌, ◌/◌, ◌%◌, ◌^◌, ◌<◌, ◌≤◌}
use native.Mathlib.Nat.{add-zero, zero-add, add_assoc, add-suc, suc-add, mul-suc, pow-suc, pow-succ', one-le-pow, div-one, div-div-eq-div-mul}
use native.Mathlib.Omega.{arith}
use lib.Arith.{mod-mul, digits_lt}
use lib.Bits.{bit_or, or_shifted_r}
use lib.Pow.{pow-add}
use lib.ListN.{length, get_or, take, drop}
use lib.Seq.{get_or-take, get_or-drop, drop-cons, take-append_seam, drop-append_seam}
use Rattle.little_endian.specs.Bytes.{number_at, bytes_of, AreBytes}

-- ---- only its own bytes count, at any offset: in a part, and in a list with more on either side
number_at-same : (w : ℕ) (s t : List ℕ) (i j : ℕ)
    → ((k : ℕ) → k < w → get_or s (i + k) 0 ≡ get_or t (j + k) 0) → number_at w s i ≡ number_at w t j
unfolding number_at
number_at-same zero s t i j h = refl
number_at-same (suc w) s t i j h =
    let lower = number_at-same w s t i j (λ k l. h k (omega arith)) in
    rw (lower, h w (omega arith))

pub number_at-drop : (w a : ℕ) (s : List ℕ) (i : ℕ) → number_at w (drop a s) i ≡ number_at w s (a + i)
number_at-drop w a s i = number_at-same w (drop a s) s i (a + i) (λ k l. rw (get_or-drop, add_assoc))

pub number_at-take : (w n : ℕ) (s : List ℕ) (i : ℕ) → i + w ≤ n → number_at w (take n s) i ≡ number_at w s i
number_at-take w n s i h = number_at-same w (take n s) s i i (λ k l. get_or-take n s (i + k) 0 (omega arith))

pub number_at-left : (w : ℕ) (s t : List ℕ) (i : ℕ) → i + w ≤ length s → number_at w (s ++ t) i ≡ number_at w s i
number_at-left w s t i h = sym (number_at-take w (length s) (s ++ t) i h) ∙ rw take-append_seam

pub number_at-right : (w : ℕ) (s t : List ℕ) (i : ℕ) → number_at w (s ++ t) (length s + i) ≡ number_at w t i
number_at-right w s t i = sym (number_at-drop w (length s) (s ++ t) i) ∙ rw drop-append_seam

-- ---- the bytes of two halves, the lower first
pub bytes_of-halves : (a b v : ℕ) → bytes_of a (v % 256 ^ a) ++ bytes_of b (v / 256 ^ a) ≡ bytes_of (a + b) v
unfolding bytes_of
bytes_of-halves zero b v = simp (zero-add, div-one)
bytes_of-halves (suc a) b v =
    let low = rw (← pow-suc) at (mod-mul v {m = 256 ^ a} {c = 256} (one-le-pow a 256 (omega arith)) (omega arith)) in
    let first : v % 256 ^ suc a % 256 ≡ v % 256 = omega arith in
    let middle : v % 256 ^ suc a / 256 ≡ v / 256 % 256 ^ a = omega arith in
    let high : v / 256 ^ suc a ≡ v / 256 / 256 ^ a = rw (pow-succ', div-div-eq-div-mul) in
    rw (first, middle, high, suc-add) (ap (λ (l : List ℕ). v % 256 ∷ l) (bytes_of-halves a b (v / 256)))

-- ---- bounds. That a slice holds bytes a proof has as `λ k. (c.shared-slice-known.given k).fits`
pub number_at-lt : (w : ℕ) (s : List ℕ) (i : ℕ) → AreBytes s → number_at w s i < 256 ^ w
unfolding number_at
number_at-lt zero s i h = omega arith
number_at-lt (suc w) s i h = rw pow-suc (omega (arith, digits_lt (h (i + w)) (number_at-lt w s i h)))

-- ---- a number is joined from its bytes by `|`: the bits of each stand above those of the bytes before it
pub join_first : (s : List ℕ) (i b : ℕ) → b ≡ get_or s (i + 0) 0 → b ≡ number_at 1 s i
unfolding number_at
join_first s i b e = omega arith

pow-256 : (w : ℕ) → 256 ^ w ≡ 2 ^ (8 * w)
pow-256 zero = refl
pow-256 (suc w) = rw (pow-suc 256 w, mul-suc 8 w, pow-add 2 (8 * w) 8, pow-256 w)

pub join-next : (w : ℕ) (s : List ℕ) (i m b : ℕ) → AreBytes s → m ≡ number_at w s i → b ≡ get_or s (i + w) 0 → bit_or m (b * 256 ^ w) ≡ number_at (suc w) s i
unfolding number_at
join-next w s i m b h lower e =
    let below : m < 2 ^ (8 * w) = rw (← (pow-256 w), lower) (number_at-lt w s i h) in
    rw (← lower, ← e, pow-256) (omega (arith, or_shifted_r b (8 * w) m below))

pub length-bytes_of : (w v : ℕ) → length (bytes_of w v) ≡ w
unfolding bytes_of
length-bytes_of zero v = refl
length-bytes_of (suc w) v = ap suc (length-bytes_of w (v / 256))

bytes_of-bytes : (w v : ℕ) → AreBytes (bytes_of w v)
unfolding bytes_of
bytes_of-bytes zero v k = omega arith
bytes_of-bytes (suc w) v zero = omega arith
bytes_of-bytes (suc w) v (suc k) = bytes_of-bytes w (v / 256) k

-- ---- a number's bytes compose it, and the bytes of the number at an offset are those that stand there
number_at-front : (w : ℕ) (s : List ℕ) (i : ℕ) → number_at (suc w) s i ≡ get_or s i 0 + 256 * number_at w s (suc i)
unfolding number_at
number_at-front zero s i = simp add-zero (omega arith)
number_at-front (suc w) s i =
    let lower = number_at-front w s i in
    rw (pow-suc, suc-add, add-suc) (omega arith)

pub number_at-bytes_of : (w v : ℕ) → v < 256 ^ w → number_at w (bytes_of w v) 0 ≡ v
unfolding number_at bytes_of
number_at-bytes_of zero v h = omega arith
number_at-bytes_of (suc w) v h =
    let below : v / 256 < 256 ^ w = omega (arith, rw pow-suc at h) in
    let higher = sym (number_at-drop w 1 (bytes_of (suc w) v) 0) ∙ number_at-bytes_of w (v / 256) below in
    rw (number_at-front, higher) (omega arith)

pub bytes_of-number_at : (w : ℕ) (s : List ℕ) (i : ℕ) → AreBytes s → i + w ≤ length s
    → bytes_of w (number_at w s i) ≡ take w (drop i s)
unfolding bytes_of
bytes_of-number_at zero s i h l = refl
bytes_of-number_at (suc w) s i h l =
    let v = number_at (suc w) s i in
    let front = number_at-front w s i in
    let first : v % 256 ≡ get_or s i 0 = omega (arith, h i) in
    let higher : v / 256 ≡ number_at w s (suc i) = omega (arith, h i) in
    let here : i < length s = omega arith in
    let rest = bytes_of-number_at w s (suc i) h (omega arith) in
    rw (first, higher, drop-cons s i 0 here) (ap (λ (l : List ℕ). get_or s i 0 ∷ l) rest)
