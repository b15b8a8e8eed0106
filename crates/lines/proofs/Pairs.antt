-- Laws of bytes in hexadecimal, `hex_bytes` and `hex_of`: a turn of the loop of each, their lengths, and that one reads back what the other puts.
use Rattle.std.proofs.Common.{◌≡◌, refl, ap, List, [], ◌∷◌, ◌++◌, ℕ, suc, ◌+◌, ◌*◌, ◌/◌, ◌%◌, ◌<◌, ◌≤◌, length, get_or, drop, arith, add-one, drop-cons, Option, Some, None}
use Rattle.std.proofs.Math.ListN.{drop_of_length-le}
use Rattle.std.specs.Option.{option_map_or}
use borrow.Author.Tests.{lt-ltb, le-ltb, le-leb, lt-leb, eq-eqb}
use native.Mathlib.Decide.{dec_lt}
use Rattle.io.specs.Digits.{hex_digit_ascii}
use Rattle.lines.specs.Hex.{digit_of, hex_pair, hex_bytes, decoded_of, hex_of}

-- ---- pairs of digits that are read
-- what two bytes and the rest are decoded to
pub hex_bytes-two : {s : List ℕ} (two rest : List ℕ) → s ≡ two ++ rest → length two ≡ 2 → hex_bytes s ≡ option_map_or (λ b. b ∷ hex_bytes rest) (hex_pair (get_or two 0 0) (get_or two 1 0)) []
unfolding hex_bytes
hex_bytes-two (a ∷ (b ∷ [])) rest e size = rw e refl
hex_bytes-two [] rest e size = absurd (omega arith)
hex_bytes-two (a ∷ []) rest e size = absurd (omega arith)
hex_bytes-two (a ∷ (b ∷ (c ∷ t))) rest e size = absurd (omega arith)

pub hex_bytes-short : (s : List ℕ) → length s < 2 → hex_bytes s ≡ []
unfolding hex_bytes
hex_bytes-short [] h = refl
hex_bytes-short (a ∷ []) h = refl
hex_bytes-short (a ∷ (b ∷ s)) h = absurd (omega arith)

pub length-hex_bytes : (s : List ℕ) → 2 * length (hex_bytes s) ≤ length s
unfolding hex_bytes
length-hex_bytes [] = omega arith
length-hex_bytes (a ∷ []) = omega arith
length-hex_bytes (a ∷ (b ∷ s)) = by (hex_pair a b) (length-hex_bytes s)
  where
    by : (o : Option ℕ) → 2 * length (hex_bytes s) ≤ length s → 2 * length (option_map_or (λ x. x ∷ hex_bytes s) o []) ≤ suc (suc (length s))
    by None h = omega arith
    by (Some x) h = omega arith

-- ---- a byte that is put
pub hex_of-byte : (s : List ℕ) (i : ℕ) → i < length s
    → hex_of (drop i s) ≡ hex_digit_ascii (get_or s i 0 / 16) ∷ (hex_digit_ascii (get_or s i 0 % 16) ∷ hex_of (drop (i + 1) s))
unfolding hex_of
hex_of-byte s i less = rw (add-one, drop-cons s i 0)

pub length-hex_of : (s : List ℕ) → length (hex_of s) ≡ 2 * length s
unfolding hex_of
length-hex_of [] = refl
length-hex_of (b ∷ s) = omega (arith, length-hex_of s)

pub hex_of-append : (s t : List ℕ) → hex_of (s ++ t) ≡ hex_of s ++ hex_of t
unfolding hex_of
hex_of-append [] t = refl
hex_of-append (b ∷ s) t = ap (λ r. hex_digit_ascii (b / 16) ∷ (hex_digit_ascii (b % 16) ∷ r)) (hex_of-append s t)

pub hex_of-end : (s : List ℕ) (i : ℕ) → length s ≤ i → hex_of (drop i s) ≡ []
unfolding hex_of
hex_of-end s i h = rw (drop_of_length-le s h)

pub hex_of-none : (s : List ℕ) → length s ≡ 0 → hex_of s ≡ []
hex_of-none s e = hex_of-end s 0 (omega (arith, e))

-- ---- all of a text that is decoded
pub decoded-whole : (s : List ℕ) {n : ℕ} → n ≡ length (hex_bytes s) → 2 * n ≡ length s → decoded_of s ≡ Some (hex_bytes s)
unfolding decoded_of
decoded-whole s e all = rw (← e, all, eq-eqb (length s) (length s) refl)

-- ---- what is put is read back
digit_glyph : (d : ℕ) → d < 16 → digit_of (hex_digit_ascii d) ≡ Some d
unfolding digit_of
digit_glyph d h = elim (dec_lt d 10) [ yes less ↦ number less | no more ↦ letter (omega (arith, more)) ]
  where
    number : d < 10 → digit_of (hex_digit_ascii d) ≡ Some d
    number less = rw (lt-ltb d 10 less, le-leb 48 (48 + d) (omega arith), le-leb (48 + d) 57 (omega arith)) (ap Some (omega arith))

    letter : 10 ≤ d → digit_of (hex_digit_ascii d) ≡ Some d
    letter more =
        rw (le-ltb d 10 more, le-leb 48 (87 + d) (omega arith), lt-leb (87 + d) 57 (omega arith), le-leb 97 (87 + d) (omega arith), le-leb (87 + d) 102 (omega arith)) (ap Some (omega arith))

pair-glyphs : (b : ℕ) → b < 256 → hex_pair (hex_digit_ascii (b / 16)) (hex_digit_ascii (b % 16)) ≡ Some b
unfolding hex_pair
pair-glyphs b h =
    let high : b / 16 < 16 = omega arith in
    let low : b % 16 < 16 = omega arith in
    rw (digit_glyph (b / 16) high, digit_glyph (b % 16) low) (ap Some (omega arith))

hex_bytes-hex_of : (s : List ℕ) → ((k : ℕ) → get_or s k 0 < 256) → hex_bytes (hex_of s) ≡ s
unfolding hex_bytes hex_of
hex_bytes-hex_of [] h = refl
hex_bytes-hex_of (b ∷ s) h = rw (pair-glyphs b (h 0), hex_bytes-hex_of s (λ k. h (suc k)))
