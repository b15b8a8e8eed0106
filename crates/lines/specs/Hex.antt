-- Numbers and bytes in lower-case hexadecimal, the highest digit first.
use Rattle.std.specs.Prelude.{ℕ, ◌+◌, ◌-◌, ◌*◌, ◌/◌, ◌%◌, Bool, cond, ◌&&◌, List, [], ◌∷◌, ltb, leb, eqb, length, Option, Some, None, option_map, option_and_then}
use Rattle.std.specs.Option.{option_map_or}
use Rattle.io.specs.Digits.{hex_digit_ascii}
use Rattle.lines.specs.Text.{byte}

-- whether b is one of the bytes from a to e
abbrev pub among : ℕ → ℕ → ℕ → Bool
among a e b = leb a b && leb b e

-- the value of the digit b: 0 to 9 are 0 to 9, a to f are 10 to 15; none for a byte that is no digit
unfoldable pub digit_of : ℕ → Option ℕ
digit_of b =
    cond (among (byte "0") (byte "9") b) (Some (b - byte "0"))
    (cond (among (byte "a") (byte "f") b) (Some (b - byte "a" + 10))
    None)

-- the number whose digits, each below base, are those of n and then s
unfoldable pub number_from : ℕ → ℕ → List ℕ → Option ℕ
number_from base n [] = Some n
number_from base n (b ∷ s) = option_and_then (λ d. cond (ltb d base) (number_from base (n * base + d) s) None) (digit_of b)

-- the number that s is in exactly width digits
unfoldable pub pattern_of : ℕ → List ℕ → Option ℕ
pattern_of width s = cond (eqb (length s) width) (number_from 16 0 s) None

-- the byte that the digits a and b are, if both are digits
unfoldable pub hex_pair : ℕ → ℕ → Option ℕ
hex_pair a b = option_and_then (λ high. option_map (λ low. high * 16 + low) (digit_of b)) (digit_of a)

-- the bytes that s is decoded to, two digits each, up to the first two that are not both digits, or a lone last one
unfoldable pub hex_bytes : List ℕ → List ℕ
hex_bytes [] = []
hex_bytes (a ∷ []) = []
hex_bytes (a ∷ (b ∷ s)) = option_map_or (λ byte. byte ∷ hex_bytes s) (hex_pair a b) []

-- the bytes that all of s is in hexadecimal, if it is whole bytes of two digits each
unfoldable pub decoded_of : List ℕ → Option (List ℕ)
decoded_of s = cond (eqb (2 * length (hex_bytes s)) (length s)) (Some (hex_bytes s)) None

-- bytes in two digits each
unfoldable pub hex_of : List ℕ → List ℕ
hex_of [] = []
hex_of (b ∷ s) = hex_digit_ascii (b / 16) ∷ (hex_digit_ascii (b % 16) ∷ hex_of s)
