-- Numbers in decimal.
use Rattle.std.specs.Prelude.{ℕ, zero, suc, ◌/◌, ◌%◌, cond, ◌&&◌, List, [], ◌∷◌, ◌++◌, ltb, leb, length, Option, None}
use Rattle.io.specs.Digits.{hex_digit_ascii}
use Rattle.lines.specs.Hex.{number_from}

-- n, which has at most d digits, with no zero in front
unfoldable pub decimal_in : ℕ → ℕ → List ℕ
decimal_in zero n = []
decimal_in (suc d) n =
    let more = decimal_in d (n / 10) ++ (hex_digit_ascii (n % 10) ∷ []) in
    cond (ltb n 10) (hex_digit_ascii n ∷ []) more

-- a number has no more digits than its size and one
unfoldable pub decimal_of : ℕ → List ℕ
unfolding decimal_in
decimal_of n = decimal_in (suc n) n

-- the number that s is in 1 to most digits, which may have zeros in front
unfoldable pub numeral_of : ℕ → List ℕ → Option ℕ
numeral_of most s = cond (ltb 0 (length s) && leb (length s) most) (number_from 10 0 s) None
