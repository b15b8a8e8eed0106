-- The reply to a line by its fields: to exactly so many of them, by words, and by bytes in hexadecimal. X is the reply to a malformed line.
use Rattle.std.specs.Prelude.{◌≡◌, ℕ, zero, suc, cond, List, [], ◌∷◌, ◌++◌, bytes_eq, Option, Some, None, MatchOption}
use Rattle.std.specs.Option.{option_map_or}
use Rattle.lines.specs.Text.{word}
use Rattle.lines.specs.Hex.{decoded_of}

abbrev pub malformed : List ℕ
malformed = word "X"

-- what gives a reply for n fields
abbrev pub ReplyTo : ℕ → Type 0
ReplyTo zero = List ℕ
ReplyTo (suc n) = List ℕ → ReplyTo n

-- the reply to a list of exactly n fields; X to fewer or more
unfoldable pub exactly : (n : ℕ) → ReplyTo n → List (List ℕ) → List ℕ
exactly zero reply [] = reply
exactly zero reply (f ∷ fs) = malformed
exactly (suc n) reply [] = malformed
exactly (suc n) reply (f ∷ fs) = exactly n (reply f) fs

-- what a field stands for by a table of words: the first row that has it
abbrev pub first_named : {A : Type 0} → List (List ℕ × A) → List ℕ → Option A
first_named [] field = None
first_named (row ∷ rows) field = cond (bytes_eq field row.0) (Some row.1) (first_named rows field)

-- the reply to the bytes that a field is in hexadecimal; X unless it is whole bytes of two digits each
unfoldable pub from_hex : (List ℕ → List ℕ) → List ℕ → List ℕ
from_hex reply field = option_map_or reply (decoded_of field) malformed

-- what a function promises that puts a reply, if there is one: a malformed line has none, and nothing is put
abbrev pub PutsUnlessMalformed : List ℕ → List ℕ → Option (Unit {0}) → List ℕ → Type 0
PutsUnlessMalformed reply out r out' = MatchOption r ((reply ≡ malformed) × (out' ≡ out)) (λ _. out' ≡ out ++ reply)
