-- What an export leaves of what it is lent. The lent answer is 32 numbers of 8 bytes, `struct fulandewu_answer` in C; a field is a place in it.
use Rattle.std.specs.Prelude.{ℕ, ◌≡◌, Bool, true, false, ◌&&◌, ◌||◌, List, [], ◌∷◌, eqb, set}

-- the fields, in an order that never changes
abbrev pub distance_field : ℕ
distance_field = 0

abbrev pub kind_field : ℕ
kind_field = 1

abbrev pub dims_field : ℕ
dims_field = 2

abbrev pub length_field : ℕ
length_field = 3

abbrev pub needed_field : ℕ
needed_field = 4

abbrev pub which_field : ℕ
which_field = 5

abbrev pub nearer_field : ℕ
nearer_field = 6

abbrev pub entry_field : ℕ
entry_field = 7

abbrev pub readings_field : ℕ
readings_field = 8

abbrev pub other_readings_field : ℕ
other_readings_field = 9

abbrev pub start_field : ℕ
start_field = 10

abbrev pub next_field : ℕ
next_field = 11

abbrev pub place_field : ℕ
place_field = 12

abbrev pub found_field : ℕ
found_field = 13

abbrev pub fill_field : ℕ
fill_field = 14

-- these are in use; all other places, from 15 on, are reserved for later exports
abbrev pub fields_in_use : List ℕ
fields_in_use =
    distance_field ∷ kind_field ∷ dims_field ∷ length_field ∷ needed_field ∷ which_field ∷ nearer_field
    ∷ entry_field ∷ readings_field ∷ other_readings_field ∷ start_field ∷ next_field ∷ place_field ∷ found_field ∷ fill_field ∷ []

abbrev pub is_among : List ℕ → ℕ → Bool
is_among [] i = false
is_among (p ∷ ps) i = eqb p i || is_among ps i

abbrev pub in_use : ℕ → Bool
in_use i = is_among fields_in_use i

-- the answer with each of some fields set to its value, the others as they were
abbrev pub set_fields : List (ℕ × ℕ) → List ℕ → List ℕ
set_fields [] before = before
set_fields (f ∷ fs) before = set_fields fs (set before f.0 f.1)

-- a place is not among those of some fields
abbrev pub Unwritten : ℕ → List (ℕ × ℕ) → Type 0
Unwritten i [] = Unit {0}
Unwritten i (f ∷ fs) = (i ≡ f.0 → ⊥) × Unwritten i fs

-- no reserved place is among them
abbrev pub unreserved : List (ℕ × ℕ) → Bool
unreserved [] = true
unreserved (f ∷ fs) = in_use f.0 && unreserved fs

-- the outcome of a call: the number returned, and the answer and the lent buffers afterwards
pub record ExportOutcome : Type 0 where
  pub number : ℕ
  pub answer : List ℕ
  pub buffers : List (List ℕ)

abbrev pub export_outcome : ℕ → List ℕ → List (List ℕ) → ExportOutcome
export_outcome n answer buffers = record { number = n; answer = answer; buffers = buffers }

-- a number is returned, some fields of the answer are written, and the buffers end so
abbrev pub leaves : ℕ → List (ℕ × ℕ) → List ℕ → List (List ℕ) → ExportOutcome
leaves n fs before buffers = export_outcome n (set_fields fs before) buffers
