-- Files and buffers with what is answered for them, bad ones first: one table each, and one statement about all of it, which antt computes.
use Rattle.std.specs.Prelude.{◌≡◌, refl, List, [], ◌∷◌, ◌++◌, map, ℕ, ◌-◌, ◌^◌, replicate, take, Option, None, Some, Result, Ok, Err}
use Rattle.std.specs.Float.Ieee.{of_int, to_bits}
use Rattle.little_endian.specs.Bytes.{number_at, bytes_of, put}
use Rattle.vector_types.specs.Search.{first_from}
use Rattle.vector_types.specs.Layout.{named_kind, by_byte, length_before_type, body_fits, layout_row}
use Rattle.vector_types.specs.Read.{read_of, refusals, shown}
use Rattle.vector_types.specs.Parts.{body_of}
use Rattle.convert_parts.specs.Pieces.{pieces}
use Rattle.vecs.specs.Vecs.{vector_of, vecs_refusals, vecs_answer_by, vector_at, elements_at, bvecs_of, VecsOutcome, vecs_leaving, bvecs_outcome}
use Rattle.vecs.specs.Append.{append_of, AppendOutcome, append_leaving, append_outcome}
use Rattle.vector_types.specs.declared.Refusal.{Refusal}
use Rattle.vector_types.specs.declared.Refusal.TheVariants.{TypeByteUnknown, BodyLengthUnfit, DimsOverLimit, KindsDiffer, OutputTooShort, FileEndsInside}
use Rattle.vecs.specs.declared.Found.{Found}

-- f32: 1.0 and 2.0
abbrev pub one32 : List ℕ
one32 = 0 ∷ 0 ∷ 0x80 ∷ 0x3f ∷ []

abbrev pub two32 : List ℕ
two32 = 0 ∷ 0 ∷ 0 ∷ 0x40 ∷ []

-- a count of one byte's size
abbrev pub counted : ℕ → List ℕ
counted n = n ∷ 0 ∷ 0 ∷ 0 ∷ []

-- two vectors: 1.0, and 2.0 with 1.0
abbrev pub two_vectors : List ℕ
two_vectors = counted 1 ++ one32 ++ counted 2 ++ two32 ++ one32

-- what a place answers
abbrev pub Answer : Type 0
Answer = Result (Option Found) Refusal

abbrev pub ended : Answer
ended = Ok None

abbrev pub inside : ℕ → Answer
inside place = Err (FileEndsInside place)

abbrev pub over_limit : Answer
over_limit = Err DimsOverLimit

abbrev pub vector : ℕ → ℕ → ℕ → Answer
vector w place d = Ok (Some (vector_of w place d))

-- ---- fvecs: a file, a place, what stands there, and its elements
pub record Example : Type 0 where
  pub file : List ℕ
  pub place : ℕ
  pub answer : Answer
  pub elements : List ℕ

abbrev pub answers : List ℕ → ℕ → Answer → Example
answers file place r = record { file = file; place = place; answer = r; elements = [] }

abbrev pub shows : List ℕ → ℕ → ℕ → List ℕ → Example
shows file place d elements = record { file = file; place = place; answer = vector 4 place d; elements = elements }

abbrev pub reading : List Example
reading =
    -- no file; one, two and three bytes of a count
    answers [] 0 ended
    ∷ answers (1 ∷ []) 0 (inside 0)
    ∷ answers (1 ∷ 0 ∷ []) 0 (inside 0)
    ∷ answers (1 ∷ 0 ∷ 0 ∷ []) 0 (inside 0)
    -- a count with nothing after it, and elements one byte short
    ∷ answers (counted 1) 0 (inside 0)
    ∷ answers (counted 1 ++ take 3 one32) 0 (inside 0)
    -- the second vector is cut: the first is shown, and 19 names the place of the second
    ∷ shows (take 19 two_vectors) 0 1 one32
    ∷ answers (take 19 two_vectors) 8 (inside 8)
    ∷ answers (take 11 two_vectors) 8 (inside 8)
    -- a count of 65,536 is no refusal of its own; 65,537, 80000000 and ffffffff are, whatever follows
    ∷ answers (0 ∷ 0 ∷ 1 ∷ 0 ∷ []) 0 (inside 0)
    ∷ answers (1 ∷ 0 ∷ 1 ∷ 0 ∷ []) 0 over_limit
    ∷ answers (0 ∷ 0 ∷ 0 ∷ 0x80 ∷ []) 0 over_limit
    ∷ answers (0xff ∷ 0xff ∷ 0xff ∷ 0xff ∷ []) 0 over_limit
    ∷ answers (0xff ∷ 0xff ∷ 0xff ∷ 0xff ∷ one32) 0 over_limit
    ∷ answers (counted 1 ++ one32 ++ (0 ∷ 0 ∷ 0 ∷ 0x80 ∷ [])) 8 over_limit
    -- no element
    ∷ shows (counted 0) 0 0 []
    ∷ shows (counted 0 ++ counted 1 ++ one32) 4 1 one32
    -- both vectors; places at, past and far past the end
    ∷ shows two_vectors 0 1 one32
    ∷ shows two_vectors 8 2 (two32 ++ one32)
    ∷ answers two_vectors 20 ended
    ∷ answers two_vectors 21 ended
    ∷ answers two_vectors (2 ^ 64 - 1) ended
    -- a place inside a vector is taken as given: 1.0 as a count
    ∷ answers two_vectors 4 over_limit
    ∷ []

pub reading-holds :
    (map (λ (e : Example). vector_at 4 e.file e.place) reading ≡ map (λ (e : Example). e.answer) reading)
    × (map (λ (e : Example). elements_at 4 e.file e.place) reading ≡ map (λ (e : Example). e.elements) reading)
unfolding vector_at elements_at vecs_answer_by vecs_refusals number_at
reading-holds = (refl, refl)

-- ---- bvecs: a file, a place, and the outcome for a buffer of 9 bytes
pub record ByteExample : Type 0 where
  pub file : List ℕ
  pub place : ℕ
  pub outcome : VecsOutcome

abbrev pub room : List ℕ
room = replicate 9 0xee

abbrev pub leaves_floats : List ℕ → ℕ → Answer → List ℕ → ByteExample
leaves_floats file place r out = record { file = file; place = place; outcome = vecs_leaving r out }

abbrev pub keeps_room : List ℕ → ℕ → Answer → ByteExample
keeps_room file place r = leaves_floats file place r room

-- 0, 1, 2 and 255; two elements fill eight bytes, three need twelve
abbrev pub bytewise : List ByteExample
bytewise =
    keeps_room [] 0 ended
    ∷ keeps_room (1 ∷ 0 ∷ 0 ∷ []) 0 (inside 0)
    ∷ keeps_room (counted 1) 0 (inside 0)
    ∷ keeps_room (counted 4 ++ (7 ∷ 7 ∷ 7 ∷ [])) 0 (inside 0)
    ∷ keeps_room (1 ∷ 0 ∷ 1 ∷ 0 ∷ []) 0 over_limit
    ∷ keeps_room (0xff ∷ 0xff ∷ 0xff ∷ 0xff ∷ []) 0 over_limit
    ∷ leaves_floats (counted 2 ++ (1 ∷ 2 ∷ [])) 0 (vector 1 0 2) (one32 ++ two32 ++ (0xee ∷ []))
    ∷ leaves_floats (counted 0 ++ counted 2 ++ (0 ∷ 255 ∷ [])) 4 (vector 1 4 2) (replicate 4 0 ++ (0 ∷ 0 ∷ 0x7f ∷ 0x43 ∷ 0xee ∷ []))
    ∷ leaves_floats (counted 0) 0 (vector 1 0 0) room
    ∷ keeps_room (counted 3 ++ (1 ∷ 2 ∷ 3 ∷ [])) 0 (Err (OutputTooShort 12))
    ∷ keeps_room (counted 1 ++ (9 ∷ [])) 5 ended
    ∷ keeps_room (counted 1 ++ (9 ∷ [])) (2 ^ 64 - 1) ended
    ∷ []

pub bytewise-holds : map (λ (e : ByteExample). bvecs_outcome e.file e.place room) bytewise ≡ map (λ (e : ByteExample). e.outcome) bytewise
unfolding bvecs_outcome bvecs_of vector_at elements_at vecs_answer_by vecs_refusals number_at pieces bytes_of of_int to_bits
bytewise-holds = refl

-- ---- a blob, the fill of a buffer of 9 bytes, and the outcome
pub record AppendExample : Type 0 where
  pub blob : List ℕ
  pub fill : ℕ
  pub outcome : AppendOutcome

abbrev pub appends : List ℕ → ℕ → ℕ → List ℕ → AppendExample
appends blob fill filled out = record { blob = blob; fill = fill; outcome = append_leaving (Ok filled) out }

abbrev pub refuses : List ℕ → ℕ → Refusal → AppendExample
refuses blob fill r = record { blob = blob; fill = fill; outcome = append_leaving (Err r) room }

abbrev pub appending : List AppendExample
appending =
    appends one32 0 8 (counted 1 ++ one32 ++ (0xee ∷ []))
    -- with a type byte; behind a fill; no element
    ∷ appends (one32 ++ (1 ∷ [])) 1 9 (0xee ∷ counted 1 ++ one32)
    ∷ appends [] 5 9 (replicate 5 0xee ++ counted 0)
    -- the reader's refusals; another kind, before the room is looked at
    ∷ refuses (7 ∷ []) 0 TypeByteUnknown
    ∷ refuses (0 ∷ 0 ∷ []) 0 BodyLengthUnfit
    ∷ refuses (2 ∷ []) 0 KindsDiffer
    ∷ refuses (2 ∷ []) 9 KindsDiffer
    -- one byte short; fills at, past and far past the end: the need is the same
    ∷ refuses one32 2 (OutputTooShort 8)
    ∷ refuses one32 9 (OutputTooShort 8)
    ∷ refuses one32 10 (OutputTooShort 8)
    ∷ refuses one32 (2 ^ 64 - 1) (OutputTooShort 8)
    ∷ refuses (one32 ++ two32) 0 (OutputTooShort 12)
    ∷ refuses [] 6 (OutputTooShort 4)
    ∷ []

pub appending-holds : map (λ (e : AppendExample). append_outcome e.blob room e.fill) appending ≡ map (λ (e : AppendExample). e.outcome) appending
unfolding append_outcome append_of read_of body_of named_kind by_byte length_before_type body_fits refusals shown first_from number_at layout_row put bytes_of
appending-holds = refl
