-- Views, refusals, the reader's answers, and the first of several refusals that is given.
use Rattle.std.specs.Prelude.{ℕ, ◌/◌, Bool, cond, ◌&&◌, List, [], ◌∷◌, ltb, Option, None, Some, Result, Ok, Err}
use Rattle.vector_types.specs.Search.{first_index, any_index}
use Rattle.vector_types.specs.declared.VectorType.{VectorType}
use Rattle.vector_types.specs.declared.VectorType.TheVariants.{Float32Sparse}
use Rattle.vector_types.specs.declared.KindError.{KindError}
use Rattle.vector_types.specs.declared.KindError.TheVariants.{Unsupported, Unknown}
use Rattle.vector_types.specs.declared.Dims.{Dims}
use Rattle.vector_types.specs.declared.Readings.{Readings}
use Rattle.vector_types.specs.declared.View.{View}
use Rattle.vector_types.specs.declared.Detail.{Detail}
use Rattle.vector_types.specs.declared.Detail.TheVariants.{Nothing, Needs, Starts, Entry}
use Rattle.vector_types.specs.declared.Refusal.{Refusal}
use Rattle.vector_types.specs.declared.Refusal.TheVariants.{LengthOverLimit, TypeByte5Or6, TypeByteUnknown, NoTrailingCount, TrailingCountTooLarge, TrailingBitsTooFew, BodyLengthUnfit, IndexNotBelowDims, DimsOverLimit, SparseOrder, UnusedBitSet, DimsDiffer, KindsDiffer, L2OfFloat1Bit, OutputTooShort, WriterDims0, ScratchTooShort, BothDistancesNan, FileEndsInside}

abbrev pub dims : ℕ → Dims
dims d = record { 0 = d }

abbrev pub readings : ℕ → Readings
readings n = record { 0 = n }

-- how many readings a vector of d elements holds whose body has m bytes: of a sparse one the entries, repeats and stored zeros too; else the elements
abbrev pub readings_of : VectorType → ℕ → ℕ → ℕ
readings_of Float32Sparse d m = m / 8
readings_of _ d m = d

-- a view of kind, dims and body length, which tell the rest
abbrev pub view_of : VectorType → ℕ → ℕ → View
view_of k d m = record { kind = k; dims = dims d; length = m; readings = readings (readings_of k d m) }

-- the number that docs/RULES.md gives a refusal
abbrev pub number_of : Refusal → ℕ
number_of LengthOverLimit = 1
number_of TypeByte5Or6 = 2
number_of TypeByteUnknown = 3
number_of NoTrailingCount = 4
number_of TrailingCountTooLarge = 5
number_of TrailingBitsTooFew = 6
number_of BodyLengthUnfit = 7
number_of (IndexNotBelowDims entry) = 8
number_of DimsOverLimit = 9
number_of (SparseOrder entry) = 10
number_of UnusedBitSet = 11
number_of DimsDiffer = 12
number_of KindsDiffer = 13
number_of L2OfFloat1Bit = 14
number_of (OutputTooShort need) = 15
number_of WriterDims0 = 16
number_of (ScratchTooShort need) = 17
number_of BothDistancesNan = 18
number_of (FileEndsInside place) = 19

-- what docs/RULES.md has it carry: which entry is wrong, how long a buffer would have to be, or where in its file a vector starts
abbrev pub detail_of : Refusal → Detail
detail_of (IndexNotBelowDims entry) = Entry entry
detail_of (SparseOrder entry) = Entry entry
detail_of (OutputTooShort need) = Needs need
detail_of (ScratchTooShort need) = Needs need
detail_of (FileEndsInside place) = Starts place
detail_of _ = Nothing

-- the refusal of a byte that names no kind
abbrev pub kind_refusal : KindError → Refusal
kind_refusal Unsupported = TypeByte5Or6
kind_refusal Unknown = TypeByteUnknown

-- a view that is shown
abbrev pub accepted_as : VectorType → ℕ → ℕ → Result View Refusal
accepted_as k d m = Ok (view_of k d m)

-- the number of an answer by the rules, 0 where nothing is refused
abbrev pub answer_number : {A : Type 0} → Result A Refusal → ℕ
answer_number (Ok a) = 0
answer_number (Err r) = number_of r

-- a refusal, and whether it is to be given
pub record Test : Type 0 where
  pub holds : Bool
  pub gives : Refusal

abbrev pub test : Refusal → Bool → Test
test r b = record { holds = b; gives = r }

-- of k entries, where b holds besides: the first with p is named
abbrev pub test_first : (ℕ → Refusal) → Bool → (ℕ → Bool) → ℕ → Test
test_first r b p k = record { holds = b && any_index p k; gives = r (first_index p k) }

-- of a buffer of `room` bytes where `need` are needed
abbrev pub test_room : (ℕ → Refusal) → ℕ → ℕ → Test
test_room r room need = record { holds = ltb room need; gives = r need }

-- of a vector that starts at `place`, where `left` bytes are left of its file and `need` are needed
abbrev pub test_left : (ℕ → Refusal) → ℕ → ℕ → ℕ → Test
test_left r place left need = record { holds = ltb left need; gives = r place }

-- the first refusal of a list that is to be given, if any is
abbrev pub first_given : List Test → Option Refusal
first_given [] = None
first_given (t ∷ ts) = cond t.holds (Some t.gives) (first_given ts)

-- the answer x, unless a refusal is given
abbrev pub unless : {A : Type 0} → Option Refusal → (Refusal → A) → A → A
unless None refuse x = x
unless (Some r) refuse x = refuse r
