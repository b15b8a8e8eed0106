-- What a distance of two blobs answers: the reader's refusal of the first, then of the second, then 12, 13, 14; else the distance and both counts of readings.
use Rattle.std.specs.Prelude.{ℕ, not, List, [], ◌∷◌, eqb, Float, Some, None, Result, Ok, Err}
use Rattle.std.specs.Result.{result_and, result_map_both}
use Rattle.std.proofs.Math.Option.{Option, none, some}
use Rattle.vector_types.specs.Answers.{readings, number_of, Test, test, first_given, unless}
use Rattle.vector_types.specs.Layout.{byte_of, has_byte}
use Rattle.vector_types.specs.Read.{read_of}
use Rattle.vector_types.specs.Parts.{body_of}
use Rattle.vector_types.specs.declared.View.{View}
use Rattle.vector_types.specs.declared.Refusal.{Refusal}
use Rattle.vector_types.specs.declared.Refusal.TheVariants.{DimsDiffer, KindsDiffer, L2OfFloat1Bit}
use Rattle.vector_types.specs.declared.Mode.{Mode}
use Rattle.vector_types.specs.declared.Mode.TheVariants.{Plain}
use Rattle.distance.specs.Values.{Formula, value_of}
use Rattle.distance.specs.declared.Distance.{Distance}
use Rattle.distance.specs.declared.Counts.{Counts}
use Rattle.distance.specs.declared.Measured.{Measured}
use Rattle.distance.specs.declared.Which.{Which}
use Rattle.distance.specs.declared.Which.TheVariants.{First, Second}
use Rattle.distance.specs.declared.refused.Refused.{Refused}

-- a refusal that is about one blob, and one that is about none alone
abbrev pub about : {B : Type 0} → B → Refusal → Refused B
about blob r = record { refusal = r; blob = Some blob }

abbrev pub about_none : {B : Type 0} → Refusal → Refused B
about_none r = record { refusal = r; blob = None }

-- an answer with its refusals about none alone
abbrev pub of_all : {A B : Type 0} → Result A Refusal → Result A (Refused B)
of_all r = result_map_both (λ x. x) about_none r

-- what reading a blob in a mode answers, with its refusals about that blob
abbrev pub read_as : {B : Type 0} → B → Mode → List ℕ → Result View (Refused B)
read_as blob mode s = result_map_both (λ v. v) (about blob) (read_of mode s)

-- the number of an answer by the rules, 0 where nothing is refused
abbrev pub number_in : {A B : Type 0} → Result A (Refused B) → ℕ
number_in (Ok x) = 0
number_in (Err e) = number_of e.refusal

-- how many readings the two vectors hold, and those of two views
abbrev pub counts : ℕ → ℕ → Counts
counts m n = record { first = readings m; second = readings n }

abbrev pub counts_of : View → View → Counts
counts_of v w = record { first = v.readings; second = w.readings }

-- a distance and the counts, or a distance that there is not
abbrev pub measured : Float → Counts → Measured
measured x c = record { distance = x; counts = c }

abbrev pub distance_answer : Option Float → Counts → Result Measured Refusal
distance_answer none c = Err L2OfFloat1Bit
distance_answer (some x) c = Ok (measured x c)

-- what refuses a pair of views, whatever is to be measured
abbrev pub mismatches : View → View → List Test
mismatches v w =
    test DimsDiffer (not (eqb v.dims.0 w.dims.0))
    ∷ test KindsDiffer (not (has_byte (byte_of w.kind) v.kind))
    ∷ []

-- whether a pair of views can be measured
abbrev pub pairing_of : View → View → Result (Unit {0}) Refusal
pairing_of v w = unless (first_given (mismatches v w)) Err (Ok tt)

-- by any formula: of two views and their bodies; by what reading the two blobs answers; of two blobs
unfoldable pub answer_of_views : Formula → View → View → List ℕ → List ℕ → Result Measured (Refused Which)
answer_of_views value v w a b = of_all (result_and (pairing_of v w) (distance_answer (value v.kind v.dims.0 a b) (counts_of v w)))

abbrev pub answer_in : Formula → Result View (Refused Which) → Result View (Refused Which) → List ℕ → List ℕ → Result Measured (Refused Which)
answer_in value (Err e) q a b = Err e
answer_in value (Ok v) (Err e) a b = Err e
answer_in value (Ok v) (Ok w) a b = answer_of_views value v w a b

unfoldable pub answer_by : Formula → List ℕ → List ℕ → Result Measured (Refused Which)
unfolding answer_of_views
answer_by value s t = answer_in value (read_as First Plain s) (read_as Second Plain t) (body_of s) (body_of t)

unfoldable pub distance_of : Distance → List ℕ → List ℕ → Result Measured (Refused Which)
unfolding answer_by value_of
distance_of m s t = answer_by (value_of m) s t
