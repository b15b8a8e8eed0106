-- What follows from an export's outcome: a field that is not written keeps every bit, no export writes a reserved field, and NaN is
-- written as one pattern.
use mathlib.Core.Path.{◌≡◌, refl, ap, sym, ◌∙◌}
use mathlib.Core.Bool.{true, false, true≢false, and-eq-true_iff}
use mathlib.Core.List.{List, [], ◌∷◌}
use Prim.Native.Nat.{ℕ}
use lib.ListN.{get_or}
use lib.Seq.{get_or-set_other}
use lib.Ieee.{nan, to_bits}
use Rattle.std.proofs.Common.{Option, None, Some, Result, Ok, Err}
use Rattle.vector_types.specs.Answers.{detail_of}
use Rattle.vector_types.specs.declared.Detail.{Detail}
use Rattle.vector_types.specs.declared.Detail.TheVariants.{Nothing, Needs, Starts, Entry}
use Rattle.vector_types.specs.declared.Refusal.{Refusal}
use Rattle.vector_types.specs.declared.View.{View}
use Rattle.distance.specs.Answer.{measured}
use Rattle.distance.specs.declared.Counts.{Counts}
use Rattle.distance.specs.declared.Measured.{Measured}
use Rattle.distance.specs.declared.Which.{Which}
use Rattle.distance.specs.declared.refused.Refused.{Refused}
use Rattle.nearer.specs.declared.Among.{Among}
use Rattle.nearer.specs.declared.Near.{Near}
use Rattle.vecs.specs.declared.Found.{Found}
use Rattle.answer_fields.specs.Fields.{distance_field, readings_field, other_readings_field, in_use, set_fields, Unwritten, unreserved, ExportOutcome, export_outcome}
use Rattle.answer_fields.specs.Exported.{detail_fields, refusal_fields, read_fields, write_fields, convert_fields, distance_fields, nearer_fields, vecs_fields, append_fields}

-- equal outcomes of a function that is lent no buffer are equal beside buffers
pub with-buffers : (buffers : List (List ℕ)) {x y : ExportOutcome} → x ≡ y → export_outcome x.number x.answer buffers ≡ export_outcome y.number y.answer buffers
with-buffers buffers e = ap (λ (o : ExportOutcome). export_outcome o.number o.answer buffers) e

pub unwritten-kept : (fs : List (ℕ × ℕ)) (before : List ℕ) (i : ℕ) → Unwritten i fs → get_or (set_fields fs before) i 0 ≡ get_or before i 0
unwritten-kept [] before i u = refl
unwritten-kept (f ∷ fs) before i u = unwritten-kept fs _ i u.1 ∙ get_or-set_other before f.0 i f.1 0 u.0

apart : (fs : List (ℕ × ℕ)) → unreserved fs ≡ true → (i : ℕ) → in_use i ≡ false → Unwritten i fs
apart [] u i r = tt
apart (f ∷ fs) u i r =
    let (used, others) = (and-eq-true_iff (in_use f.0) (unreserved fs)).0 u in
    (λ e. true≢false (sym used ∙ ap in_use (sym e) ∙ r), apart fs others i r)

pub reserved-kept : (fs : List (ℕ × ℕ)) → unreserved fs ≡ true → (before : List ℕ) (i : ℕ) → in_use i ≡ false → get_or (set_fields fs before) i 0 ≡ get_or before i 0
reserved-kept fs u before i r = unwritten-kept fs before i (apart fs u i r)

detail-unreserved : (d : Detail) → unreserved (detail_fields d) ≡ true
detail-unreserved Nothing = refl
detail-unreserved (Needs n) = refl
detail-unreserved (Starts place) = refl
detail-unreserved (Entry entry) = refl

refusal-unreserved : (r : Refusal) → unreserved (refusal_fields r) ≡ true
refusal-unreserved r = detail-unreserved (detail_of r)

pub read-unreserved : (a : Result View Refusal) → unreserved (read_fields a) ≡ true
read-unreserved (Ok v) = refl
read-unreserved (Err r) = refusal-unreserved r

pub write-unreserved : (a : Result ℕ Refusal) → unreserved (write_fields a) ≡ true
write-unreserved (Ok n) = refl
write-unreserved (Err r) = refusal-unreserved r

pub convert-unreserved : (a : Result View Refusal) → unreserved (convert_fields a) ≡ true
convert-unreserved (Ok v) = refl
convert-unreserved (Err r) = refusal-unreserved r

pub distance-unreserved : (a : Result Measured (Refused Which)) → unreserved (distance_fields a) ≡ true
distance-unreserved (Ok m) = refl
distance-unreserved (Err e) = refusal-unreserved e.refusal

pub nearer-unreserved : (a : Result Near (Refused Among)) → unreserved (nearer_fields a) ≡ true
nearer-unreserved (Ok n) = refl
nearer-unreserved (Err e) = refusal-unreserved e.refusal

pub vecs-unreserved : (a : Result (Option Found) Refusal) → unreserved (vecs_fields a) ≡ true
vecs-unreserved (Ok (Some v)) = refl
vecs-unreserved (Ok None) = refl
vecs-unreserved (Err r) = refusal-unreserved r

pub append-unreserved : (a : Result ℕ Refusal) → unreserved (append_fields a) ≡ true
append-unreserved (Ok n) = refl
append-unreserved (Err r) = refusal-unreserved r

pub nan_pattern : (c : Counts)
    → distance_fields (Ok (measured nan c)) ≡ (distance_field, 0x7ff8_0000_0000_0000) ∷ (readings_field, c.first.0) ∷ (other_readings_field, c.second.0) ∷ []
unfolding to_bits
nan_pattern c = refl
