-- The nearer of two candidates to a probe, which is the first vector of each pair: the refusals in their order, then the lesser distance.
use Rattle.std.specs.Prelude.{ℕ, cond, ◌&&◌, ◌||◌, List, [], Float, Result, Ok, Err}
use Rattle.std.specs.Result.{result_and}
use Rattle.std.proofs.Math.Option.{Option, none, some}
use Rattle.std.specs.Float.Ieee.{le, is_nan}
use Rattle.vector_types.specs.Parts.{body_of}
use Rattle.vector_types.specs.declared.Readings.{Readings}
use Rattle.vector_types.specs.declared.Refusal.{Refusal}
use Rattle.vector_types.specs.declared.Refusal.TheVariants.{L2OfFloat1Bit, BothDistancesNan}
use Rattle.vector_types.specs.declared.Mode.TheVariants.{Plain}
use Rattle.vector_types.specs.declared.View.{View}
use Rattle.distance.specs.Values.{value_of}
use Rattle.distance.specs.Answer.{of_all, read_as, pairing_of}
use Rattle.distance.specs.declared.Distance.{Distance}
use Rattle.distance.specs.declared.refused.Refused.{Refused}
use Rattle.nearer.specs.declared.Candidate.{Candidate}
use Rattle.nearer.specs.declared.Candidate.TheVariants.{First, Second}
use Rattle.nearer.specs.declared.Near.{Near}
use Rattle.nearer.specs.declared.Among.{Among}
use Rattle.nearer.specs.declared.Among.TheVariants.{Probe, First as TheFirst, Second as TheSecond}

-- a candidate, its distance and the readings that it holds
abbrev pub near : Candidate → Float → Readings → Near
near c x n = record { candidate = c; distance = x; readings = n }

-- of the distances x and y: NaN loses to all else, a tie gives the first, and two NaNs give neither
unfoldable pub nearer_by : Near → Near → Result Near Refusal
nearer_by first second =
    let x = first.distance in
    let y = second.distance in
    cond (is_nan x && is_nan y) (Err BothDistancesNan)
    (cond (is_nan y || le x y) (Ok first)
    (Ok second))

-- of two candidates with these readings, by their distances from the probe; none is a distance that does not exist for the kind, which 14 refuses
abbrev pub decided : Readings → Readings → Option Float → Option Float → Result Near Refusal
decided m n none q = Err L2OfFloat1Bit
decided m n (some x) none = Err L2OfFloat1Bit
decided m n (some x) (some y) = nearer_by (near First x m) (near Second y n)

-- of the views and bodies of probe, first and second: 12 and 13 for the first, then for the second, then 14, then 18
unfoldable pub compared_of : Distance → View → View → View → List ℕ → List ℕ → List ℕ → Result Near Refusal
unfolding nearer_by value_of
compared_of m v w u p a b =
    result_and (pairing_of v w) (result_and (pairing_of v u)
    (decided w.readings u.readings (value_of m v.kind v.dims.0 p a) (value_of m v.kind v.dims.0 p b)))

-- of what reading each answers
abbrev pub nearer_in : Distance → Result View (Refused Among) → Result View (Refused Among) → Result View (Refused Among)
    → List ℕ → List ℕ → List ℕ → Result Near (Refused Among)
nearer_in m (Err e) q s p a b = Err e
nearer_in m (Ok v) (Err e) s p a b = Err e
nearer_in m (Ok v) (Ok w) (Err e) p a b = Err e
nearer_in m (Ok v) (Ok w) (Ok u) p a b = of_all (compared_of m v w u p a b)

unfoldable pub nearer_of : Distance → List ℕ → List ℕ → List ℕ → Result Near (Refused Among)
unfolding compared_of
nearer_of m probe first second =
    nearer_in m (read_as Probe Plain probe) (read_as TheFirst Plain first) (read_as TheSecond Plain second) (body_of probe) (body_of first) (body_of second)

-- of the two candidates, the one that is meant
abbrev pub of_both : {A : Type 0} → Candidate → A → A → A
of_both First x y = x
of_both Second x y = y

-- the nearer one's part is its body; on a refusal it is empty
abbrev pub part_of : Result Near (Refused Among) → List ℕ → List ℕ → List ℕ
part_of (Ok n) first second = body_of (of_both n.candidate first second)
part_of (Err e) first second = []

-- and it stands at the start of that one; where it is empty, of the first
abbrev pub place_of : Result Near (Refused Among) → ℕ × ℕ → ℕ × ℕ → ℕ × ℕ
place_of (Ok n) first second = of_both n.candidate first second
place_of (Err e) first second = first
