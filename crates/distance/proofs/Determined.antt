-- Determinism of the public contracts: stated over each contract's own reading, so it changes with the contract.
use Rattle.std.proofs.Common.{◌≡◌, ◌∙◌, sym, List, ℕ, Result, Ok, Err, IfOk}
use Rattle.std.specs.Borrow.{Bor}
use Rattle.std.specs.Result.{result_map_both}
use Rattle.promises.specs.Determined.{Determined}
use Rattle.vector_types.specs.declared.View.{View}
use Rattle.vector_types.specs.declared.vector.Vector.{Vector}
use Rattle.vector_types.proofs.Determined.{part}
use Rattle.distance.specs.declared.refused.Refused.{Refused}
use Rattle.distance.proofs.refused.RefusedFromRefusal.from.Reads as from-refusal
use Rattle.distance.proofs.refused.vector_as.Reads as vector-as
use Rattle.distance.proofs.check_pair.Reads as check-pair
use Rattle.distance.proofs.measure_pair.Reads as measure-pair
use Rattle.distance.proofs.vector_distance.Reads as vector-distance

pub from-refusal-determined : (g : _) (κs : _) (a : _) (v : _) → Determined (from-refusal.Post g κs a v) (λ r x. r)
from-refusal-determined g κs a v r r' x x' p q = p ∙ sym q

-- the view that is found, and where its blob stands
abbrev shown_in : {B : Type 0} → Result Vector (Refused B) → Result (View × (List ℕ × (ℕ × ℕ))) (Refused B)
shown_in r = result_map_both (λ v. (v.view, part v.blob.now v.blob.ref_ptr)) (λ e. e) r

abbrev view_in : {B : Type 0} → Result Vector (Refused B) → Result View (Refused B)
view_in r = result_map_both (λ v. v.view) (λ e. e) r

same-shown : {B : Type 0} (blob : Bor (List ℕ)) (r s : Result Vector (Refused B)) → view_in r ≡ view_in s
    → IfOk r (λ v. v.blob ≡ blob) → IfOk s (λ v. v.blob ≡ blob) → shown_in r ≡ shown_in s
same-shown blob (Ok v) (Ok w) e p q = cc
same-shown blob (Ok v) (Err f) e p q = absurd cc
same-shown blob (Err e) (Ok w) h p q = absurd cc
same-shown blob (Err e) (Err f) h p q = cc

pub vector-as-determined : (g : _) (b : _) (c : _) (d : _) (κs : _) (e : _) (a : _) → Determined (vector-as.Post g b c d κs e a) (λ r x. shown_in r)
vector-as-determined g b c d κs e a r r' x x' p q = same-shown a.1.1.0 r r' (p.0 ∙ sym q.0) p.1 q.1

pub check-pair-determined : (κs : _) (a : _) → Determined (check-pair.Post κs a) (λ r x. r)
check-pair-determined κs a r r' x x' p q = p ∙ sym q

pub measure-pair-determined : (κs : _) (a : _) → Determined (measure-pair.Post κs a) (λ r x. r)
measure-pair-determined κs a r r' x x' p q = p ∙ sym q

pub vector-distance-determined : (κs : _) (a : _) → Determined (vector-distance.Post κs a) (λ r x. r)
vector-distance-determined κs a r r' x x' p q = p ∙ sym q
