-- A pair is measured exactly where both blobs are accepted, of one kind and dims, and the distance exists; and two pairs that are checked alike have
-- related answers where their values are the same. Over any formula, by what the two reads and the check of the pair answer.
use mathlib.Core.Path.{◌≡◌, refl, sym, ap, ◌∙◌}
use mathlib.Core.Bool.{true}
use mathlib.Core.List.{List}
use mathlib.Core.Option.{Option, none, some}
use Prim.Native.Nat.{ℕ}
use Rattle.std.specs.Prelude.{Result, Ok, Err}
use Rattle.std.specs.Result.{result_and}
use lib.Ieee.{Float}
use Rattle.vector_types.specs.Layout.{byte_of, has_byte}
use Rattle.vector_types.specs.Read.{read_of}
use Rattle.vector_types.specs.Parts.{body_of}
use Rattle.vector_types.specs.declared.Refusal.{Refusal}
use Rattle.vector_types.specs.declared.View.{View}
use Rattle.vector_types.specs.declared.Mode.TheVariants.{Plain}
use Rattle.vector_types.proofs.SameKind.{own-byte}
use Rattle.distance.specs.Values.{Formula, value_of}
use Rattle.distance.specs.Answer.{about, about_none, of_all, counts_of, measured, pairing_of, distance_answer, answer_of_views, answer_in, answer_by, distance_of}
use Rattle.distance.specs.declared.Counts.{Counts}
use Rattle.distance.specs.declared.Distance.{Distance}
use Rattle.distance.specs.declared.Measured.{Measured}
use Rattle.distance.specs.declared.refused.Refused.{Refused}
use Rattle.distance.specs.declared.Which.{Which}
use Rattle.distance.specs.declared.Which.TheVariants.{First, Second}
use Rattle.vector_types.specs.declared.Refusal.TheVariants.{L2OfFloat1Bit}
use Rattle.std.specs.Result.{result_map_both}
use Rattle.distance.proofs.Paired.{SameShape, alike_same, both-same, answer-by-pairing}

-- what reading a blob answers, with its refusals about that blob
abbrev named : Which → Result View Refusal → Result View (Refused Which)
named blob r = result_map_both (λ v. v) (about blob) r

-- ---- two pairs of views of which the check answers the same: what relates every refusal to itself, and one distance with both counts, relates the answers
abbrev Answer : Type 0
Answer = Result Measured (Refused Which)

abbrev checked : Result (Unit {0}) Refusal → Option Float → Counts → Answer
checked p x c = of_all (result_and p (distance_answer x c))

module _ (R : Answer → Answer → Type 0) (refusals : (r : Refusal) → R (Err (about_none r)) (Err (about_none r))) where
  checked-related : (p : Result (Unit {0}) Refusal) (o : Option Float) (c d : Counts) → ((x : Float) → R (Ok (measured x c)) (Ok (measured x d))) → R (checked p o c) (checked p o d)
  checked-related (Ok _) none c d related = refusals L2OfFloat1Bit
  checked-related (Ok _) (some x) c d related = related x
  checked-related (Err r) o c d related = refusals r

  pub views-related : (f g : Formula) (v w v' w' : View) (a b a' b' : List ℕ) → ((x : Float) → R (Ok (measured x (counts_of v w))) (Ok (measured x (counts_of v' w'))))
      → pairing_of v w ≡ pairing_of v' w' → (SameShape v w → f v.kind v.dims.0 a b ≡ g v'.kind v'.dims.0 a' b')
      → R (answer_of_views f v w a b) (answer_of_views g v' w' a' b')
  views-related f g v w v' w' a b a' b' related e same =
      rw (answer-by-pairing f v w a b ∙ go (pairing_of v w) refl, answer-by-pairing g v' w' a' b', ← e)
      (checked-related (pairing_of v w) other (counts_of v w) (counts_of v' w') related)
    where
      other : Option Float
      other = g v'.kind v'.dims.0 a' b'

      go : (p : Result (Unit {0}) Refusal) → pairing_of v w ≡ p → checked p (f v.kind v.dims.0 a b) (counts_of v w) ≡ checked p other (counts_of v w)
      go (Ok _) k = ap (λ (o : Option Float). of_all (distance_answer o (counts_of v w))) (same (alike_same v w k))
      go (Err r) k = refl

-- ---- two pairs of blobs that are read alike
pub answers-same : (f g : Formula) (s t s' t' : List ℕ) → read_of Plain s ≡ read_of Plain s' → read_of Plain t ≡ read_of Plain t'
    → ((v w : View) → read_of Plain s ≡ Ok v → read_of Plain t ≡ Ok w → SameShape v w
    → f v.kind v.dims.0 (body_of s) (body_of t) ≡ g v.kind v.dims.0 (body_of s') (body_of t'))
    → answer_by f s t ≡ answer_by g s' t'
unfolding answer_by
answers-same f g s t s' t' p q same = rw (← p, ← q) (go (read_of Plain s) refl (read_of Plain t) refl)
  where
    go : (r : Result View Refusal) → read_of Plain s ≡ r → (q : Result View Refusal) → read_of Plain t ≡ q
        → answer_in f (named First r) (named Second q) (body_of s) (body_of t) ≡ answer_in g (named First r) (named Second q) (body_of s') (body_of t')
    go (Err r) e q k = refl
    go (Ok v) e (Err r) k = refl
    go (Ok v) e (Ok w) k = views-related ◌≡◌ (λ r. refl) f g v w v w (body_of s) (body_of t) (body_of s') (body_of t') (λ x. refl) refl (same v w e k)

-- ---- a pair that is measured
pub record MeasuredPair (m : Distance) (s t : List ℕ) (x : Float) (c : Counts) : Type 0 where
  pub first : View
  pub second : View
  pub first_read : read_of Plain s ≡ Ok first
  pub second_read : read_of Plain t ≡ Ok second
  pub kind : first.kind ≡ second.kind
  pub dims : first.dims.0 ≡ second.dims.0
  pub value : value_of m first.kind first.dims.0 (body_of s) (body_of t) ≡ some x
  pub counted : counts_of first second ≡ c

module _ (x : Float) (c : Counts) where
  checked-measured : (p : Result (Unit {0}) Refusal) (o : Option Float) (d : Counts) → checked p o d ≡ Ok (measured x c) → (p ≡ Ok tt) × (o ≡ some x) × (d ≡ c)
  checked-measured (Ok _) none d e = absurd cc
  checked-measured (Ok _) (some y) d e =
      let same : measured y d ≡ measured x c = cc in
      (refl, ap (λ (n : Measured). some n.distance) same, ap (λ (n : Measured). n.counts) same)
  checked-measured (Err r) o d e = absurd cc

module _ (m : Distance) (s t : List ℕ) (x : Float) (c : Counts) where
  pub measured-alike : distance_of m s t ≡ Ok (measured x c) → MeasuredPair m s t x c
  unfolding distance_of
  measured-alike e = go (read_of Plain s) refl (read_of Plain t) refl e
    where
      go : (r : Result View Refusal) → read_of Plain s ≡ r → (q : Result View Refusal) → read_of Plain t ≡ q
          → answer_in (value_of m) (named First r) (named Second q) (body_of s) (body_of t) ≡ Ok (measured x c) → MeasuredPair m s t x c
      go (Err r) p q k e = absurd cc
      go (Ok v) p (Err r) q e = absurd cc
      go (Ok v) p (Ok w) q e =
          let (pairs, value, counted) = checked-measured x c (pairing_of v w) _ (counts_of v w) (sym (answer-by-pairing (value_of m) v w (body_of s) (body_of t)) ∙ e) in
          let same = alike_same v w pairs in
          record { first = v; second = w; first_read = p; second_read = q; kind = same.kind; dims = same.dims; value = value; counted = counted }

  pub alike-measured : MeasuredPair m s t x c → distance_of m s t ≡ Ok (measured x c)
  unfolding distance_of
  alike-measured p =
      let v = p.first in
      let w = p.second in
      let kinds : has_byte (byte_of w.kind) v.kind ≡ true = rw p.kind (own-byte w.kind) in
      rw (p.first_read, p.second_read, answer-by-pairing (value_of m) v w (body_of s) (body_of t), both-same v w p.dims kinds, p.value, p.counted)
