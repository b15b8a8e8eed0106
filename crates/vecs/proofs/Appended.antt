-- A blob appended: each case by its own condition, and the vector written to the part of the buffer after the fill.
use mathlib.Core.Path.{◌≡◌, refl, sym, ◌∙◌}
use mathlib.Core.Logic.{◌⊎◌, inl, inr}
use mathlib.Core.Bool.{Bool, true, false}
use Rattle.std.proofs.Common.{Result, Ok, Err}
use mathlib.Core.List.{List, ◌++◌, append_assoc}
use Prim.Native.Nat.{ℕ, ◌+◌, ◌-◌, ◌*◌, ◌<◌, ◌≤◌}
use native.Mathlib.Omega.{arith}
use lib.Dec.{ltb}
use lib.ListN.{length, take, drop, length-append, length-drop}
use lib.Seq.{drop-drop, take_at, length-take-le}
use borrow.Author.Tests.{lt-ltb, le-ltb, ltb-true, ltb-false, eqb-true}
use borrow.Rule.Slice.PartMut.{put_mid}
use Rattle.promises.specs.Onto.{onto}
use Rattle.promises.proofs.Onto.{tail-onto, tail-lent}
use Rattle.little_endian.specs.Bytes.{put}
use Rattle.little_endian.proofs.Numbers.{length-bytes_of}
use Rattle.vector_types.specs.Layout.{max_dims, has_byte, body_fits}
use Rattle.vector_types.specs.Read.{read_of}
use Rattle.vector_types.specs.Parts.{body_of}
use Rattle.vector_types.specs.declared.View.{View}
use Rattle.vector_types.specs.declared.Refusal.{Refusal}
use Rattle.vector_types.specs.declared.VectorType.TheVariants.{Float32Dense}
use Rattle.vector_types.specs.declared.Refusal.TheVariants.{KindsDiffer, OutputTooShort}
use Rattle.vector_types.specs.declared.Mode.TheVariants.{Plain}
use Rattle.vector_types.proofs.SameKind.{same_kind}
use Rattle.vector_types.proofs.Views.{view-facts}
use Rattle.vector_types.proofs.Bodies.{length-body}
use Rattle.vecs.specs.Append.{vector_length, vector_bytes, append_of, append_leaving, append_outcome}

-- ---- a vector's bytes, and these written to the part of a buffer from a place on
pub length-vector : (d : ℕ) (body : List ℕ) → length (vector_bytes d body) ≡ 4 + length body
length-vector d body = rw (length-append, length-bytes_of)

pub put-part : (fill : ℕ) (out ys w : List ℕ) → ys ≡ onto w (take (length out - fill) (drop fill out))
    → put_mid fill (length out - fill) out ys ≡ put out fill w
unfolding put
put-part fill out ys w e =
    tail-onto fill out ys w e ∙ rw (drop-drop (length w) fill out) (sym (append_assoc (take fill out) w (drop (fill + length w) out)))

-- ---- the body of a Float32Dense blob has four bytes for each element
module _ (blob : List ℕ) (v : View) (e : read_of Plain blob ≡ Ok v) (dense : has_byte 1 v.kind ≡ true) where
  view-long : v.length ≡ 4 * v.dims.0
  unfolding body_fits
  view-long = eqb-true v.length (4 * v.dims.0) (rw (same_kind v.kind Float32Dense dense) at (view-facts blob v e).fit)

  pub body-long : length (body_of blob) ≡ 4 * v.dims.0
  body-long = length-body blob v e ∙ view-long

-- ---- each case
pub append-unread : (blob out : List ℕ) (fill : ℕ) (r : Refusal) → read_of Plain blob ≡ Err r → append_outcome blob out fill ≡ append_leaving (Err r) out
unfolding append_outcome append_of
append-unread blob out fill r e = rw e

module _ (blob out : List ℕ) (fill : ℕ) (v : View) (e : read_of Plain blob ≡ Ok v) where
  pub append-other : has_byte 1 v.kind ≡ false → append_outcome blob out fill ≡ append_leaving (Err KindsDiffer) out
  unfolding append_outcome append_of
  append-other other = rw (e, other)

  module _ (dense : has_byte 1 v.kind ≡ true) where
    pub append-short : length out - fill < vector_length v.dims.0
        → append_outcome blob out fill ≡ append_leaving (Err (OutputTooShort (vector_length v.dims.0))) out
    unfolding append_outcome append_of
    append-short h = rw (e, dense, lt-ltb _ _ h)

    pub append-fits : vector_length v.dims.0 ≤ length out - fill
        → append_outcome blob out fill
        ≡ append_leaving (Ok (fill + vector_length v.dims.0)) (put out fill (vector_bytes v.dims.0 (body_of blob)))
    unfolding append_outcome append_of
    append-fits h = rw (e, dense, le-ltb _ _ h)

-- ---- the two outcomes: nothing changes, or the buffer has one vector more
pub record Grown (blob out : List ℕ) (fill d : ℕ) : Type 0 where
  pub few : d ≤ max_dims
  pub long : length (body_of blob) ≡ 4 * d
  pub room : fill + vector_length d ≤ length out
  pub outcome : append_outcome blob out fill ≡ append_leaving (Ok (fill + vector_length d)) (put out fill (vector_bytes d (body_of blob)))

abbrev pub Unchanged : List ℕ → List ℕ → ℕ → Refusal → Type 0
Unchanged blob out fill r = append_outcome blob out fill ≡ append_leaving (Err r) out

abbrev pub EitherWay : List ℕ → List ℕ → ℕ → Type 0
EitherWay blob out fill = ((r : Refusal) × Unchanged blob out fill r) ⊎ ((d : ℕ) × Grown blob out fill d)

by-view : (blob out : List ℕ) (fill : ℕ) (v : View) → read_of Plain blob ≡ Ok v → EitherWay blob out fill
by-view blob out fill v e = by_tests (has_byte 1 v.kind) (ltb (length out - fill) (vector_length v.dims.0)) refl refl
  where
    by_tests : (b c : Bool) → has_byte 1 v.kind ≡ b → ltb (length out - fill) (vector_length v.dims.0) ≡ c → EitherWay blob out fill
    by_tests false c h k = inl (KindsDiffer, append-other blob out fill v e h)
    by_tests true true h k =
        inl (OutputTooShort (vector_length v.dims.0), append-short blob out fill v e h (ltb-true (length out - fill) (vector_length v.dims.0) k))
    by_tests true false h k =
        let fits = ltb-false (length out - fill) (vector_length v.dims.0) k in
        inr (
          v.dims.0,
          record {
            few = (view-facts blob v e).few;
            long = body-long blob v e h;
            room = omega arith;
            outcome = append-fits blob out fill v e h fits;
          },
        )

pub append-either : (blob out : List ℕ) (fill : ℕ) → EitherWay blob out fill
append-either blob out fill = by_answer (read_of Plain blob) refl
  where
    by_answer : (r : Result View Refusal) → read_of Plain blob ≡ r → EitherWay blob out fill
    by_answer (Ok v) e = by-view blob out fill v e
    by_answer (Err r) e = inl (r, append-unread blob out fill r e)

-- the bytes up to the new fill, where there was room: those up to the old one, and the vector
pub filled_more : (out : List ℕ) (fill : ℕ) (w : List ℕ) (n : ℕ) → n ≡ fill + length w → n ≤ length out → take n (put out fill w) ≡ take fill out ++ w
unfolding put
filled_more out fill w n e room =
    take_at (take fill out ++ w) (drop (fill + length w) out) n (rw length-append (omega (arith, length-take-le fill out (omega arith))))

-- ---- what the code that appends is proved by
pub ruleset appends = (body-long, length-vector, tail-lent, length-drop)
