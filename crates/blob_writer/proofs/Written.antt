-- What is written reads back as the same kind, dims and body, with that body's readings: a kind at a time, then as the writer's caller has it.
use mathlib.Core.Path.{◌≡◌, refl, ap, ◌∙◌}
use mathlib.Core.Bool.{true, false, ◌&&◌}
use mathlib.Core.List.{List, [], ◌∷◌, ◌++◌, append-nil, append_assoc}
use Rattle.std.proofs.Common.{Result, Ok, Err, None}
use Prim.Native.Nat.{ℕ, ◌+◌, ◌-◌, ◌*◌, ◌/◌, ◌%◌, ◌<◌, ◌≤◌}
use native.Mathlib.Omega.{arith}
use lib.Dec.{eqb}
use lib.ListN.{length, take, drop, length-append, length-drop}
use lib.Seq.{take-append_seam, take_at}
use borrow.Author.Tests.{lt-ltb, le-ltb, ltb-false, eqb-true, eqb-false, not-false}
use Rattle.little_endian.specs.Bytes.{bytes_of, u32_at}
use Rattle.little_endian.proofs.Numbers.{number_at-left, number_at-right, number_at-bytes_of}
use Rattle.vector_types.specs.Answers.{first_given, test_room, readings_of, view_of, accepted_as}
use Rattle.vector_types.specs.Layout.{max_blob_length, max_dims, ceil, has_trailing_count, body_fits, by_byte, has_index_outside}
use Rattle.vector_types.specs.Read.{read_of}
use Rattle.vector_types.specs.Parts.{body_of}
use Rattle.blob_writer.specs.Write.{filler, trailing_bits, trailing_bytes, tail_of, blob_of, write_refusals, write_of, WriteOutcome, write_leaving, write_outcome}
use Rattle.vector_types.specs.declared.Refusal.{Refusal}
use Rattle.vector_types.specs.declared.Refusal.TheVariants.{DimsOverLimit, OutputTooShort}
use Rattle.vector_types.specs.declared.VectorType.{VectorType}
use Rattle.vector_types.specs.declared.VectorType.TheVariants.{Float32Dense, Float64Dense, Float32Sparse, Float1Bit, Float8}
use Rattle.vector_types.specs.declared.View.{View}
use Rattle.vector_types.specs.declared.Mode.{Mode}
use Rattle.vector_types.specs.declared.Mode.TheVariants.{Plain}
use Rattle.vector_types.proofs.Bodies.{body_is}
use Rattle.vector_types.proofs.Given.{none_passed, passed_none, first-append, unless-accepted}
use Rattle.vector_types.proofs.Modes.{shown-plainly}
use Rattle.vector_types.proofs.Ends.{even-untyped}
use Rattle.promises.proofs.Onto.{tail-lent, onto-then}
use Rattle.blob_writer.proofs.Tails.{length-filler, length-blob}
use Rattle.blob_writer.proofs.Appended.{named-by-tail, count-appended, outside-appended}
use Rattle.vector_types.proofs.Shapes.{reads-float32, reads-float64, reads-float8, reads-one-bit, reads-sparse}

-- ---- what the writer does not refuse, a short buffer apart
pub record Writable (k : VectorType) (d : ℕ) (body : List ℕ) : Type 0 where
  pub few : d ≤ max_dims
  pub fit : body_fits k d (length body) ≡ true
  pub short : length (blob_of k d body) ≤ max_blob_length
  pub inside : has_index_outside k d body ≡ false
  pub elements : (has_trailing_count k && eqb d 0) ≡ false

pub writable : (k : VectorType) (d : ℕ) (body : List ℕ) → first_given (write_refusals k d body) ≡ None → Writable k d body
unfolding write_refusals
writable k d body e =
    let c = none_passed (write_refusals k d body) e in
    record {
      few = ltb-false max_dims d c.0;
      fit = not-false (body_fits k d (length body)) c.1.0;
      short = ltb-false max_blob_length (length (blob_of k d body)) c.1.1.0;
      inside = c.1.1.1.0;
      elements = c.1.1.1.1.0;
    }

pub unrefused : (k : VectorType) (d : ℕ) (body : List ℕ) → Writable k d body → first_given (write_refusals k d body) ≡ None
unfolding write_refusals
unrefused k d body w =
    rw (le-ltb max_dims d w.few, w.fit, le-ltb max_blob_length (length (blob_of k d body)) w.short, w.inside, w.elements)

-- ---- each kind reads back
-- the count: 8 to 15 after an odd body, 16 to 23 after an even one
pub count-range : (d : ℕ) → (8 + 8 * (1 - ceil d 8 % 2) ≤ trailing_bits d) × (trailing_bits d < 16 + 8 * (1 - ceil d 8 % 2))
count-range d = rw length-filler (omega arith)

module _ (d : ℕ) (body : List ℕ) where
  float32-back : Writable Float32Dense d body → read_of Plain (blob_of Float32Dense d body) ≡ accepted_as Float32Dense d (length body)
  unfolding blob_of body_fits
  float32-back w =
      let e = eqb-true (length body) (4 * d) w.fit in
      let (names, size) = even-untyped body (omega arith) in
      rw append-nil (reads-float32 body (length body) d size w.few (rw append-nil at w.short) names e)

  float64-back : Writable Float64Dense d body → read_of Plain (blob_of Float64Dense d body) ≡ accepted_as Float64Dense d (length body)
  unfolding blob_of body_fits by_byte
  float64-back w =
      let e = eqb-true (length body) (8 * d) w.fit in
      let (names, size) = named-by-tail body (2 ∷ []) 0 refl (omega arith) in
      reads-float64 (body ++ (2 ∷ [])) (length body) d (size ∙ omega arith) w.few w.short names e

  float8-back : Writable Float8 d body → read_of Plain (blob_of Float8 d body) ≡ accepted_as Float8 d (length body)
  unfolding blob_of body_fits by_byte
  float8-back w =
      let t = trailing_bytes d in
      let e = eqb-true (length body) (4 * ceil d 4 + 8) w.fit in
      let (names, size) = named-by-tail body (0 ∷ t ∷ 4 ∷ []) 2 refl (omega arith) in
      let long : length body + 2 - 2 ≡ length body = omega arith in
      let some : 0 < d = omega (arith, eqb-false d 0 w.elements) in
      let count = count-appended body (0 ∷ t ∷ 4 ∷ []) 1 in
      rw long at (reads-float8 (body ++ (0 ∷ t ∷ 4 ∷ [])) (length body + 2) d size w.few w.short names some (omega arith) count)

  one-bit-back : Writable Float1Bit d body → read_of Plain (blob_of Float1Bit d body) ≡ accepted_as Float1Bit d (length body)
  unfolding blob_of body_fits by_byte
  one-bit-back w =
      let front = body ++ filler (ceil d 8) in
      let t = trailing_bits d in
      let e = eqb-true (length body) (ceil d 8) w.fit in
      let long = length-append body (filler (ceil d 8)) in
      let (names, size) = named-by-tail front (t ∷ 3 ∷ []) 1 refl (omega (arith, length-filler (ceil d 8))) in
      let all : t ≡ 8 * (length front + 1) - d = rw (long, e) in
      let some : 0 < d = omega (arith, eqb-false d 0 w.elements) in
      let count = count-appended front (t ∷ 3 ∷ []) 0 ∙ all in
      let short = rw (← append_assoc) at w.short in
      rw (e, ← append_assoc) (reads-one-bit (front ++ (t ∷ 3 ∷ [])) (length front + 1) d size w.few short names some (omega arith) count)

  sparse-back : Writable Float32Sparse d body → read_of Plain (blob_of Float32Sparse d body) ≡ accepted_as Float32Sparse d (length body)
  unfolding blob_of body_fits by_byte bytes_of
  sparse-back w =
      let k = length body / 8 in
      let tail = bytes_of 4 d ++ (9 ∷ []) in
      let e : length body ≡ 8 * k = omega (arith, eqb-true (length body % 8) 0 w.fit) in
      let (names, size) = named-by-tail body tail 4 refl (omega arith) in
      let place : length body + 4 - 4 ≡ length body + 0 = omega arith in
      let behind = number_at-right 4 body tail 0 ∙ number_at-left 4 (bytes_of 4 d) (9 ∷ []) 0 (omega arith) in
      let stored : u32_at (body ++ tail) (length body + 4 - 4) ≡ d = rw place (behind ∙ number_at-bytes_of 4 d (omega arith)) in
      let inside = outside-appended body tail k d e ∙ w.inside in
      rw (← e) at (reads-sparse (body ++ tail) (length body + 4) d size w.few w.short k names (omega arith) stored inside)

read_back : (k : VectorType) (d : ℕ) (body : List ℕ) → Writable k d body → read_of Plain (blob_of k d body) ≡ accepted_as k d (length body)
read_back Float32Dense d body w = float32-back d body w
read_back Float64Dense d body w = float64-back d body w
read_back Float32Sparse d body w = sparse-back d body w
read_back Float1Bit d body w = one-bit-back d body w
read_back Float8 d body w = float8-back d body w

pub reads-back : (k : VectorType) (d : ℕ) (body : List ℕ) → first_given (write_refusals k d body) ≡ None
    → (read_of Plain (blob_of k d body) ≡ accepted_as k d (length body)) × (body_of (blob_of k d body) ≡ body)
unfolding blob_of
reads-back k d body e =
    let view = read_back k d body (writable k d body e) in
    (view, body_is (blob_of k d body) _ view ∙ take-append_seam body (tail_of k d))

-- ---- what was written was refused by no test, the room's included
pub written-clear : (k : VectorType) (d : ℕ) (body : List ℕ) (room n : ℕ) → write_of k d body room ≡ Ok n
    → (first_given (write_refusals k d body) ≡ None) × (length (blob_of k d body) ≤ room) × (length (blob_of k d body) ≡ n)
unfolding write_of write_refusals
written-clear k d body room n e =
    let need = length (blob_of k d body) in
    let tests = write_refusals k d body ++ (test_room OutputTooShort room need ∷ []) in
    let (given, long) = unless-accepted (first_given tests) (Ok need) n e in
    let (few, (fit, (short, (inside, (elements, (fits, _)))))) = none_passed tests given in
    (passed_none (write_refusals k d body) (few, (fit, (short, (inside, (elements, tt))))), ltb-false room need fits, cc)

-- ---- what no other test refuses is written where there is room
pub clear_whole : (k : VectorType) (d : ℕ) (body : List ℕ) (room : ℕ) → first_given (write_refusals k d body) ≡ None
    → (n : ℕ) → n ≡ length (blob_of k d body) → n ≤ room → Ok n ≡ write_of k d body room
unfolding write_of
clear_whole k d body room clear n long h = rw (first-append, clear, ← long, le-ltb room n h)

-- ---- the answer by its tests, as the code has them
pub dims-over : (k : VectorType) (d : ℕ) (body : List ℕ) (room : ℕ) → max_dims < d → write_of k d body room ≡ Err DimsOverLimit
unfolding write_of write_refusals
dims-over k d body room h = rw (lt-ltb max_dims d h)

pub written-room : (k : VectorType) (d : ℕ) (body : List ℕ) (room n : ℕ) → write_of k d body room ≡ Ok n → length body + length (tail_of k d) ≤ room
written-room k d body room n e = let (_, fits, _) = written-clear k d body room n e in omega (arith, length-blob k d body)

pub ruleset outcomes = (dims-over, written-room, tail-lent, length-drop, onto-then)

-- ---- as the writer's caller has it: the first n bytes of the buffer, where n is the answer
pub written-blob : (k : VectorType) (d : ℕ) (body out : List ℕ) (n : ℕ) → write_of k d body (length out) ≡ Ok n
    → (first_given (write_refusals k d body) ≡ None) × (length (blob_of k d body) ≡ n) × (take n (write_outcome k d body out).out ≡ blob_of k d body)
unfolding write_outcome
written-blob k d body out n e =
    let blob = blob_of k d body in
    let (clear, _, long) = written-clear k d body (length out) n e in
    (clear, long, rw e (take_at blob (drop (length blob) out) n long))

pub written-reads-back : (k : VectorType) (d : ℕ) (body out : List ℕ) (n : ℕ) → write_of k d body (length out) ≡ Ok n
    → (read_of Plain (take n (write_outcome k d body out).out) ≡ accepted_as k d (length body)) × (body_of (take n (write_outcome k d body out).out) ≡ body)
written-reads-back k d body out n e = let (clear, _, left) = written-blob k d body out n e in rw left (reads-back k d body clear)

-- in any mode it holds the readings of its body
pub written-readings : (mode : Mode) (k : VectorType) (d : ℕ) (body out : List ℕ) (n : ℕ) → write_of k d body (length out) ≡ Ok n
    → (v : View) → read_of mode (take n (write_outcome k d body out).out) ≡ Ok v → v.readings.0 ≡ readings_of k d (length body)
written-readings mode k d body out n e v shows =
    let plain = shown-plainly mode (take n (write_outcome k d body out).out) v shows in
    let back = (written-reads-back k d body out n e).0 in
    let same : v ≡ view_of k d (length body) = cc in
    ap (λ (w : View). w.readings.0) same

-- an outcome, part by part
pub write-outcome-parts : (k : VectorType) (d : ℕ) (body out : List ℕ) (r : Result ℕ Refusal) (o : List ℕ) → write_leaving r o ≡ write_outcome k d body out
    → (r ≡ write_of k d body (length out)) × (o ≡ (write_outcome k d body out).out)
unfolding write_outcome
write-outcome-parts k d body out r o e = (ap (λ (x : WriteOutcome). x.answer) e, ap (λ (x : WriteOutcome). x.out) e)
