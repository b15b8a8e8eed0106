-- A blob that was read and written again is no longer than before, by its row of the layout table, and does not change a second time.
use mathlib.Core.Path.{◌≡◌, refl, sym, ap, ◌∙◌}
use mathlib.Core.Bool.{true, not, and-eq-true_iff}
use mathlib.Core.List.{List}
use Rattle.std.proofs.Common.{Result, Ok, Err, None}
use Prim.Native.Nat.{ℕ, ◌+◌, ◌-◌, ◌*◌, ◌%◌, ◌≤◌}
use native.Mathlib.Omega.{arith}
use lib.Dec.{leb, eqb}
use lib.ListN.{length, length-append}
use borrow.Author.Tests.{eqb-true, leb-true}
use Rattle.little_endian.specs.Bytes.{AreBytes}
use Rattle.little_endian.proofs.Numbers.{length-bytes_of}
use Rattle.vector_types.specs.Answers.{first_given}
use Rattle.vector_types.specs.Search.{any_index}
use Rattle.vector_types.specs.Layout.{ceil, named_kind, length_before_type, trailing_count, entry_count, sparse_dims, row_accepts, dims_of, length_of, is_outside, layout_row}
use Rattle.vector_types.specs.Read.{read_of}
use Rattle.vector_types.specs.Parts.{body_of}
use Rattle.blob_writer.specs.Write.{tail_of, blob_of, write_refusals}
use Rattle.blob_writer.specs.Rewritten.{rewritten, rewritten_as}
use Rattle.vector_types.specs.declared.View.{View}
use Rattle.vector_types.specs.declared.Refusal.{Refusal}
use Rattle.vector_types.specs.declared.VectorType.{VectorType}
use Rattle.vector_types.specs.declared.VectorType.TheVariants.{Float32Dense, Float64Dense, Float32Sparse, Float1Bit, Float8}
use Rattle.vector_types.specs.declared.Mode.TheVariants.{Plain}
use Rattle.vector_types.proofs.Bodies.{length-body, body-facts}
use Rattle.vector_types.proofs.Views.{view-facts, view_made}
use Rattle.vector_types.proofs.Bools.{and-three}
use Rattle.vector_types.proofs.Ends.{named-typed, before-within}
use Rattle.blob_writer.proofs.Tails.{length-filler}
use Rattle.blob_writer.proofs.Written.{unrefused, reads-back}

-- ---- what a row that accepts a blob tells of what the writer puts after the body: there is room for it, and few bytes more
record TailRoom (k : VectorType) (s : List ℕ) : Type 0 where
  room : length_of k s + length (tail_of k (dims_of k s)) ≤ length s
  lost : AreBytes s → length s ≤ length_of k s + length (tail_of k (dims_of k s)) + 30

tail-room : (k : VectorType) (s : List ℕ) → named_kind s ≡ Ok k → row_accepts k s ≡ true → TailRoom k s
unfolding tail_of layout_row
tail-room Float32Dense s names row = record { room = omega (arith, before-within s); lost = λ _. omega (arith, before-within s) }
tail-room Float64Dense s names row =
    let last = named-typed s Float64Dense names refl in
    record { room = omega arith; lost = λ _. omega arith }
tail-room Float32Sparse s names row =
    let n = length_before_type s in
    let k = entry_count s in
    let (size, _) = (and-eq-true_iff (eqb n (4 + 8 * k)) (not (any_index (is_outside s k (sparse_dims s)) k))).0 row in
    let size = eqb-true n (4 + 8 * k) size in
    let last = named-typed s Float32Sparse names refl in
    record { room = rw (length-append, length-bytes_of) (omega arith); lost = λ _. rw (length-append, length-bytes_of) (omega arith) }
tail-room Float1Bit s names row =
    let n = length_before_type s in
    let t = trailing_count s in
    let tests = and-three (leb 2 n) (leb 8 t) (leb t (8 * n - 1)) row in
    let last = named-typed s Float1Bit names refl in
    let d : dims_of Float1Bit s ≡ 8 * n - t = refl in
    record {
      room = rw length-append (omega (arith, leb-true, length-filler (ceil (dims_of Float1Bit s) 8)));
      lost = λ bytes. rw length-append (omega (arith, leb-true, bytes (n - 1), length-filler (ceil (dims_of Float1Bit s) 8)));
    }
tail-room Float8 s names row =
    let n = length_before_type s in
    let t = trailing_count s in
    let tests = and-three (leb 14 n) (eqb ((n - 10) % 4) 0) (leb t 3) row in
    let d : dims_of Float8 s ≡ n - 10 - t = refl in
    let last = named-typed s Float8 names refl in
    record { room = omega (arith, leb-true); lost = λ _. omega (arith, leb-true) }

-- ---- the blob of a view: it can be written, is no longer than the one that was read, reads as that one, and stays
pub rewritten-as : (s : List ℕ) (r : Result View Refusal) → read_of Plain s ≡ r → rewritten s ≡ rewritten_as r s
unfolding rewritten
rewritten-as s r e = ap (λ (r : Result View Refusal). rewritten_as r s) e

abbrev pub blob_for : View → List ℕ → List ℕ
blob_for v s = blob_of v.kind v.dims.0 (body_of s)

module _ (s : List ℕ) (v : View) (e : read_of Plain s ≡ Ok v) where
  view-tail-room : TailRoom v.kind s
  view-tail-room = let t = view-facts s v e in tail-room v.kind s t.names t.accepts

  blob-no-longer : length (blob_for v s) ≤ length s
  unfolding blob_of
  blob-no-longer = let t = view-facts s v e in rw (length-append, length-body s v e, t.sized, t.long) view-tail-room.room

  blob-little-shorter : AreBytes s → length s ≤ length (blob_for v s) + 30
  unfolding blob_of
  blob-little-shorter bytes = let t = view-facts s v e in rw (length-append, length-body s v e, t.sized, t.long) (view-tail-room.lost bytes)

  pub rewritable : first_given (write_refusals v.kind v.dims.0 (body_of s)) ≡ None
  rewritable =
      let b = body-facts s v e in
      unrefused v.kind v.dims.0 (body_of s)
      (record {
        few = b.few;
        fit = b.fit;
        short = omega (arith, blob-no-longer, (view-facts s v e).short);
        inside = b.inside;
        elements = b.elements;
      })

  pub blob-same : (read_of Plain (blob_for v s) ≡ Ok v) × (body_of (blob_for v s) ≡ body_of s)
  blob-same = let (view, body) = reads-back v.kind v.dims.0 (body_of s) rewritable in
      ((rw (length-body s v e) at view) ∙ ap Ok (view_made s v e), body)

  blob-once : rewritten (blob_for v s) ≡ blob_for v s
  blob-once = rewritten-as (blob_for v s) (Ok v) blob-same.0 ∙ rw blob-same.1

-- ---- the same of any blob: one that is refused is not rewritten
pub rewritten-by : (s : List ℕ) (P : List ℕ → Type 0) → ((v : View) → read_of Plain s ≡ Ok v → P (blob_for v s))
    → ((r : Refusal) → read_of Plain s ≡ Err r → P s) → P (rewritten s)
rewritten-by s P view refusal = by_answer (read_of Plain s) refl
  where
    by_answer : (r : Result View Refusal) → read_of Plain s ≡ r → P (rewritten s)
    by_answer (Ok v) e = rw (rewritten-as s (Ok v) e) (view v e)
    by_answer (Err r) e = rw (rewritten-as s (Err r) e) (refusal r e)

pub rewritten-no-longer : (s : List ℕ) → length (rewritten s) ≤ length s
rewritten-no-longer s = rewritten-by s (λ w. length w ≤ length s) (blob-no-longer s) (λ r e. omega arith)

pub rewritten-little-shorter : (s : List ℕ) → AreBytes s → length s ≤ length (rewritten s) + 30
rewritten-little-shorter s bytes =
    rewritten-by s (λ w. length s ≤ length w + 30) (λ v e. blob-little-shorter s v e bytes) (λ r e. omega arith)

pub rewritten-once : (s : List ℕ) → rewritten (rewritten s) ≡ rewritten s
rewritten-once s = rewritten-by s (λ w. rewritten w ≡ w) (blob-once s) (λ r. rewritten-as s (Err r))

-- two blobs of one view and body become one
pub rewritten-alike : (s t : List ℕ) (v : View) → read_of Plain s ≡ Ok v → read_of Plain t ≡ Ok v → body_of s ≡ body_of t → rewritten s ≡ rewritten t
rewritten-alike s t v e f body = rewritten-as s (Ok v) e ∙ rw body (sym (rewritten-as t (Ok v) f))
