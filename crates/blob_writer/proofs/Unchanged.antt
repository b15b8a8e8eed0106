-- Blobs that come out of reading and writing as they went in: Float64Dense, sparse, and Float32Dense with no type byte.
use mathlib.Core.Path.{◌≡◌, refl, sym, ◌∙◌}
use mathlib.Core.Bool.{false, and-eq-true_iff}
use mathlib.Core.List.{List, [], ◌∷◌}
use Rattle.std.proofs.Common.{Ok}
use Prim.Native.Nat.{ℕ, suc, ◌+◌, ◌-◌, ◌*◌, ◌%◌}
use native.Mathlib.Omega.{arith}
use Rattle.std.proofs.lemmas.Bool.Decides.{nat_tests}
use lib.Dec.{eqb}
use lib.ListN.{length, get_or, take, drop, take-append-drop, drop_of_length-le}
use lib.Seq.{drop-cons, drop-drop, drop-length}
use borrow.Author.Tests.{eqb-true}
use Rattle.little_endian.specs.Bytes.{bytes_of, AreBytes}
use Rattle.little_endian.proofs.Numbers.{bytes_of-number_at}
use Rattle.vector_types.specs.Answers.{accepted_as}
use Rattle.vector_types.specs.Layout.{has_byte, byte_of, named_kind, by_byte, length_before_type, entry_count, layout_row}
use Rattle.vector_types.specs.Read.{read_of}
use Rattle.blob_writer.specs.Write.{tail_of, blob_of}
use Rattle.blob_writer.specs.Rewritten.{rewritten}
use Rattle.vector_types.specs.declared.VectorType.{VectorType}
use Rattle.vector_types.specs.declared.VectorType.TheVariants.{Float32Dense, Float64Dense, Float32Sparse}
use Rattle.vector_types.specs.declared.Mode.TheVariants.{Plain}
use Rattle.vector_types.proofs.Bodies.{body_is}
use Rattle.vector_types.proofs.Views.{view-facts}
use Rattle.vector_types.proofs.Ends.{even-untyped, odd_typed, named-typed}
use Rattle.blob_writer.proofs.Rewritten.{rewritten-as}

-- a byte that names a kind is that kind's
named-byte : (b : ℕ) (k : VectorType) → by_byte b ≡ Ok k → b ≡ byte_of k
unfolding by_byte
named-byte b k names = grind (arith, nat_tests)

-- what stands after the bytes before the type byte: that byte
type-byte : (s : List ℕ) (k : VectorType) → named_kind s ≡ Ok k → has_byte 1 k ≡ false → drop (length_before_type s) s ≡ byte_of k ∷ []
type-byte s k names other =
    let last = named-typed s k names other in
    let byte = named-byte (get_or s (length_before_type s) 0) k (sym (odd_typed s (length_before_type s) last.one_more last.even).0 ∙ names) in
    rw (drop-cons s (length_before_type s) 0 (omega arith), byte, drop_of_length-le s {i = suc (length_before_type s)} (omega arith))

-- ---- where the same follows the body, all is the same
module _ (s : List ℕ) (d m : ℕ) where
  same-tail : (k : VectorType) → read_of Plain s ≡ accepted_as k d m → tail_of k d ≡ drop m s → rewritten s ≡ s
  unfolding blob_of
  same-tail k e end = rewritten-as s (accepted_as k d m) e ∙ rw (body_is s _ e, end) (take-append-drop m s)

  pub untyped-unchanged : read_of Plain s ≡ accepted_as Float32Dense d m → length s % 2 ≡ 0 → rewritten s ≡ s
  unfolding tail_of layout_row
  untyped-unchanged e h =
      let all : m ≡ length s = (view-facts s _ e).long ∙ (even-untyped s h).1 in
      same-tail Float32Dense e (sym (rw all (drop-length s)))

  pub float64-unchanged : read_of Plain s ≡ accepted_as Float64Dense d m → rewritten s ≡ s
  unfolding tail_of layout_row
  float64-unchanged e =
      let t = view-facts s _ e in
      same-tail Float64Dense e (sym (rw t.long (type-byte s Float64Dense t.names refl)))

  pub sparse-unchanged : read_of Plain s ≡ accepted_as Float32Sparse d m → AreBytes s → rewritten s ≡ s
  unfolding tail_of layout_row
  sparse-unchanged e bytes =
      let t = view-facts s _ e in
      let n = length_before_type s in
      let fours = eqb-true n (4 + 8 * entry_count s) ((and-eq-true_iff (eqb n (4 + 8 * entry_count s)) _).0 t.accepts).0 in
      let last = named-typed s Float32Sparse t.names refl in
      let place : n - 4 ≡ m = omega (arith, t.long) in
      let past : m + 4 ≡ n = omega arith in
      let stored : bytes_of 4 d ≡ take 4 (drop m s) = rw (t.sized, place) (bytes_of-number_at 4 s m bytes (omega arith)) in
      let byte : drop 4 (drop m s) ≡ 9 ∷ [] = rw (drop-drop, past) (type-byte s Float32Sparse t.names refl) in
      same-tail Float32Sparse e (rw (stored, ← byte) (take-append-drop 4 (drop m s)))
