-- Laws of what follows a body: how long it is, that its count is a byte, and how it is stored.
use mathlib.Core.Path.{◌≡◌, sym}
use mathlib.Core.List.{List, [], ◌∷◌, ◌++◌}
use Prim.Native.Nat.{ℕ, ◌+◌, ◌-◌, ◌%◌, ◌<◌, ◌≤◌}
use native.Mathlib.Omega.{arith}
use Rattle.std.proofs.lemmas.Bool.Decides.{nat_tests}
use lib.ListN.{length, set, length-append}
use Rattle.promises.specs.Onto.{onto}
use Rattle.promises.proofs.Onto.{onto-put}
use Rattle.little_endian.specs.Bytes.{bytes_of, put}
use Rattle.little_endian.proofs.Numbers.{length-bytes_of}
use Rattle.little_endian.proofs.Put.{put_front}
use Rattle.vector_types.specs.Layout.{ceil}
use Rattle.blob_writer.specs.Write.{filler, trailing_bits, tail_of, blob_of}
use Rattle.vector_types.specs.declared.VectorType.{VectorType}
use Rattle.vector_types.specs.declared.VectorType.TheVariants.{Float32Dense, Float64Dense, Float32Sparse, Float1Bit, Float8}

-- one byte after an even body
pub length-filler : (m : ℕ) → length (filler m) ≡ 1 - m % 2
length-filler m = grind (arith, nat_tests)

pub trailing_bits-byte : (d : ℕ) → trailing_bits d < 256
trailing_bits-byte d = omega (arith, length-filler (ceil d 8))

pub length-sparse : (d : ℕ) → length (tail_of Float32Sparse d) ≡ 5
unfolding tail_of
length-sparse d = simp (length-append, length-bytes_of)

pub tail-short : (k : VectorType) (d : ℕ) → length (tail_of k d) ≤ 5
unfolding tail_of
tail-short Float32Dense d = omega arith
tail-short Float64Dense d = omega arith
tail-short Float32Sparse d = omega (arith, length-sparse d)
tail-short Float1Bit d = rw length-append (omega (arith, length-filler (ceil d 8)))
tail-short Float8 d = omega arith

pub length-blob : (k : VectorType) (d : ℕ) (body : List ℕ) → length (blob_of k d body) ≡ length body + length (tail_of k d)
unfolding blob_of
length-blob k d body = length-append body (tail_of k d)

-- the type byte is stored after the four bytes of the dims
pub sparse-put : (l : List ℕ) (d : ℕ) → 5 ≤ length l → set (put l 0 (bytes_of 4 d)) 4 9 ≡ onto (bytes_of 4 d ++ (9 ∷ [])) l
sparse-put l d h = (onto-put (bytes_of 4 d) l (put l 0 (bytes_of 4 d)) 9 4 (sym (length-bytes_of 4 d)) (put_front l (bytes_of 4 d)) (omega arith)).1

-- what the code of the writer is proved by
pub ruleset tails = (length-filler, trailing_bits-byte, length-sparse, tail-short, length-blob, sparse-put)
