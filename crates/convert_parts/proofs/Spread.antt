-- How long a sparse body spread over a dense one is, where its indices are below the dims. Over the format.
use mathlib.Core.Path.{◌≡◌, ◌∙◌}
use mathlib.Core.Bool.{false}
use mathlib.Core.List.{List}
use Prim.Native.Nat.{ℕ, zero, suc, ◌+◌, ◌*◌, ◌<◌, ◌≤◌}
use native.Mathlib.Nat.{mul-le-mul_left}
use native.Mathlib.Omega.{arith}
use lib.ListN.{length, drop, length-drop, length-replicate}
use lib.Seq.{length-take-le}
use lib.Ieee.{Format, binary32, binary64, to_bits}
use borrow.Author.Tests.{leb-false}
use Rattle.little_endian.specs.Bytes.{width, f32_at}
use Rattle.little_endian.proofs.Numbers.{length-bytes_of}
use Rattle.little_endian.proofs.Put.{length-put}
use Rattle.vector_types.specs.Layout.{index_at, is_outside, has_index_outside}
use Rattle.vector_types.specs.declared.VectorType.TheVariants.{Float32Sparse}
use Rattle.vector_types.proofs.Some.{some-false}
use Rattle.bodies.specs.Entries.{stored_count}
use Rattle.convert_parts.specs.Spread.{entry_bytes, spread}

pub length-entry : (f : Format) (body : List ℕ) (j : ℕ) → j < stored_count body → length (entry_bytes f body j) ≡ width f
length-entry binary32 body j less = length-take-le 4 (drop (4 * j) body) (rw length-drop (omega arith))
length-entry binary64 body j less = length-bytes_of 8 (to_bits binary64 (f32_at body (4 * j)))

module _ (f : Format) (d : ℕ) (body : List ℕ) (inside : has_index_outside Float32Sparse d body ≡ false) where
  pub index_below : (j : ℕ) → j < stored_count body → index_at body (stored_count body) j < d
  index_below j less = leb-false d (index_at body (stored_count body) j) (some-false (is_outside body (stored_count body) d) (stored_count body) inside j less)

  pub entry-room : (j : ℕ) → j < stored_count body → width f * index_at body (stored_count body) j + width f ≤ width f * d
  entry-room j less = omega (arith, mul-le-mul_left (width f) (index_below j less))

  pub length-spread : (j : ℕ) → j ≤ stored_count body → length (spread f d body j) ≡ width f * d
  unfolding spread
  length-spread zero h = length-replicate (width f * d) 0
  length-spread (suc j) h =
      let lower = length-spread j (omega arith) in
      let room = entry-room j (omega arith) in
      let wide = length-entry f body j (omega arith) in
      length-put (spread f d body j) (width f * index_at body (stored_count body) j) (entry_bytes f body j) (omega arith) ∙ lower
