-- A loop that spreads a sparse body over zeros, entry by entry. Over the format.
use mathlib.Core.Path.{◌≡◌, refl, sym, ◌∙◌}
use mathlib.Core.Bool.{false}
use mathlib.Core.List.{List, ◌++◌, append_assoc}
use Prim.Native.Nat.{ℕ, ◌+◌, ◌*◌, ◌<◌, ◌≤◌}
use native.Mathlib.Numerals.{add-one}
use native.Mathlib.Omega.{arith}
use lib.ListN.{length, take, drop, replicate, length-replicate}
use lib.Seq.{take-append-le, drop-append-le, drop-append_seam}
use lib.Ieee.{Format}
use Rattle.promises.specs.Onto.{onto}
use Rattle.promises.proofs.Onto.{onto-within}
use Rattle.little_endian.specs.Bytes.{put, width}
use Rattle.little_endian.proofs.Put.{length-put}
use Rattle.vector_types.specs.Layout.{index_at, has_index_outside}
use Rattle.vector_types.specs.declared.VectorType.TheVariants.{Float32Sparse}
use Rattle.bodies.specs.Entries.{stored_count}
use Rattle.convert_parts.specs.Spread.{entry_bytes, spread, spread_body}
use Rattle.convert_parts.proofs.Pieces.{FilledSoFar, filled, fill-all}
use Rattle.convert_parts.proofs.Spread.{length-entry, entry-room, length-spread}

-- bytes put within what was written, and as many bytes written over it
put-within : (v vs l : List ℕ) (a : ℕ) → a + length vs ≤ length v → put (onto v l) a vs ≡ onto (put v a vs) l
unfolding put
put-within v vs l a room =
    let rest = drop (length v) l in
    let before : a ≤ length v = omega arith in
    let same = length-put v a vs room in
    rw (take-append-le a v rest, drop-append-le (a + length vs) v rest, same, append_assoc (take a v ++ vs) (drop (a + length vs) v) rest)

onto-again : (v u l : List ℕ) → length v ≡ length u → onto v (onto u l) ≡ onto v l
onto-again v u l same = rw (same, drop-append_seam)

abbrev zeros : Format → ℕ → List ℕ
zeros f d = replicate (width f * d) 0

module _ (f : Format) (d : ℕ) (body : List ℕ) (inside : has_index_outside Float32Sparse d body ≡ false) where
  -- the loop starts on l, which starts with zeros
  module _ (u l : List ℕ) (e : l ≡ onto (zeros f d) u) where
    pub spread_none : FilledSoFar (spread f d body) (stored_count body) l l 0
    unfolding spread
    spread_none = record { within = omega arith; written = rw e (sym (onto-again (zeros f d) (zeros f d) u refl)); long = refl }

    pub spread-all : {o : List ℕ} {j : ℕ} → FilledSoFar (spread f d body) (stored_count body) l o j → stored_count body ≤ j → o ≡ onto (spread_body f d body) u
    spread-all h ends =
        let same = length-spread f d body inside (stored_count body) (omega arith) ∙ sym (length-replicate {A = ℕ} (width f * d) 0) in
        fill-all h ends ∙ rw e (onto-again (spread_body f d body) (zeros f d) u same)

  module _ {l o : List ℕ} {j : ℕ} (h : FilledSoFar (spread f d body) (stored_count body) l o j) (less : j < stored_count body) where
    pub spread-room : (a : ℕ) → a ≡ index_at body (stored_count body) j → width f * a + width f ≤ length o
    spread-room a place =
        rw place (omega (arith, h.long, entry-room f d body inside j less, length-spread f d body inside j h.within, onto-within (spread f d body j) l o h.written h.long))

    pub spread-next : (o' vs : List ℕ) (a : ℕ) → a ≡ index_at body (stored_count body) j → vs ≡ entry_bytes f body j → o' ≡ put o (width f * a) vs
        → FilledSoFar (spread f d body) (stored_count body) l o' (j + 1)
    unfolding spread
    spread-next o' vs a place value e =
        let v = spread f d body j in
        let now = length-spread f d body inside j h.within in
        let next = length-spread f d body inside (j + 1) (omega arith) in
        let wide = length-entry f body j less in
        let room = entry-room f d body inside j less in
        let fits = onto-within v l o h.written h.long in
        let put-inside = put-within v (entry_bytes f body j) l (width f * index_at body (stored_count body) j) (omega arith) in
        filled (spread f d body) (stored_count body) l o' (j + 1) (omega arith) (omega arith) (e ∙ rw (place, value, h.written, add-one) put-inside)
