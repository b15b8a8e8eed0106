-- Reading from a body with more bytes after it: what stands in the body is read as from the body alone, and what follows it by its own places.
use mathlib.Core.Path.{◌≡◌, refl, ap, ◌∙◌}
use mathlib.Core.List.{List, ◌++◌}
use Prim.Native.Nat.{ℕ, zero, suc, ◌+◌, ◌-◌, ◌*◌, ◌/◌, ◌%◌, ◌<◌}
use native.Mathlib.Omega.{arith}
use lib.Dec.{leb}
use lib.ListN.{length, get_or, length-append, get_or-append}
use lib.Seq.{get_or-append-add}
use Rattle.vector_types.specs.Search.{first_index, any_index}
use Rattle.vector_types.specs.Layout.{named_kind, by_byte, length_before_type, is_outside}
use Rattle.vector_types.specs.Read.{is_not_above_previous, unused_set}
use Rattle.vector_types.proofs.Bodies.{index-appended}
use Rattle.vector_types.proofs.Ends.{odd_typed}
use Rattle.vector_types.proofs.Some.{first-same, some_same}

module _ (body tail : List ℕ) where
  -- the kind that is named, and how many bytes stand before the type byte
  pub named-by-tail : (i : ℕ) → length tail ≡ i + 1 → (length body + i) % 2 ≡ 0
      → (named_kind (body ++ tail) ≡ by_byte (get_or tail i 0)) × (length_before_type (body ++ tail) ≡ length body + i)
  named-by-tail i long h =
      let (names, size) = odd_typed (body ++ tail) (length body + i) (rw length-append (omega arith)) h in
      (names ∙ rw get_or-append-add, size)

  -- the byte before the last
  pub count-appended : (i : ℕ) → get_or (body ++ tail) (length body + (i + 1) - 1) 0 ≡ get_or tail i 0
  count-appended i = let e : length body + (i + 1) - 1 ≡ length body + i = omega arith in rw (e, get_or-append-add)

  -- the k indices of a sparse body
  pub outside-appended : (k d : ℕ) → length body ≡ 8 * k → any_index (is_outside (body ++ tail) k d) k ≡ any_index (is_outside body k d) k
  outside-appended k d long =
      some_same (is_outside (body ++ tail) k d) (is_outside body k d) k (λ j h. ap (λ (i : ℕ). leb d i) (index-appended body tail k long j h))

  pub order-appended : (k : ℕ) → length body ≡ 8 * k → first_index (is_not_above_previous (body ++ tail) k) k ≡ first_index (is_not_above_previous body k) k
  order-appended k long = first-same (is_not_above_previous (body ++ tail) k) (is_not_above_previous body k) k same-order
    where
      same-order : (j : ℕ) → j < k → is_not_above_previous (body ++ tail) k j ≡ is_not_above_previous body k j
      same-order zero h = refl
      same-order (suc j) h = rw (index-appended body tail k long (suc j) h, index-appended body tail k long j (omega arith))

  -- the bits of a 1-bit body past the first d
  pub unused-appended : (d : ℕ) → any_index (unused_set (body ++ tail) d) (8 * length body - d) ≡ any_index (unused_set body d) (8 * length body - d)
  unused-appended d =
      some_same (unused_set (body ++ tail) d) (unused_set body d) (8 * length body - d)
      (λ i h. rw (get_or-append body tail 0 ((d + i) / 8) (omega arith)))
