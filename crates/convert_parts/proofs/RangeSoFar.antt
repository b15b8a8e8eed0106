-- A loop that searches the range of elements, and what follows the bytes of a Float8 body.
use mathlib.Core.Path.{◌≡◌, ◌∙◌}
use mathlib.Core.List.{List, [], ◌∷◌, ◌++◌, append_assoc}
use Prim.Native.Nat.{ℕ, ◌+◌, ◌-◌, ◌*◌, ◌≤◌, ◌<◌}
use native.Mathlib.Omega.{arith}
use native.Mathlib.Numerals.{add-one}
use lib.ListN.{length, take, drop, replicate, length-append, length-replicate}
use lib.Ieee.{Float, binary32}
use borrow.Rule.Slice.PartMut.{put_mid}
use Rattle.promises.specs.Onto.{onto}
use Rattle.promises.proofs.Onto.{onto-then}
use Rattle.little_endian.specs.Bytes.{put, float_bytes}
use Rattle.little_endian.proofs.Numbers.{length-bytes_of}
use Rattle.vector_types.specs.Layout.{ceil}
use Rattle.bodies.specs.declared.float8.Scale.{Scale}
use Rattle.convert_parts.specs.Pieces.{pieces}
use Rattle.convert_parts.specs.Quantized.{least, greatest, quantum, scale_for, fitted_scale, scale_end, quantized_with}
use Rattle.convert_parts.specs.Inner.Ranges.{no_range, wider_by, range_of}
use Rattle.convert_parts.specs.declared.quantized.Range.{Range}
use Rattle.convert_parts.proofs.Pieces.{length-bytes, put-after}

-- ---- a loop of n turns: after i of them r is the range of the first i elements
pub record RangeSoFar (e : ℕ → Float) (n i : ℕ) (r : Range) : Type 0 where
  pub within : i ≤ n
  pub found : r ≡ range_of e i

pub range_none : (e : ℕ → Float) (n : ℕ) {r : Range} → r ≡ no_range → RangeSoFar e n 0 r
unfolding least greatest
range_none e n h = record { within = omega arith; found = h }

pub range-next : (e : ℕ → Float) {n i : ℕ} {r w : Range} {x : Float} → RangeSoFar e n i r → i < n → x ≡ e i → w ≡ wider_by r x → RangeSoFar e n (i + 1) w
unfolding least greatest
range-next e {i = i} h less same wide = record { within = omega arith; found = wide ∙ rw (add-one i, h.found, same) }

pub range_all : (e : ℕ → Float) {n i : ℕ} {r : Range} → RangeSoFar e n i r → n ≤ i → r ≡ range_of e n
range_all e {n} {i} h ends = let all : n ≡ i = omega (arith, h.within) in rw all h.found

-- ---- the end of a Float8 body
pub length-end : (d : ℕ) (c : Scale) → length (scale_end d c) ≡ 4 * ceil d 4 - d + 8
length-end d c = simp (length-append, length-replicate, length-bytes_of)

-- what three writers leave: the zeros, alpha and shift
pub end-put : (d padding : ℕ) (c : Scale) (l o o' o'' : List ℕ) → padding ≡ 4 * ceil d 4 - d
    → o ≡ onto (replicate padding 0) l → o' ≡ put o padding (float_bytes binary32 c.alpha) → o'' ≡ put o' (padding + 4) (float_bytes binary32 c.shift)
    → o'' ≡ onto (scale_end d c) l
end-put d padding c l o o' o'' gap zeros alpha shift =
    let z : List ℕ = replicate padding 0 in
    let a = float_bytes binary32 c.alpha in
    let s = float_bytes binary32 c.shift in
    let long : length z ≡ padding = length-replicate padding 0 in
    let two = alpha ∙ put-after z a l o padding long zeros in
    let longer : length (z ++ a) ≡ padding + 4 = rw (length-append, long, length-bytes_of) in
    let three = shift ∙ put-after (z ++ a) s l o' (padding + 4) longer two in
    rw (← gap) (rw (append_assoc z a s) at three)

-- what two writers leave: the bytes by the scale that fits the range, and the end as a part from d on
pub quantized-put : (d : ℕ) (e : ℕ → Float) (r : Range) (c : Scale) (l o ys : List ℕ) → r ≡ range_of e d → c ≡ scale_for d r.low r.high
    → o ≡ onto (pieces (λ i. quantum c (e i) ∷ []) d) l → ys ≡ onto (scale_end d c) (take (length o - d) (drop d o))
    → put_mid d (length o - d) o ys ≡ onto (quantized_with (fitted_scale e d) e d) l
quantized-put d e r c l o ys found fitted bytes end =
    let fits : c ≡ fitted_scale e d = fitted ∙ rw found in
    rw (← fits) (onto-then (pieces (λ i. quantum c (e i) ∷ []) d) (scale_end d c) l o ys d bytes (length-bytes (λ i. quantum c (e i)) d) end)

pub length-quantized : (c : Scale) (e : ℕ → Float) (d : ℕ) → length (quantized_with c e d) ≡ 4 * ceil d 4 + 8
length-quantized c e d = rw (length-append, length-bytes (λ i. quantum c (e i)) d, length-end d c) (omega arith)
