-- What is read from a dense body is what it was made of. So element by element the code makes what the two steps through Float32Dense make.
use mathlib.Core.Path.{◌≡◌, refl, ap, ◌∙◌}
use mathlib.Core.Bool.{Bool, true, false}
use mathlib.Core.List.{List, ◌++◌, append-nil}
use Prim.Native.Nat.{ℕ, zero, suc, ◌+◌, ◌*◌, ◌<◌, ◌≤◌}
use native.Mathlib.Nat.{mul-le-mul_left, add-zero, zero-add}
use native.Mathlib.Omega.{arith}
use lib.Dec.{T, ltb}
use borrow.Author.Tests.{ltb-true, ltb-false}
use lib.ListN.{length, take, drop, length-drop}
use lib.Seq.{take_all, take-append-le, drop-append-le, drop_at, drop-length}
use lib.Ieee.{Float, Format, binary32, fits, to_bits}
use Rattle.little_endian.specs.Bytes.{number_at, width, float_at, float_bytes, put}
use Rattle.little_endian.proofs.Numbers.{number_at-drop, number_at-take, length-bytes_of}
use Rattle.little_endian.proofs.Floats.{float_at-put}
use Rattle.bodies.specs.Elements.{dense_element}
use Rattle.convert_parts.specs.Pieces.{pieces}
use Rattle.convert_parts.specs.Dense.{floats_of}
use Rattle.convert_parts.specs.Sparse.{is_nonzero, stored_body, value_bytes, sparse_body}
use Rattle.convert_parts.specs.Bits.{is_positive, packed_bits, bit_body}
use Rattle.convert_parts.specs.Quantized.{fitted_scale, quantized_with, quantized_body}
use Rattle.convert_parts.proofs.Pieces.{length-pieces}
use Rattle.convert_parts.proofs.Same.{Same, places_same, pieces_at-same, packed-same, quantized-same}

-- ---- piece i of pieces of w bytes each, and float i of floats
module _ (g : ℕ → List ℕ) (w : ℕ) (wide : (i : ℕ) → length (g i) ≡ w) where
  piece-at : (n i : ℕ) → i < n → take w (drop (w * i) (pieces g n)) ≡ g i
  unfolding pieces
  piece-at zero i l = absurd (omega arith)
  piece-at (suc n) i l = by (ltb i n) refl (piece-at n i)
    where
      long : length (pieces g n) ≡ w * n
      long = length-pieces g w wide n

      by : (b : Bool) → ltb i n ≡ b → (i < n → take w (drop (w * i) (pieces g n)) ≡ g i) → take w (drop (w * i) (pieces g n ++ g n)) ≡ g i
      by true e earlier =
          let m = ltb-true i n e in
          let room : w * (i + 1) ≤ w * n = mul-le-mul_left w (omega arith) in
          let before = pieces g n in
          let inside = drop-append-le (w * i) before (g n) (omega (arith, long)) in
          rw (inside, take-append-le w (drop (w * i) before) (g n) (omega (arith, long, length-drop (w * i) before))) (earlier m)
      by false e earlier =
          let last : i ≡ n = omega (arith, ltb-false i n e) in
          rw (last, drop_at (pieces g n) (g n) (w * n) long) (take_all w (g n) (omega (arith, wide n)))

float-bytes-at : (f : Format) (e : ℕ → Float) (n i : ℕ) → i < n → take (width f) (drop (width f * i) (floats_of f e n)) ≡ float_bytes f (e i)
float-bytes-at f e n i l = piece-at (λ j. float_bytes f (e j)) (width f) (λ j. length-bytes_of (width f) (to_bits f (e j))) n i l

-- a float's own bytes
float-alone : (f : Format) (x : Float) → T (fits f x) → float_at f (float_bytes f x) 0 ≡ x
unfolding put
float-alone f x fit =
    let long = length-bytes_of (width f) (to_bits f x) in
    rw (zero-add, drop-length, append-nil) at (float_at-put f x (float_bytes f x) 0 (omega arith) fit)

pub float-at : (f : Format) (e : ℕ → Float) (n i : ℕ) → i < n → T (fits f (e i)) → dense_element f (floats_of f e n) i ≡ e i
float-at f e n i l fit =
    let w = width f in
    let s = floats_of f e n in
    let part = number_at-take w w (drop (w * i) s) 0 (omega arith) ∙ number_at-drop w (w * i) s 0 ∙ ap (number_at w s) (add-zero (w * i)) in
    rw (← part, float-bytes-at f e n i l) (float-alone f (e i) fit)

-- ---- the second step, from a dense body made of elements that are f32
module _ (e : ℕ → Float) (d : ℕ) (fit : (i : ℕ) → T (fits binary32 (e i))) where
  abbrev dense : List ℕ
  dense = floats_of binary32 e d

  read_back : Same (dense_element binary32 dense) e d
  read_back i l = float-at binary32 e d i l (fit i)

  pub sparse-through : sparse_body binary32 d dense ≡ stored_body (λ i. is_nonzero (e i)) (λ i. float_bytes binary32 (e i)) d
  unfolding stored_body
  sparse-through =
      let p : ℕ → Bool = λ i. is_nonzero (e i) in
      let places = places_same (λ i. is_nonzero (dense_element binary32 dense i)) p d (λ i l. ap is_nonzero (read_back i l)) in
      rw (places, pieces_at-same (value_bytes binary32 dense) (λ i. float_bytes binary32 (e i)) p d (float-bytes-at binary32 e d))

  pub bits-through : bit_body binary32 d dense ≡ packed_bits (λ i. is_positive (e i)) d
  bits-through = packed-same (λ i. is_positive (dense_element binary32 dense i)) (λ i. is_positive (e i)) d (λ i l. ap is_positive (read_back i l))

  pub quantized-through : quantized_body d dense ≡ quantized_with (fitted_scale e d) e d
  unfolding quantized_body
  quantized-through = quantized-same (dense_element binary32 dense) e d read_back
