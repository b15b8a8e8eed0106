-- To 1-bit, from a dense body of the width g: a bit is 1 exactly if its element is greater than 0.
use Rattle.std.specs.Prelude.{ℕ, zero, suc, ◌+◌, ◌*◌, ◌^◌, Bool, cond, ◌&&◌, List, [], ◌∷◌, ltb, Float}
use Rattle.std.specs.Float.{Format}
use Rattle.std.specs.Float.Ieee.{lt}
use Rattle.float_laws.specs.Zero.{plus_zero}
use Rattle.vector_types.specs.Layout.{ceil}
use Rattle.bodies.specs.Elements.{dense_element}
use Rattle.convert_parts.specs.Pieces.{pieces}

abbrev pub is_positive : Float → Bool
is_positive x = lt plus_zero x

-- byte m by its first n bits: bit j counts 2 ^ j where p holds at 8 * m + j, which is to be below d
unfoldable pub packed_byte : (ℕ → Bool) → ℕ → ℕ → ℕ → ℕ
packed_byte p d m zero = 0
packed_byte p d m (suc j) = packed_byte p d m j + cond (ltb (8 * m + j) d && p (8 * m + j)) (2 ^ j) 0

unfoldable pub packed_bits : (ℕ → Bool) → ℕ → List ℕ
unfolding packed_byte pieces
packed_bits p d = pieces (λ m. packed_byte p d m 8 ∷ []) (ceil d 8)

abbrev pub bit_body : Format → ℕ → List ℕ → List ℕ
bit_body g d body = packed_bits (λ i. is_positive (dense_element g body i)) d
