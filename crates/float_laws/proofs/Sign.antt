-- Signs: opposite ones, swapped or both negated, and the sign of a product. By cases.
use mathlib.Core.Path.{◌≡◌, refl}
use mathlib.Core.Bool.{Bool, true, false, not, beq}
use lib.Ieee.{unlike}

pub data Opposite : Bool → Bool → Type 0 where
  plus_minus : Opposite false true
  minus_plus : Opposite true false

pub opposite-comm : {s t : Bool} → Opposite s t → Opposite t s
opposite-comm plus_minus = minus_plus
opposite-comm minus_plus = plus_minus

pub opposite-not : {s t : Bool} → Opposite s t → Opposite (not s) (not t)
opposite-not plus_minus = minus_plus
opposite-not minus_plus = plus_minus

pub beq-opposite : {s t : Bool} → Opposite s t → beq s t ≡ false
beq-opposite plus_minus = refl
beq-opposite minus_plus = refl

pub beq-self : (s : Bool) → beq s s ≡ true
beq-self true = refl
beq-self false = refl

pub unlike-comm : (s t : Bool) → unlike s t ≡ unlike t s
unlike-comm true true = refl
unlike-comm true false = refl
unlike-comm false true = refl
unlike-comm false false = refl

pub unlike-not : (s t : Bool) → unlike (not s) t ≡ not (unlike s t)
unlike-not true true = refl
unlike-not true false = refl
unlike-not false true = refl
unlike-not false false = refl
