-- Alpha and shift of a Float8 body as the code's records have them.
use Rattle.std.specs.Prelude.{ℕ, List, Float}
use Rattle.bodies.specs.Elements.{alpha_of, shift_of}
use Rattle.bodies.specs.declared.float8.Scale.{Scale}
use Rattle.bodies.specs.declared.float8.WideScale.{WideScale}

abbrev pub scale : Float → Float → Scale
scale a s = record { alpha = a; shift = s }

-- the scale that a body of d elements holds
abbrev pub scale_in : ℕ → List ℕ → Scale
scale_in d body = scale (alpha_of d body) (shift_of d body)

-- the same values in f64
abbrev pub wide : Scale → WideScale
wide c = record { alpha = c.alpha; shift = c.shift }
