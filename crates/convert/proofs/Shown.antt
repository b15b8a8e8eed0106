-- What the reader promises of the body that it shows: all that a conversion asks.
use mathlib.Core.Path.{◌≡◌}
use mathlib.Core.List.{List}
use Rattle.std.proofs.Common.{Ok}
use Prim.Native.Nat.{ℕ}
use Rattle.vector_types.specs.Read.{read_of}
use Rattle.vector_types.specs.Parts.{body_of}
use Rattle.vector_types.specs.declared.View.{View}
use Rattle.vector_types.specs.declared.Mode.TheVariants.{Plain}
use Rattle.vector_types.proofs.Bodies.{body-facts}
use Rattle.convert_parts.specs.Inner.Fitting.{Fitting}
use Rattle.convert_parts.proofs.Lengths.{length-scratch}

pub shown-fitting : (s : List ℕ) (v : View) → read_of Plain s ≡ Ok v → Fitting v.kind v.dims.0 (body_of s)
shown-fitting s v e =
    let facts = body-facts s v e in
    record { limited = facts.few; fit = facts.fit; inside = facts.inside }

-- how much scratch the code asks for
pub ruleset lengths = (length-scratch)
