-- What the law of the 1-bit dot asks of two 1-bit blobs, with the views v and w: in each every bit that stands for no element is zero.
use Rattle.std.specs.Prelude.{ℕ, List}
use Rattle.vector_types.specs.Statements.{UnusedZero}
use Rattle.vector_types.specs.declared.View.{View}

abbrev pub BothUnusedZero : (s t : List ℕ) (v w : View) → Type 0
BothUnusedZero s t v w = UnusedZero s v.dims.0 v.length × UnusedZero t w.dims.0 w.length
