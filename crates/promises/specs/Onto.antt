-- What a writer that starts at the front leaves.
use Rattle.std.specs.Prelude.{ℕ, List, ◌++◌, length, drop}

-- l, with its first bytes replaced by new
abbrev pub onto : List ℕ → List ℕ → List ℕ
onto new l = new ++ drop (length new) l
