-- What a function promises that puts a text or bytes at the start of a buffer and answers how many there are.
use Rattle.std.specs.Prelude.{ℕ, ◌≡◌, List, length}
use Rattle.promises.specs.Onto.{onto}

-- of a text, the buffer before the call, the answer r, and the buffer after the call
pub record Puts (text before : List ℕ) (r : ℕ) (after : List ℕ) : Type 0 where
  pub size : r ≡ length text
  pub left : after ≡ onto text before
