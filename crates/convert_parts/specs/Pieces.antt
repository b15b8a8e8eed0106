-- Bytes made of pieces, and places that pass a test.
use Rattle.std.specs.Prelude.{ℕ, zero, suc, Bool, cond, List, [], ◌∷◌, ◌++◌}

-- the pieces g 0, g 1 and so on, n of them
unfoldable pub pieces : (ℕ → List ℕ) → ℕ → List ℕ
pieces g zero = []
pieces g (suc n) = pieces g n ++ g n

-- the places below n at which p holds, in rising order
unfoldable pub places_of : (ℕ → Bool) → ℕ → List ℕ
places_of p zero = []
places_of p (suc n) = places_of p n ++ cond (p n) (n ∷ []) []

-- the pieces at the places of a list, one after another
unfoldable pub pieces_at : (ℕ → List ℕ) → List ℕ → List ℕ
pieces_at g [] = []
pieces_at g (i ∷ is) = g i ++ pieces_at g is
