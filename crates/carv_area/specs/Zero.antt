-- Are all words of a list 0? Assumes nothing.
use Rattle.std.specs.Prelude.{ℕ, Bool, true, ◌&&◌, List, [], ◌∷◌, eqb}

-- every element is 0
unfoldable pub all_zero : List ℕ → Bool
all_zero [] = true
all_zero (x ∷ l) = eqb x 0 && all_zero l
