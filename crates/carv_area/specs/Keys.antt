-- The keys of a table, the first word of each row, and the place of a key. Assumes nothing.
use Rattle.std.specs.Prelude.{ℕ, zero, suc, ◌+◌, ◌*◌, ◌<◌, cond, List, [], ◌∷◌, length, get_or, eqb, Option, Some, None}
use Rattle.carv_area.specs.Lists.{tab}

-- the first words of the rows of the table l, whose rows are w words wide
unfoldable pub keys : ℕ → List ℕ → List ℕ
keys w l = tab (get_or l 0 0) (λ i. get_or l (i * w + 1) 0)

-- they rise
abbrev pub Rising : List ℕ → Type 0
Rising ks = (i j : ℕ) → i < j → j < length ks → get_or ks i 0 < get_or ks j 0

-- one place further on
abbrev pub after : Option ℕ → Option ℕ
after (Some i) = Some (suc i)
after None = None

-- the place of the first key that is x
unfoldable pub find_in : List ℕ → ℕ → Option ℕ
find_in [] x = None
find_in (k ∷ ks) x = cond (eqb k x) (Some zero) (after (find_in ks x))
