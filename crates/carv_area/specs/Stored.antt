-- A table in a list of bytes, and a queue of numbers: a table whose rows are one word wide. Assumes nothing.
use Rattle.std.specs.Prelude.{ℕ, ◌+◌, ◌*◌, ◌/◌, ◌≤◌, ◌≡◌, List, [], ◌∷◌, length, get_or}
use Rattle.carv_area.specs.Words.{words}
use Rattle.carv_area.specs.Rows.{Holds}
use Rattle.carv_area.specs.Keys.{keys, Rising}

-- what `find` asks of the bytes t: there is room for as many rows as the first word says, and the keys rise.
-- `few` and `count` follow; `omega` finds them here
pub record Keyed (w : ℕ) (t : List ℕ) : Type 0 where
  pub some : 1 ≤ w
  pub room : (get_or (words t) 0 0 * w + 1) * 8 ≤ length t
  pub few : get_or (words t) 0 0 * 8 ≤ length t
  pub count : length (keys w (words t)) ≡ get_or (words t) 0 0
  pub rise : Rising (keys w (words t))

-- the words of the bytes t are a table with the rows xs. `size` always holds; `omega` finds it here
pub record Stored {A : Type 0} (fields : A → List ℕ) (w : ℕ) (t : List ℕ) (xs : List A) : Type 0 where
  pub holds : Holds fields w (words t) xs
  pub size : length (words t) ≡ length t / 8

-- the words of a number
abbrev pub one : ℕ → List ℕ
one x = x ∷ []

-- the words of the bytes t are the queue q
abbrev pub Queue : List ℕ → List ℕ → Type 0
Queue t q = Stored one 1 t q
