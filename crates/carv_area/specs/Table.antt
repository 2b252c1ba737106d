-- Tables: a list of rows, each an id and what stands under it. The Rust's `BTreeMap`. Assumes nothing.
use Rattle.std.specs.Prelude.{Bool, cond, List, [], ◌∷◌, ℕ, suc, ◌+◌, ◌≤◌, eqb, ltb, Option, Some, None}

-- an id, and what stands under it
pub record Row (A : Type 0) : Type 0 where
  pub id : ℕ
  pub it : A

module _ {A : Type 0} where
  -- what stands under the id i in the first row that has it. BTreeMap::get
  abbrev pub at : List (Row A) → ℕ → Option A
  at [] i = None
  at (r ∷ m) i = cond (eqb r.id i) (Some r.it) (at m i)

  -- with f of it there
  abbrev pub alter : ℕ → (A → A) → List (Row A) → List (Row A)
  alter i f [] = []
  alter i f (r ∷ m) = cond (eqb r.id i) (record { id = i; it = f r.it } ∷ m) (r ∷ alter i f m)

  -- without that row. BTreeMap::remove
  abbrev pub erase : ℕ → List (Row A) → List (Row A)
  erase i [] = []
  erase i (r ∷ m) = cond (eqb r.id i) m (r ∷ erase i m)

  -- the sum of a weight over the rows
  abbrev pub total : (ℕ → A → ℕ) → List (Row A) → ℕ
  total w [] = 0
  total w (r ∷ m) = w r.id r.it + total w m

  -- ids rise from `i` and lie below `n`
  abbrev pub Rising : ℕ → ℕ → List (Row A) → Type 0
  Rising i n [] = i ≤ n
  Rising i n (r ∷ m) = (i ≤ r.id) × Rising (suc r.id) n m

  -- with a under the id i: in its row, or in a new row before the first id above it. BTreeMap::insert
  abbrev pub put : ℕ → A → List (Row A) → List (Row A)
  put i a [] = record { id = i; it = a } ∷ []
  put i a (r ∷ m) =
      cond (eqb r.id i) (record { id = i; it = a } ∷ m)
      (cond (ltb i r.id) (record { id = i; it = a } ∷ r ∷ m) (r ∷ put i a m))

  -- the ids of the rows that pass a test, rising
  abbrev pub pick : (A → Bool) → List (Row A) → List ℕ
  pick p [] = []
  pick p (r ∷ m) = cond (p r.it) (r.id ∷ pick p m) (pick p m)
