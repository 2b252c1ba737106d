-- What a call notes in P3's ledger: nothing is struck out, each charge bears the call's clock value, and, held against 01's book, of each budget the book takes the CPU time that the
-- ledger notes as charged to it, and what is carved out of it, and nothing else. Assumes nothing.
use Rattle.std.specs.Prelude.{◌≡◌, cond, List, [], ◌∷◌, ◌++◌, ℕ, ◌+◌, ◌≤◌, eqb, Option, Some}
use Rattle.carv_area.specs.Table.{Row, at}
use Rattle.carv_objects_spec.specs.Book.{Book, Budget}
use Rattle.carv_objects_spec.specs.Ledger.{Carved, Charge, Ledger}

-- these charges are of this time
abbrev pub Timed : (time : Option ℕ) → List Charge → Type 0
Timed time [] = Unit {0}
Timed time (x ∷ xs) = (time ≡ Some x.time) × Timed time xs

-- From l to l' nothing is struck out: budgets and charges come in front of those that were there, and the charges are of this time.
pub record Adds (time : Option ℕ) (l l' : Ledger) : Type 0 where
  pub carved : List (Row Carved)
  pub budgets : l'.budgets ≡ carved ++ l.budgets
  pub charged : List Charge
  pub charges : l'.charges ≡ charged ++ l.charges
  pub timed : Timed time charged

-- what was charged to budget i itself, in all periods
abbrev pub charged_to : List Charge → (i : ℕ) → ℕ
charged_to [] i = 0
charged_to (x ∷ xs) i = cond (eqb x.budget i) x.ns 0 + charged_to xs i

-- A budget goes from x to y, and what was charged to it from c to d. What the book has taken of its CPU time since the last renewal, none if that is a new one, has grown by what was
-- charged to it and by what was carved out of it.
pub record Booked (x y : Budget) (c d : ℕ) : Type 0 where
  pub later : x.start ≤ y.start
  pub taken : y.taken_cpu + c + x.carved_cpu ≡ cond (eqb y.start x.start) x.taken_cpu 0 + d + y.carved_cpu

-- the same of budget i, live in the book k and in k'
abbrev pub Accounted : (k k' : Book) → (c d : ℕ) → (i : ℕ) → Type 0
Accounted k k' c d i = (x y : Budget) → at k.budgets i ≡ Some x → at k'.budgets i ≡ Some y → Booked x y c d
