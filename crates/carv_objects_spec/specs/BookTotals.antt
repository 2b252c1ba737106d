-- P1's totals as the book has them, worked from the calls and their refusals alone: its budgets with their figures, and its objects with their payers. Assumes nothing.
use Rattle.std.specs.Prelude.{Bool, cond, ◌||◌, ℕ, zero, suc, eqb}
use Rattle.carv_area.specs.Table.{total}
use Rattle.carv_objects_spec.specs.declared.Totals.{Totals}
use Rattle.carv_objects_spec.specs.Book.{Book, Budget, object_of, memory_used, free, cpu_left}

-- going up from i, by the payers in the book, this many times: is b met?
abbrev pub climbs : (times : ℕ) → Book → (b i : ℕ) → Bool
climbs zero k b i = eqb i b
climbs (suc n) k b i = eqb i b || climbs n k b (object_of k i).payer

-- a figure of the book, summed over the live budget b and all live budgets below it
abbrev pub summed : (Budget → ℕ) → Book → (b : ℕ) → ℕ
summed f k b = total (λ i x. cond (climbs i k b i) (f x) 0) k.budgets

abbrev pub totals_of : Book → (b : ℕ) → Totals
totals_of k b = record { memory_used = summed memory_used k b; memory_free = summed free k b; cpu_left = summed cpu_left k b }
