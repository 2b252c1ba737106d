-- Lists of calls on a registry: what each replies and leaves, the book that is written from the calls and their refusal numbers alone, and an account's line. Assumes nothing.
use Rattle.std.specs.Prelude.{List, [], ◌∷◌, ℕ}
use Rattle.carv_budget.specs.declared.Account.{Account}
use Rattle.carv_objects_spec.specs.Registry as registry
use Rattle.carv_objects_spec.specs.Registry.{Registry, RegistryReply}
use Rattle.carv_objects_spec.specs.Totals as totals
use Rattle.carv_objects_spec.specs.Book as book
use Rattle.carv_objects_spec.specs.Book.{Book, Figures, Call, create, insert, create_budget, charge_more, uncharge, remove, refill, charge_cpu, pays_for_anything, read_account, charge_of, read_totals, write}

-- A list of calls, each on the state that the last one left.

abbrev pub run : Call → Registry → RegistryReply
run (create kind payer backing) r = registry.create kind payer backing r
run (insert kind payer bytes) r = registry.insert kind payer bytes r
run (create_budget parent cpu memory time) r = registry.create_budget parent cpu memory time r
run (charge_more i bytes) r = registry.charge_more i bytes r
run (uncharge i bytes) r = registry.uncharge i bytes r
run (remove i time) r = registry.remove i time r
run (refill i time) r = registry.refill i time r
run (charge_cpu i ns time) r = registry.charge_cpu i ns time r
run (pays_for_anything i) r = registry.pays_for_anything i r
run (read_account i) r = registry.read_account i r
run (charge_of i) r = registry.charge_of i r
run (read_totals i) r = totals.read_totals i r

-- the registry that they leave
abbrev pub after : List Call → Registry → Registry
after [] r = r
after (c ∷ cs) r = after cs (run c r).after

-- a call and its refusal number
pub record Numbered : Type 0 where
  pub call : Call
  pub number : ℕ

-- each call with its refusal number
abbrev pub numbers : List Call → Registry → List Numbered
numbers [] r = []
numbers (c ∷ cs) r = record { call = c; number = (run c r).number } ∷ numbers cs (run c r).after

-- the book written from these
abbrev pub write_all : List Numbered → Book → Book
write_all [] k = k
write_all (n ∷ ns) k = write_all ns (write n.call n.number k)

-- the book after a list of calls on an opening
abbrev pub book_after : List Call → (cpu memory : ℕ) → Book
book_after cs cpu memory = write_all (numbers cs (registry.opening cpu memory)) (book.opening cpu memory)

-- an account's line: "the last four"
abbrev pub line : Account → Figures
line a = record { memory_used = a.memory_used; memory_reserved = a.memory_reserved; cpu_reserved = a.cpu_reserved; cpu_left = a.cpu_left }
