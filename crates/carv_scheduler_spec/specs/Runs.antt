-- Lists of calls on a board: what each answers and leaves, and the book that is written from the calls and their refusal numbers alone. Assumes nothing.
use Rattle.std.specs.Prelude.{List, [], ◌∷◌, ℕ, ◌^◌, ◌<◌}
use Rattle.carv_objects_spec.specs.Runs as registry_runs
use Rattle.carv_scheduler_spec.specs.Scheduler as scheduler
use Rattle.carv_scheduler_spec.specs.Scheduler.{Board, BoardReply}
use Rattle.carv_scheduler_spec.specs.Book as book
use Rattle.carv_scheduler_spec.specs.Book.{Book, Call, on_objects, create_user_thread, start, block_current, wake, is_blocked_on, kill, tick, plan, read_thread, read_current, read_switches, exit_of, write}

-- A list of calls, each on the board that the last one left.

abbrev pub run : Call → Board → BoardReply
run (on_objects c) b = scheduler.on_registry (registry_runs.run c b.registry) b
run (create_user_thread i budget stack) b = scheduler.create_user_thread i budget stack b
run (start i space cspace root context) b = scheduler.start i space cspace root context b
run (block_current kind number) b = scheduler.block_current kind number b
run (wake i r) b = scheduler.wake i r b
run (is_blocked_on i kind number) b = scheduler.is_blocked_on i kind number b
run (kill i cause) b = scheduler.kill i cause b
run (tick n) b = scheduler.tick n b
run (plan n) b = scheduler.plan n b
run (read_thread i) b = scheduler.read_thread i b
run read_current b = scheduler.read_current b
run read_switches b = scheduler.read_switches b
run (exit_of i) b = scheduler.exit_of i b

-- the board that they leave
abbrev pub after : List Call → Board → Board
after [] b = b
after (c ∷ cs) b = after cs (run c b).after

-- a call and its refusal number
pub record Numbered : Type 0 where
  pub call : Call
  pub number : ℕ

-- each call with its refusal number
abbrev pub numbers : List Call → Board → List Numbered
numbers [] b = []
numbers (c ∷ cs) b = record { call = c; number = (run c b).number } ∷ numbers cs (run c b).after

-- the book written from these
abbrev pub write_all : List Numbered → Book → Book
write_all [] k = k
write_all (n ∷ ns) k = write_all ns (write n.call n.number k)

-- the book after a list of calls on an opening
abbrev pub book_after : List Call → (cpu memory : ℕ) → Book
book_after cs cpu memory = write_all (numbers cs (scheduler.opening cpu memory)) (book.opening cpu memory)

-- A new thread's id is a 64-bit number, as every argument of a call is. Soundness asks it of the threads' ids, so it is said here; of the other arguments nothing need be said.
abbrev pub Fits : Call → Type 0
Fits (on_objects c) = Unit {0}
Fits (create_user_thread i budget stack) = i < 2 ^ 64
Fits (start i space cspace root context) = Unit {0}
Fits (block_current kind number) = Unit {0}
Fits (wake i r) = Unit {0}
Fits (is_blocked_on i kind number) = Unit {0}
Fits (kill i cause) = Unit {0}
Fits (tick n) = Unit {0}
Fits (plan n) = Unit {0}
Fits (read_thread i) = Unit {0}
Fits read_current = Unit {0}
Fits read_switches = Unit {0}
Fits (exit_of i) = Unit {0}

abbrev pub AllFit : List Call → Type 0
AllFit [] = Unit {0}
AllFit (c ∷ cs) = Fits c × AllFit cs
