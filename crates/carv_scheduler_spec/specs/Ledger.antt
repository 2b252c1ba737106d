-- P3's ledger for the board's calls, its clock, and what is said of a budget. carv_objects_spec/specs/Ledger.antt is its half for the registry: the ledger itself, and what is summed of it. Like the book
-- it is fed each call's arguments and its refusal number (0: accepted). Assumes nothing.
use Rattle.std.specs.Prelude.{◌≡◌, cond, ◌||◌, List, [], ◌∷◌, map, ℕ, ◌*◌, ◌≤◌, min, eqb, Option, Some, None}
use Rattle.carv_area.specs.Table.{at}
use Rattle.carv_objects_spec.specs.Registry.{Registry, payer_of, account_of}
use Rattle.carv_objects_spec.specs.Within.{within}
use Rattle.carv_objects_spec.specs.Book as objects
use Rattle.carv_objects_spec.specs.Book.{is_live, budget_of, cpu_left, renew}
use Rattle.carv_objects_spec.specs.Ledger as objects_ledger
use Rattle.carv_objects_spec.specs.Ledger.{Ledger, under, spent, note_charge, NeverFall}
use Rattle.carv_scheduler_spec.specs.Scheduler.{tick_ns, opening}
use Rattle.carv_scheduler_spec.specs.Book as book
use Rattle.carv_scheduler_spec.specs.Book.{Book, Call, on_objects, create_user_thread, start, block_current, wake, is_blocked_on, kill, tick, plan, read_thread, read_current, read_switches, exit_of, thread, write}
use Rattle.carv_scheduler_spec.specs.Runs.{Numbered, numbers}

-- "a tick renews the current thread's live budget, then books the smaller of 1,000,000 and the fourth figure"
abbrev pub note_tick : (time : ℕ) → (budget : Option ℕ) → objects.Book → Ledger → Ledger
note_tick time None k l = l
note_tick time (Some i) k l = cond (is_live k i) (note_charge i (min tick_ns (cpu_left (renew time (budget_of k i)))) time l) l

-- what a call writes, k being the book just before it: those of the registry, and an accepted tick
abbrev pub note : Call → (number : ℕ) → Book → Ledger → Ledger
note (on_objects c) number k l = objects_ledger.note c number k.objects.next l
note (create_user_thread i budget stack) number k l = l
note (start i space cspace root context) number k l = l
note (block_current kind n) number k l = l
note (wake i r) number k l = l
note (is_blocked_on i kind n) number k l = l
note (kill i cause) number k l = l
note (tick n) number k l = cond (eqb number 0) (note_tick (n * tick_ns) (thread k.threads k.current).budget k.objects l) l
note (plan n) number k l = l
note (read_thread i) number k l = l
note read_current number k l = l
note read_switches number k l = l
note (exit_of i) number k l = l

-- the ledger written from a list of calls and their refusal numbers, beside the book
abbrev pub note_all : List Numbered → Book → Ledger → Ledger
note_all [] k l = l
note_all (n ∷ ns) k l = note_all ns (write n.call n.number k) (note n.call n.number k l)

-- the same from an opening on
abbrev pub ledger_from : List Numbered → (cpu memory : ℕ) → Ledger
ledger_from ns cpu memory = note_all ns (book.opening cpu memory) (objects_ledger.opening cpu)

-- the ledger after a list of calls on an opening
abbrev pub ledger_after : List Call → (cpu memory : ℕ) → Ledger
ledger_after cs cpu memory = ledger_from (numbers cs (opening cpu memory)) cpu memory

-- The clock.

-- the clock value of a call: its time in ns, or its tick's; most calls have none. A sleep's tick is none
abbrev pub clock : Call → Option ℕ
clock (on_objects c) = objects_ledger.clock c
clock (create_user_thread i budget stack) = None
clock (start i space cspace root context) = None
clock (block_current kind number) = None
clock (wake i r) = None
clock (is_blocked_on i kind number) = None
clock (kill i cause) = None
clock (tick n) = Some (n * tick_ns)
clock (plan n) = Some (n * tick_ns)
clock (read_thread i) = None
clock read_current = None
clock read_switches = None
clock (exit_of i) = None

-- the clock value of a call that is accepted, or refused with 12: no other call moves the board
abbrev pub moving_clock : Numbered → Option ℕ
moving_clock n = cond (eqb n.number 0 || eqb n.number 12) (clock n.call) None

-- 02's "clock values that never fall over the whole history", all calls of it, refused ones included
abbrev pub ClockNeverFalls : List Numbered → Type 0
ClockNeverFalls ns = NeverFall 0 (map (λ (n : Numbered). clock n.call) ns)

-- what is needed of them: of calls that are accepted or refused with 12
abbrev pub MovingClockNeverFalls : List Numbered → Type 0
MovingClockNeverFalls ns = NeverFall 0 (map moving_clock ns)

-- What P3 says of a budget i that was live on a board at some point of a history, r being the registry then and l the ledger of the whole history.
pub record EverLive (r : Registry) (l : Ledger) (i : ℕ) : Type 0 where
  -- "In each [period], the CPU charged to a budget and to all below it .. is at most that budget's allowance."
  pub allowed : (p : ℕ) → spent l p i ≤ (account_of r i).cpu_allowance
  -- the ledger has it, with its payer and its allowance
  pub listed : at l.budgets i ≡ Some (record { parent = payer_of r i; allowance = (account_of r i).cpu_allowance })
  -- and under the budgets that it is within by P1's "going from payer to payer up to the root"
  pub below : (b : ℕ) → under l.budgets b i ≡ within r b i
