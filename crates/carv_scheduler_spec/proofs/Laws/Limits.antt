-- Document 01's listed waits and causes, states, ids, limits and refusal numbers of threads, with the numbers written out: a field for each sentence, most of them a
-- case on either side of a limit. Assumes nothing.
use Rattle.std.specs.Prelude.{◌≡◌, refl, true, false, List, [], ◌∷◌, ℕ, zero, suc, ◌+◌, ◌≤◌, ◌<◌, length, Some, None}
use Rattle.std.proofs.Common.{arith, le-leb}
use Rattle.std.proofs.lemmas.Bool.{lt-leb}
use Rattle.carv_budget.specs.Account.{due, renew}
use Rattle.carv_objects_spec.specs.Book as objects
use Rattle.carv_objects_spec.specs.Registry.{account_of}
use Rattle.carv_scheduler_spec.specs.declared.Wait.TheVariants.{Sleep}
use Rattle.carv_scheduler_spec.specs.declared.State.{State}
use Rattle.carv_scheduler_spec.specs.declared.State.TheVariants.{Inactive, Ready, Running, Blocked, Dead}
use Rattle.carv_scheduler_spec.specs.declared.Context.{Context}
use Rattle.carv_scheduler_spec.specs.declared.Results.{Results}
use Rattle.carv_scheduler_spec.specs.declared.Thread.{Thread}
use Rattle.carv_scheduler_spec.specs.Book as book
use Rattle.carv_scheduler_spec.specs.Demand1.{renewal_left}
use Rattle.carv_scheduler_spec.specs.Scheduler.{Board, no_switch, ended, is_blocked, record_of, idle, last_tick, wait_listed, cause_listed, fresh_context, results, fresh, thread, most_exits, most_threads, opening, create_user_thread, start, block_current, wake, is_blocked_on, kill, tick, plan, read_thread}
use Rattle.carv_scheduler_spec.specs.Sound.{sound}
use Rattle.carv_scheduler_spec.proofs.Laws.SoundLaws.{sound_told}

-- "Opening: CPU 10,000,000, memory 1,000,000"
abbrev pub board : Board
board = opening 10_000_000 1_000_000

-- thread 7 is made on the root budget; then started, and planned for thread 0 that ends
abbrev pub made : Board
made = (create_user_thread 7 1 true board).after

abbrev pub started : Board
started = (start 7 20 30 40 fresh_context made).after

abbrev pub running : Board
running = (plan 0 (kill 0 1 started).after).after

-- thread 7 sleeps until tick 3, and idle runs
abbrev pub asleep : Board
asleep = (plan 0 (block_current 5 3 running).after).after

-- thread 7 was woken with these results, and sleeps again
abbrev pub asleep_with : (first second third : ℕ) → Board
asleep_with first second third = (plan 0 (block_current 5 3 (plan 0 (wake 7 (results first second third) asleep).after).after).after).after

-- thread 7, started with space 20, cspace 30 and root 40
abbrev pub at_work : State → Context → Results → (ticks : ℕ) → Thread
at_work state context results ticks = record {
  state = state;
  budget = Some 1;
  spaces = Some (record { space = 20; cspace = 30; root = 40 });
  context = context;
  results = results;
  ticks = ticks;
}

abbrev pub told : (x y z : ℕ) → Results
told x y z = record { first = x; second = y; third = z }

abbrev pub words : Context
words = record { rip = 1; rsp = 2; rflags = 3; rdi = 4; rsi = 5; cs = 6; ss = 7 }

-- the current thread sleeps until tick 3, and the next runs
abbrev pub to_sleep : Board → Board
to_sleep b = (plan 0 (block_current 5 3 b).after).after

-- threads 8 and 7 are started in this order; thread 0, then 8, then 7 sleep
abbrev pub all_asleep : Board
all_asleep =
    to_sleep (to_sleep (to_sleep
    (start 7 0 0 0 fresh_context (start 8 0 0 0 fresh_context (create_user_thread 8 1 true made).after).after).after))

-- idle runs, and no other thread is there
abbrev pub idling : Board
idling = (plan 0 (kill 0 1 board).after).after

-- thread 7 runs, with these run ticks, on a board with this switch count
abbrev pub counted : (ticks switches : ℕ) → Board
counted ticks switches = record {
  registry = board.registry;
  threads = record { id = 7; it = at_work Running fresh_context (told 0 0 0) ticks } ∷ record { id = idle; it = fresh Ready None } ∷ [];
  queue = [];
  current = 7;
  switches = switches;
  exits = [];
}

-- thread 7's run ticks after a tick, and the switch count after a planning that leaves thread 7 for idle, from these
abbrev pub ticks_after : ℕ → ℕ
ticks_after n = (thread (tick 1 (counted n 0)).after.threads 7).ticks

abbrev pub switches_after : ℕ → ℕ
switches_after n = (plan 0 (kill 7 1 (counted 0 n)).after).after.switches

-- n threads more than thread 0 and idle
abbrev pub crowd : ℕ → Board
crowd zero = board
crowd (suc n) = (create_user_thread (101 + n) 1 true (crowd n)).after

abbrev pub state_of : Board → ℕ → State
state_of b i = (thread b.threads i).state

-- what f gives for each of 0 to 3, and 0 to 6
abbrev pub to_3 : (ℕ → ℕ) → List ℕ
to_3 f = f 0 ∷ f 1 ∷ f 2 ∷ f 3 ∷ []

abbrev pub to_6 : (ℕ → ℕ) → List ℕ
to_6 f = f 0 ∷ f 1 ∷ f 2 ∷ f 3 ∷ f 4 ∷ f 5 ∷ f 6 ∷ []

pub record Limits : Type 0 where
  -- "4. Is each .. wait .. listed?" "Waits: 1 Send, 2 Recv, 3 Reply, 4 Notification, 5 Sleep"
  pub waits : (to_6 (λ k. (block_current k 9 board).number) ≡ 4 ∷ 0 ∷ 0 ∷ 0 ∷ 0 ∷ 0 ∷ 4 ∷ [])
      × (to_6 (λ k. (is_blocked_on 0 k 9 board).number) ≡ 4 ∷ 0 ∷ 0 ∷ 0 ∷ 0 ∷ 0 ∷ 4 ∷ [])
  pub waits_above : (k : ℕ) → 5 < k → wait_listed k ≡ false
  -- "4. Is each .. cause listed?" "Causes of an end: 1 Destroyed, 2 Faulted"
  pub causes : to_3 (λ c. (kill 0 c board).number) ≡ 4 ∷ 0 ∷ 0 ∷ 4 ∷ []
  pub causes_above : (c : ℕ) → 2 < c → cause_listed c ≡ false
  -- "idle (id 2^64 − 1)"
  pub idle_is : idle ≡ 18_446_744_073_709_551_615
  pub idle_there : (read_thread 18_446_744_073_709_551_615 board).number ≡ 0
  pub idle_runs : idling.current ≡ 18_446_744_073_709_551_615
  -- "5. Is a new thread's id without a record and neither 0 nor 2^64 − 1, or the killed thread not idle?" Thread 0 is gone from the second board
  pub new_ids : ((create_user_thread 7 1 true made).number ≡ 5) × ((create_user_thread 0 1 true idling).number ≡ 5)
      × ((create_user_thread 18_446_744_073_709_551_615 1 true board).number ≡ 5) × ((create_user_thread 18_446_744_073_709_551_614 1 true board).number ≡ 0)
      × ((create_user_thread 1 1 true board).number ≡ 0)
  pub killed_ids : ((kill 18_446_744_073_709_551_615 1 board).number ≡ 5) × ((kill 18_446_744_073_709_551_614 1 board).number ≡ 7)
  -- "6. Has the table a place (.. 128 threads, idle counted)?": 127 threads and one more, then 128
  pub place_127 : (length (crowd 125).threads ≡ 127) × ((create_user_thread 7 1 true (crowd 125)).number ≡ 0)
  pub place_128 : (length (crowd 126).threads ≡ 128) × ((create_user_thread 7 1 true (crowd 126)).number ≡ 6)
  pub most_threads_is : most_threads ≡ 128
  -- "7. Do the .. thread exist?": for a start, a waking, a kill, a reading
  pub missing : (start 9 0 0 0 fresh_context board).number ∷ (wake 9 (results 0 0 0) board).number ∷ (kill 9 1 board).number ∷ (read_thread 9 board).number ∷ []
      ≡ 7 ∷ 7 ∷ 7 ∷ 7 ∷ []
  -- "(a new thread's budget id is not looked up)"
  pub no_budget : (create_user_thread 7 99 true board).number ≡ 0
  -- "A thread whose budget id names no live budget is passed over"
  pub passed_over : ((plan 0 (start 7 0 0 0 fresh_context (create_user_thread 7 99 true board).after).after).value ≡ Some no_switch)
      × ((plan 0 (start 7 0 0 0 fresh_context (create_user_thread 7 99 true board).after).after).after.queue ≡ 7 ∷ [])
  -- "For a missing id .. `is_blocked_on` say no"
  pub missing_blocked : (is_blocked_on 9 5 3 board).value ≡ Some (is_blocked false)
  -- "8. Is a started thread Inactive, a woken one Blocked?" Thread 7 is Inactive, Ready, Running and Blocked
  pub starts : (start 7 0 0 0 fresh_context made).number ∷ (start 7 0 0 0 fresh_context started).number ∷ (start 7 0 0 0 fresh_context running).number
      ∷ (start 7 0 0 0 fresh_context asleep).number ∷ []
      ≡ 0 ∷ 8 ∷ 8 ∷ 8 ∷ []
  pub wakings : (wake 7 (results 1 2 3) made).number ∷ (wake 7 (results 1 2 3) started).number ∷ (wake 7 (results 1 2 3) running).number
      ∷ (wake 7 (results 1 2 3) asleep).number ∷ []
      ≡ 8 ∷ 8 ∷ 8 ∷ 0 ∷ []
  -- "8. Is a blocking thread Running and not idle?": a running one, a dead one, a blocked one, idle
  pub blockings : (block_current 5 3 running).number ∷ (block_current 5 3 (kill 7 1 running).after).number
      ∷ (block_current 5 3 (block_current 5 3 running).after).number ∷ (block_current 5 3 asleep).number ∷ []
      ≡ 0 ∷ 8 ∷ 8 ∷ 8 ∷ []
  -- "A yes or no stands in for `KernelStack::new`": "14. Is the backing there?"
  pub no_stack : (create_user_thread 7 1 false board).number ≡ 14
  -- "state (Inactive, Ready, Running, Blocked, Dead)"
  pub states : state_of made 7 ∷ state_of started 7 ∷ state_of running 7 ∷ state_of asleep 7 ∷ state_of (kill 7 1 running).after 7 ∷ [] ≡ Inactive ∷ Ready ∷ Running ∷ Blocked (Sleep 3) ∷ Dead ∷ []
  -- "Opening: thread 0 Running and current; idle .. Ready, in no queue; neither has a budget"
  pub opened : (state_of board 0 ≡ Running) × (state_of board 18_446_744_073_709_551_615 ≡ Ready) × (board.current ≡ 0) × (board.queue ≡ [])
      × ((thread board.threads 0).budget ≡ None) × ((thread board.threads 18_446_744_073_709_551_615).budget ≡ None)
  -- "when fresh, `UserContext::new(0, 0)` and none or 0": flags 0x202
  pub new_record : (read_thread 7 made).value ≡ Some (record_of (record {
    state = Inactive;
    budget = Some 1;
    spaces = None;
    context = record { rip = 0; rsp = 0; rflags = 514; rdi = 0; rsi = 0; cs = 0; ss = 0 };
    results = record { first = 0; second = 0; third = 0 };
    ticks = 0;
  }))
  -- "a record holds id, state .., wait, budget id or none, space, cspace, root or none, the seven `UserContext` words, three result words, run ticks": of thread 7 started,
  -- blocked after a tick, and woken
  pub started_record : (read_thread 7 (start 7 20 30 40 words made).after).value ≡ Some (record_of (at_work Ready words (told 0 0 0) 0))
  pub blocked_record : (read_thread 7 (block_current 5 3 (tick 1 running).after).after).value ≡ Some (record_of (at_work (Blocked (Sleep 3)) fresh_context (told 0 0 0) 1))
  pub woken_record : (read_thread 7 (wake 7 (results 1 2 3) asleep).after).value ≡ Some (record_of (at_work Ready fresh_context (told 1 2 3) 0))
  -- "Tick n means n × 1,000,000 ns. It .. charges 1,000,000 ns": at tick 9 the period has not ended, at tick 10 it has
  pub tick_1 : (account_of (tick 1 running).after.registry 1).cpu_left ≡ 9_000_000
  pub tick_9 : ((account_of (tick 9 (tick 1 running).after).after.registry 1).cpu_left ≡ 8_000_000) × ((account_of (tick 9 running).after.registry 1).period_start ≡ 0)
  pub tick_10 : ((account_of (tick 10 (tick 1 running).after).after.registry 1).cpu_left ≡ 9_000_000)
      × ((account_of (tick 10 running).after.registry 1).period_start ≡ 10_000_000)
  pub planned_10 : ((account_of (plan 9 (tick 1 running).after).after.registry 1).cpu_left ≡ 9_000_000)
      × ((account_of (plan 10 (tick 1 running).after).after.registry 1).cpu_left ≡ 10_000_000)
  -- "Run ticks and the switch count are taken modulo 2^64": from the last number, and from the one before 2^63
  pub ticks_modulo : (ticks_after 18_446_744_073_709_551_615 ≡ 0) × (ticks_after 9_223_372_036_854_775_807 ≡ 9_223_372_036_854_775_808)
  pub switches_modulo : (switches_after 18_446_744_073_709_551_615 ≡ 0) × (switches_after 9_223_372_036_854_775_807 ≡ 9_223_372_036_854_775_808)
  -- "3. Is the tick at most 18,446,744,073,709?"
  pub last_tick_is : last_tick ≡ 18_446_744_073_709
  -- "wakes sleepers due at or before n, by rising id, with results 0, 0, 0"
  pub sleeps : (is_blocked_on 7 5 3 asleep).value ≡ Some (is_blocked true)
  pub not_yet : (state_of (tick 2 asleep).after 7 ≡ Blocked (Sleep 3)) × ((tick 2 asleep).after.queue ≡ [])
  pub at_tick_3 : (state_of (tick 3 asleep).after 7 ≡ Ready) × ((tick 3 asleep).after.queue ≡ 7 ∷ []) × ((tick 4 asleep).after.queue ≡ 7 ∷ [])
  pub results_0 : (thread (tick 3 (asleep_with 1 2 3)).after.threads 7).results ≡ told 0 0 0
  pub by_rising_id : (tick 3 all_asleep).after.queue ≡ 0 ∷ 7 ∷ 8 ∷ []
  pub only_sleepers : (tick 3 (plan 0 (block_current 4 3 running).after).after).after.queue ≡ []
  -- "A kill answers the wait it ended or none"
  pub wait_ended : ((kill 7 1 asleep).value ≡ Some (ended (Some (Sleep 3)))) × ((kill 7 1 started).value ≡ Some (ended None))
  -- "The log holds 32"
  pub most_exits_is : most_exits ≡ 32
  -- "a carve-out or CPU charge refused after a renewal leaves that renewal": a carve-out with 127 bytes free, and with 128; the same refused with another number
  pub carving_left : (renewal_left (book.on_objects (objects.create_budget 1 0 1 25_000_000)) 12 (opening 10_000_000 127) ≡ None)
      × (renewal_left (book.on_objects (objects.create_budget 1 0 1 25_000_000)) 12 (opening 10_000_000 128) ≡ Some (1, 25_000_000))
      × (renewal_left (book.on_objects (objects.create_budget 1 0 1 25_000_000)) 6 (opening 10_000_000 128) ≡ None)
  -- a CPU charge refused with 12, and with 7
  pub charging_left : (renewal_left (book.on_objects (objects.charge_cpu 3 5 25_000_000)) 12 board ≡ Some (3, 25_000_000))
      × (renewal_left (book.on_objects (objects.charge_cpu 3 5 25_000_000)) 7 board ≡ None)
  -- other calls with 12, and with 7
  pub nothing_left : (renewal_left (book.on_objects (objects.create 3 1 true)) 12 board ≡ None) × (renewal_left (book.on_objects (objects.charge_more 1 5)) 12 board ≡ None)
      × (renewal_left (book.on_objects (objects.refill 1 25_000_000)) 12 board ≡ None) × (renewal_left (book.tick 25) 12 board ≡ None) × (renewal_left (book.plan 25) 7 board ≡ None)
  -- "Sound means: .. at most .. 128 threads; .. at most 32 exits"
  pub sound_128 : (b : Board) → sound b ≡ true → length b.threads ≤ 128
  pub sound_32 : (b : Board) → sound b ≡ true → length b.exits ≤ 32

pub limits_hold : Limits
unfolding due renew
limits_hold = record {
  waits = (refl, refl);
  waits_above = λ k h. rw (le-leb 1 k (omega arith), lt-leb k 5 h);
  causes = refl;
  causes_above = λ c h. rw (le-leb 1 c (omega arith), lt-leb c 2 h);
  idle_is = refl;
  idle_there = refl;
  idle_runs = refl;
  new_ids = (refl, refl, refl, refl, refl);
  killed_ids = (refl, refl);
  place_127 = (refl, refl);
  place_128 = (refl, refl);
  most_threads_is = refl;
  missing = refl;
  no_budget = refl;
  passed_over = (refl, refl);
  missing_blocked = refl;
  starts = refl;
  wakings = refl;
  blockings = refl;
  no_stack = refl;
  states = refl;
  opened = (refl, refl, refl, refl, refl, refl);
  new_record = refl;
  started_record = refl;
  blocked_record = refl;
  woken_record = refl;
  tick_1 = refl;
  tick_9 = (refl, refl);
  tick_10 = (refl, refl);
  planned_10 = (refl, refl);
  ticks_modulo = (refl, refl);
  switches_modulo = (refl, refl);
  last_tick_is = refl;
  sleeps = refl;
  not_yet = (refl, refl);
  at_tick_3 = (refl, refl, refl);
  results_0 = refl;
  by_rising_id = refl;
  only_sleepers = refl;
  wait_ended = (refl, refl);
  most_exits_is = refl;
  carving_left = (refl, refl, refl);
  charging_left = (refl, refl);
  nothing_left = (refl, refl, refl, refl, refl);
  sound_128 = λ b h. (sound_told b h).few;
  sound_32 = λ b h. (sound_told b h).few_exits;
}
