-- Document 01's soundness of a board, both ways: a sound board and, for each test of specs/Sound.antt in its order, neighbours that fail it. A neighbour differs in one
-- place, or in as many as it takes for no other test to fail. carv_objects_spec/proofs/Laws/Unsound.antt is the same for the registry. Assumes nothing.
use Rattle.std.specs.Prelude.{◌≡◌, refl, true, false, List, [], ◌∷◌, ◌++◌, ℕ, zero, suc, length, Option, Some, None}
use Rattle.carv_area.specs.Table.{Row}
use Rattle.carv_budget.specs.Account as account
use Rattle.carv_objects_spec.specs.Registry as registry
use Rattle.carv_objects_spec.specs.Registry.{Registry}
use Rattle.carv_scheduler_spec.specs.declared.Wait.TheVariants.{Send, Sleep}
use Rattle.carv_scheduler_spec.specs.declared.State.{State}
use Rattle.carv_scheduler_spec.specs.declared.State.TheVariants.{Inactive, Ready, Running, Blocked, Dead}
use Rattle.carv_scheduler_spec.specs.declared.Spaces.{Spaces}
use Rattle.carv_scheduler_spec.specs.declared.Cause.{Cause}
use Rattle.carv_scheduler_spec.specs.declared.Cause.TheVariants.{Destroyed, Faulted}
use Rattle.carv_scheduler_spec.specs.declared.Thread.{Thread}
use Rattle.carv_scheduler_spec.specs.declared.Exit.{Exit}
use Rattle.carv_scheduler_spec.specs.Scheduler.{Board, in_spaces, fresh_context, results, opening}
use Rattle.carv_scheduler_spec.specs.Sound.{sound}

abbrev pub Holds : Board → Type 0
Holds b = sound b ≡ true

abbrev pub Fails : Board → Type 0
Fails b = sound b ≡ false

abbrev pub row : ℕ → Thread → Row Thread
row i t = record { id = i; it = t }

abbrev pub record_with : State → (budget : Option ℕ) → Option Spaces → Thread
record_with state p s = record { state = state; budget = p; spaces = s; context = fresh_context; results = results 0 0 0; ticks = 0 }

-- in this state with the root budget, and without a budget
abbrev pub paid : State → Thread
paid state = record_with state (Some 1) None

abbrev pub free : State → Thread
free state = record_with state None None

-- "2^64 − 1"
abbrev pub idle : ℕ
idle = 18_446_744_073_709_551_615

-- The sound board: thread 0 is Ready and in the queue, thread 5 sleeps, thread 7 runs, thread 8 is Inactive, idle is Ready; two exits are logged.

abbrev pub the_registry : Registry
the_registry = registry.opening 10_000_000 1_000_000

abbrev pub asleep : Thread
asleep = paid (Blocked (Sleep 3))

abbrev pub exit : Cause → Exit Cause
exit cause = record { thread = 9; cause = cause }

abbrev pub the_exits : List (Exit Cause)
the_exits = exit Destroyed ∷ exit Faulted ∷ []

abbrev pub board : List (Row Thread) → (queue : List ℕ) → (current : ℕ) → Board
board threads queue current = record { registry = the_registry; threads = threads; queue = queue; current = current; switches = 0; exits = the_exits }

abbrev pub five : (t0 t5 t7 t8 last : Thread) → List (Row Thread)
five t0 t5 t7 t8 last = row 0 t0 ∷ row 5 t5 ∷ row 7 t7 ∷ row 8 t8 ∷ row idle last ∷ []

abbrev pub the_threads : List (Row Thread)
the_threads = five (free Ready) asleep (paid Running) (paid Inactive) (free Ready)

-- the board with another thread 0, 5, 7, 8, idle
abbrev pub with_0 : Thread → Board
with_0 t = board (five t asleep (paid Running) (paid Inactive) (free Ready)) (0 ∷ []) 7

abbrev pub with_5 : Thread → Board
with_5 t = board (five (free Ready) t (paid Running) (paid Inactive) (free Ready)) (0 ∷ []) 7

abbrev pub with_7 : Thread → Board
with_7 t = board (five (free Ready) asleep t (paid Inactive) (free Ready)) (0 ∷ []) 7

abbrev pub with_8 : Thread → Board
with_8 t = board (five (free Ready) asleep (paid Running) t (free Ready)) (0 ∷ []) 7

abbrev pub with_idle : Thread → Board
with_idle t = board (five (free Ready) asleep (paid Running) (paid Inactive) t) (0 ∷ []) 7

-- with this queue; with thread 7 Ready behind thread 0, this idle and this current thread
abbrev pub with_queue : List ℕ → Board
with_queue q = board the_threads q 7

abbrev pub with_current : (last : Thread) (current : ℕ) → Board
with_current last current = board (five (free Ready) asleep (paid Ready) (paid Inactive) last) (0 ∷ 7 ∷ []) current

-- with these exits, and with this registry
abbrev pub with_exits : List (Exit Cause) → Board
with_exits l = record { registry = the_registry; threads = the_threads; queue = 0 ∷ []; current = 7; switches = 0; exits = l }

abbrev pub with_objects : Registry → Board
with_objects r = record { registry = r; threads = the_threads; queue = 0 ∷ []; current = 7; switches = 0; exits = the_exits }

-- n exits, and n Inactive threads from i on
abbrev pub exits : ℕ → List (Exit Cause)
exits zero = []
exits (suc n) = exit Destroyed ∷ exits n

abbrev pub some_more : (n i : ℕ) → List (Row Thread)
some_more zero i = []
some_more (suc n) i = row i (paid Inactive) ∷ some_more n (suc i)

-- thread 0 runs, and n threads more than thread 0 and idle are there
abbrev pub crowd : ℕ → Board
crowd n = board (row 0 (free Running) ∷ (some_more n 1 ++ (row idle (free Ready) ∷ []))) [] 0

-- two threads of these ids stand between thread 7 and idle
abbrev pub two_more : (i j : ℕ) → Board
two_more i j = board (row 0 (free Ready) ∷ row 7 (paid Running) ∷ row i (paid Inactive) ∷ row j (paid Inactive) ∷ row idle (free Ready) ∷ []) (0 ∷ []) 7

pub record Unsound : Type 0 where
  pub as_it_is : Holds (board the_threads (0 ∷ []) 7)
  pub opened : Holds (opening 10_000_000 1_000_000)
  -- a wait of another kind, and a space. "Every code is a listed one" is asked of the stored words: Codes.antt has its cases
  pub waits : Holds (with_5 (paid (Blocked (Send 3))))
  pub spaces : Holds (with_8 (record_with Inactive (Some 1) (Some (in_spaces 20 30 40))))
  -- "queue ids .. are exactly the Ready threads other than idle": thread 0 or 8 is Ready, and not in the queue
  pub ready_queued : Fails (with_queue []) × Fails (with_8 (paid Ready))
  -- "only the current thread is Dead": thread 7, then 8
  pub dead : Holds (with_7 (paid Dead)) × Fails (with_8 (paid Dead))
  -- "only it or idle Running": idle, then thread 8
  pub running : Holds (with_idle (free Running)) × Fails (with_8 (paid Running))
  -- "thread 0 and idle, and no others, have no budget"
  pub budgets : Fails (with_0 (paid Ready)) × Fails (with_7 (free Running)) × Fails (with_idle (paid Ready))
  -- the registry is sound: the next id is given
  pub registry_sound : Fails (with_objects (record { next = 1; rows = the_registry.rows }))
  -- "at most .. 128 threads"
  pub threads_128 : (length (crowd 126).threads ≡ 128) × Holds (crowd 126)
  pub threads_129 : (length (crowd 127).threads ≡ 129) × Fails (crowd 127)
  -- "(thread ids only rise)": exchanged, twice the same, and not below 2^64
  pub rising : Holds (two_more 8 9) × Fails (two_more 9 8) × Fails (two_more 8 8)
  pub fits : Fails (board (the_threads ++ (row 18_446_744_073_709_551_616 (paid Inactive) ∷ [])) (0 ∷ []) 7)
  -- "queue ids are distinct"
  pub distinct : Fails (with_queue (0 ∷ 0 ∷ []))
  -- "and are exactly the Ready threads other than idle": a Blocked one, an Inactive one, the Running one, idle, a missing one
  pub queued : Fails (with_queue (0 ∷ 5 ∷ [])) × Fails (with_queue (0 ∷ 8 ∷ [])) × Fails (with_queue (0 ∷ 7 ∷ [])) × Fails (with_queue (0 ∷ idle ∷ []))
      × Fails (with_queue (0 ∷ 9 ∷ []))
  -- "the current thread is there, not Inactive": it is 5, Blocked, then missing, then 8, Inactive
  pub current : Holds (with_current (free Ready) 5) × Fails (with_current (free Ready) 9) × Fails (with_current (free Ready) 8)
  -- "idle is there, Ready or Running": it is missing, Blocked, Inactive
  pub idle_there : Fails (board (row 0 (free Ready) ∷ row 5 asleep ∷ row 7 (paid Running) ∷ []) (0 ∷ []) 7)
  pub idle_state : Fails (with_idle (free (Blocked (Sleep 3)))) × Fails (with_idle (free Inactive))
  -- "and Running if current"
  pub idle_current : Holds (with_current (free Running) idle) × Fails (with_current (free Ready) idle)
  -- "at most 32 exits"
  pub few_exits : Holds (with_exits (exits 32)) × Fails (with_exits (exits 33))
  -- each cause
  pub causes : Holds (with_exits (exit Destroyed ∷ exit Faulted ∷ []))

pub unsound_hold : Unsound
unfolding account.sound
unsound_hold = record {
  as_it_is = refl;
  opened = refl;
  waits = refl;
  spaces = refl;
  ready_queued = (refl, refl);
  dead = (refl, refl);
  running = (refl, refl);
  budgets = (refl, refl, refl);
  registry_sound = refl;
  threads_128 = (refl, refl);
  threads_129 = (refl, refl);
  rising = (refl, refl, refl);
  fits = refl;
  distinct = refl;
  queued = (refl, refl, refl, refl, refl);
  current = (refl, refl, refl);
  idle_there = refl;
  idle_state = (refl, refl);
  idle_current = (refl, refl);
  few_exits = (refl, refl);
  causes = refl;
}
