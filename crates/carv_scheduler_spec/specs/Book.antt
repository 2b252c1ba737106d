-- Document 01's book: what demand 3's figures and plannings are worked from. It is fed each call's arguments and its refusal number (0: accepted), and never sees the
-- board. carv_objects_spec/specs/Book.antt is its half for the registry. Assumes nothing.
use Rattle.std.specs.Prelude.{Bool, true, false, cond, not, ◌&&◌, List, [], ◌∷◌, ℕ, ◌*◌, min, eqb, ltb, leb, Option, Some, None}
use Rattle.carv_area.specs.Table.{Row, at, alter, put, pick}
use Rattle.carv_objects_spec.specs.Book as objects
use Rattle.carv_scheduler_spec.specs.declared.Wait.{Wait}
use Rattle.carv_scheduler_spec.specs.declared.Wait.TheVariants as waits
use Rattle.carv_scheduler_spec.specs.declared.Context.{Context}
use Rattle.carv_scheduler_spec.specs.declared.Results.{Results}
use Rattle.carv_scheduler_spec.specs.Scheduler.{idle, tick_ns, wait, join, without}

-- "threads with budget and wait"
pub record Thread : Type 0 where
  pub budget : Option ℕ
  pub wait : Option Wait

-- ".., a queue of threads, and the current thread with whether it runs"
pub record Book : Type 0 where
  pub objects : objects.Book
  pub threads : List (Row Thread)
  pub queue : List ℕ
  pub current : ℕ
  pub runs : Bool

-- Reading.

abbrev pub or_none : Option Thread → Thread
or_none None = record { budget = None; wait = None }
or_none (Some t) = t

abbrev pub thread : List (Row Thread) → ℕ → Thread
thread m i = or_none (at m i)

abbrev pub waiting : Option Wait → Thread → Thread
waiting w t = record { budget = t.budget; wait = w }

-- a sleeper due at or before tick n
abbrev pub is_due : ℕ → Option Wait → Bool
is_due n (Some (waits.Sleep at)) = leb at n
is_due n _ = false

-- A thread's live budget: "renewing at its tick each thread's live budget"; "time left: no budget, or a live one whose fourth figure is above 0"; "a tick renews the
-- current thread's live budget, then books the smaller of 1,000,000 and the fourth figure".

abbrev pub renew_for : (time : ℕ) → Option ℕ → objects.Book → objects.Book
renew_for time None k = k
renew_for time (Some c) k = cond (objects.is_live k c) (objects.on_budget c (objects.renew time) k) k

abbrev pub has_time : Option ℕ → objects.Book → Bool
has_time None k = true
has_time (Some c) k = objects.is_live k c && ltb 0 (objects.cpu_left (objects.budget_of k c))

abbrev pub tick_for : (time : ℕ) → Option ℕ → objects.Book → objects.Book
tick_for time None k = k
tick_for time (Some c) k =
    cond (objects.is_live k c)
    (objects.on_budget c (λ b. objects.take_cpu (min tick_ns (objects.cpu_left (objects.renew time b))) (objects.renew time b)) k)
    k

-- Writing.

abbrev pub with_objects : objects.Book → Book → Book
with_objects k b = record { objects = k; threads = b.threads; queue = b.queue; current = b.current; runs = b.runs }

-- "threads started, woken or put back join the queue's end"
abbrev pub woken : ℕ → Book → Book
woken i b = record { objects = b.objects; threads = alter i (waiting None) b.threads; queue = join b.queue i; current = b.current; runs = b.runs }

abbrev pub wake_all : List ℕ → Book → Book
wake_all [] b = b
wake_all (i ∷ is) b = wake_all is (woken i b)

-- the thread that a planning runs, the queue without it, and the budgets with each tested thread's renewed
pub record Choice : Type 0 where
  pub next : ℕ
  pub rest : List ℕ
  pub objects : objects.Book

abbrev pub pass_over : ℕ → Choice → Choice
pass_over i c = record { next = c.next; rest = i ∷ c.rest; objects = c.objects }

-- "goes through the queue from its front .. until a thread has time left .. That one, ready longest, leaves the queue ..; if there is none, idle"
abbrev pub choose : (time : ℕ) → List (Row Thread) → List ℕ → objects.Book → Choice
choose time m [] k = record { next = idle; rest = []; objects = k }
choose time m (i ∷ q) k =
    let k' = renew_for time (thread m i).budget k in
    cond (has_time (thread m i).budget k') (record { next = i; rest = q; objects = k' })
    (pass_over i (choose time m q k'))

-- "a planning puts back a running current thread other than idle"
abbrev pub put_back : Book → List ℕ
put_back b = cond (not (eqb b.current idle) && b.runs) (join b.queue b.current) b.queue

-- ".. becomes current and runs"
abbrev pub run : Choice → Book → Book
run c b = record { objects = c.objects; threads = b.threads; queue = c.rest; current = c.next; runs = true }

-- The calls of the board.
pub data Call : Type 0 where
  on_objects : objects.Call → Call
  create_user_thread : (i budget : ℕ) (stack : Bool) → Call
  start : (i space cspace root : ℕ) → Context → Call
  block_current : (kind number : ℕ) → Call
  wake : (i : ℕ) → Results → Call
  is_blocked_on : (i kind number : ℕ) → Call
  kill : (i cause : ℕ) → Call
  tick : (n : ℕ) → Call
  plan : (n : ℕ) → Call
  read_thread : (i : ℕ) → Call
  read_current : Call
  read_switches : Call
  exit_of : (i : ℕ) → Call

-- what an accepted call of a thread writes
abbrev pub accepted : Call → Book → Book
accepted (on_objects c) b = b
accepted (create_user_thread i budget stack) b = record {
  objects = b.objects;
  threads = put i (record { budget = Some budget; wait = None }) b.threads;
  queue = b.queue;
  current = b.current;
  runs = b.runs;
}
accepted (start i space cspace root context) b = record { objects = b.objects; threads = b.threads; queue = join b.queue i; current = b.current; runs = b.runs }
-- "blocked or killed, they stop running"
accepted (block_current kind number) b = record {
  objects = b.objects;
  threads = alter b.current (waiting (Some (wait kind number))) b.threads;
  queue = b.queue;
  current = b.current;
  runs = false;
}
accepted (wake i r) b = woken i b
accepted (is_blocked_on i kind number) b = b
-- "killed, they leave queue and wait"
accepted (kill i cause) b = record {
  objects = b.objects;
  threads = alter i (waiting None) b.threads;
  queue = without i b.queue;
  current = b.current;
  runs = cond (eqb i b.current) false b.runs;
}
accepted (tick n) b =
    wake_all (pick (λ t. is_due n t.wait) b.threads)
    (with_objects (tick_for (n * tick_ns) (thread b.threads b.current).budget b.objects) b)
accepted (plan n) b = run (choose (n * tick_ns) b.threads (put_back b) b.objects) b
accepted (read_thread i) b = b
accepted read_current b = b
accepted read_switches b = b
accepted (exit_of i) b = b

-- "other refusals move nothing"
abbrev pub write_thread_call : Call → (number : ℕ) → Book → Book
write_thread_call c number b = cond (eqb number 0) (accepted c b) b

abbrev pub write : Call → (number : ℕ) → Book → Book
write (on_objects c) number b = with_objects (objects.write c number b.objects) b
write (create_user_thread i budget stack) number b = write_thread_call (create_user_thread i budget stack) number b
write (start i space cspace root context) number b = write_thread_call (start i space cspace root context) number b
write (block_current kind n) number b = write_thread_call (block_current kind n) number b
write (wake i r) number b = write_thread_call (wake i r) number b
write (is_blocked_on i kind n) number b = b
write (kill i cause) number b = write_thread_call (kill i cause) number b
write (tick n) number b = write_thread_call (tick n) number b
write (plan n) number b = write_thread_call (plan n) number b
write (read_thread i) number b = b
write read_current number b = b
write read_switches number b = b
write (exit_of i) number b = b

-- "(at first 0, running)"
abbrev pub opening : (cpu memory : ℕ) → Book
opening cpu memory = record {
  objects = objects.opening cpu memory;
  threads = record { id = 0; it = record { budget = None; wait = None } } ∷ record { id = idle; it = record { budget = None; wait = None } } ∷ [];
  queue = [];
  current = 0;
  runs = true;
}
