-- Document 01's threads, ready queue and exit log: the board's state, and each call as 01's questions in their order and then the step. Question 1 stands in
-- front of each, in carv_scheduler/specs/Area.antt. Assumes nothing.
use Rattle.std.specs.Prelude.{Bool, true, false, cond, not, ◌&&◌, List, [], ◌∷◌, ◌++◌, ℕ, ◌+◌, ◌-◌, ◌*◌, ◌^◌, ◌%◌, eqb, ltb, leb, length, drop, Option, Some, None, option_map}
use Rattle.carv_area.specs.Table.{Row, at, alter, erase, put, pick}
use Rattle.carv_objects_spec.specs.Refused as refused
use Rattle.carv_objects_spec.specs.Reply.{Reply, accept, finish, ask, ◌>>◌, on}
use Rattle.carv_objects_spec.specs.Reply as objects
use Rattle.carv_objects_spec.specs.Registry as registry
use Rattle.carv_objects_spec.specs.Registry.{Registry}
use Rattle.carv_scheduler_spec.specs.declared.Wait.{Wait}
use Rattle.carv_scheduler_spec.specs.declared.Wait.TheVariants as waits
use Rattle.carv_scheduler_spec.specs.declared.State.{State}
use Rattle.carv_scheduler_spec.specs.declared.State.TheVariants.{Inactive, Ready, Running, Blocked, Dead}
use Rattle.carv_scheduler_spec.specs.declared.Spaces.{Spaces}
use Rattle.carv_scheduler_spec.specs.declared.Context.{Context}
use Rattle.carv_scheduler_spec.specs.declared.Results.{Results}
use Rattle.carv_scheduler_spec.specs.declared.Thread.{Thread}
use Rattle.carv_scheduler_spec.specs.declared.Cause.{Cause}
use Rattle.carv_scheduler_spec.specs.declared.Cause.TheVariants.{Destroyed, Faulted}
use Rattle.carv_scheduler_spec.specs.declared.Exit.{Exit}

-- registry, threads by rising id, ready queue from its front, current thread, context switches, exit log from its oldest
pub record Board : Type 0 where
  pub registry : Registry
  pub threads : List (Row Thread)
  pub queue : List ℕ
  pub current : ℕ
  pub switches : ℕ
  pub exits : List (Exit Cause)

-- "idle (id 2^64 − 1)"
abbrev pub idle : ℕ
idle = 2 ^ 64 - 1

-- "Tick n means n × 1,000,000 ns"
abbrev pub tick_ns : ℕ
tick_ns = 1_000_000

-- question 3
abbrev pub last_tick : ℕ
last_tick = 18_446_744_073_709

abbrev pub tick_fits : ℕ → Bool
tick_fits n = leb n last_tick

-- States, and what each test asks.

abbrev pub inactive : State → Bool
inactive Inactive = true
inactive _ = false

abbrev pub ready : State → Bool
ready Ready = true
ready _ = false

abbrev pub running : State → Bool
running Running = true
running _ = false

abbrev pub blocked : State → Bool
blocked (Blocked w) = true
blocked _ = false

abbrev pub dead : State → Bool
dead Dead = true
dead _ = false

abbrev pub is : (State → Bool) → Thread → Bool
is test t = test t.state

-- Waits: "1 Send, 2 Recv, 3 Reply, 4 Notification, 5 Sleep, each with a 64-bit number"

abbrev pub wait_listed : ℕ → Bool
wait_listed kind = leb 1 kind && leb kind 5

-- the wait of a listed kind. Another would read as a send, which no tick wakes. It is never read: question 4 stands in front of a call's, and question 1 of a record's
abbrev pub wait : (kind number : ℕ) → Wait
wait kind number =
    cond (eqb kind 1) (waits.Send number)
    (cond (eqb kind 2) (waits.Recv number)
    (cond (eqb kind 3) (waits.Reply number)
    (cond (eqb kind 4) (waits.Notification number)
    (cond (eqb kind 5) (waits.Sleep number) (waits.Send number)))))

abbrev pub kind_of : Wait → ℕ
kind_of (waits.Send number) = 1
kind_of (waits.Recv number) = 2
kind_of (waits.Reply number) = 3
kind_of (waits.Notification number) = 4
kind_of (waits.Sleep number) = 5

abbrev pub number_of : Wait → ℕ
number_of (waits.Send number) = number
number_of (waits.Recv number) = number
number_of (waits.Reply number) = number
number_of (waits.Notification number) = number
number_of (waits.Sleep number) = number

abbrev pub same_wait : Wait → Wait → Bool
same_wait v w = eqb (kind_of v) (kind_of w) && eqb (number_of v) (number_of w)

-- the wait of a blocked thread
abbrev pub wait_in : State → Option Wait
wait_in (Blocked w) = Some w
wait_in _ = None

abbrev pub wait_of : Thread → Option Wait
wait_of t = wait_in t.state

-- is it this one?
abbrev pub waits_on : Wait → Option Wait → Bool
waits_on w None = false
waits_on w (Some v) = same_wait v w

-- a sleeper due at or before tick n
abbrev pub due : ℕ → Option Wait → Bool
due n (Some (waits.Sleep at)) = leb at n
due n _ = false

abbrev pub is_due : ℕ → Thread → Bool
is_due n t = due n (wait_of t)

-- "Causes of an end: 1 Destroyed, 2 Faulted"

abbrev pub cause_listed : ℕ → Bool
cause_listed cause = leb 1 cause && leb cause 2

-- the cause of a listed code. Another would read as Faulted: question 4 stands in front
abbrev pub cause_of : ℕ → Cause
cause_of cause = cond (eqb cause 1) Destroyed Faulted

-- A fresh record: "`UserContext::new(0, 0)` and none or 0".

abbrev pub in_spaces : (space cspace root : ℕ) → Spaces
in_spaces space cspace root = record { space = space; cspace = cspace; root = root }

abbrev pub fresh_context : Context
fresh_context = record { rip = 0; rsp = 0; rflags = 0x202; rdi = 0; rsi = 0; cs = 0; ss = 0 }

abbrev pub results : (first second third : ℕ) → Results
results first second third = record { first = first; second = second; third = third }

abbrev pub fresh : State → (budget : Option ℕ) → Thread
fresh state budget = record {
  state = state;
  budget = budget;
  spaces = None;
  context = fresh_context;
  results = results 0 0 0;
  ticks = 0;
}

-- Reading. An id without a record reads as a fresh Inactive one: questions 5 and 7 stand in front.

abbrev pub or_fresh : Option Thread → Thread
or_fresh None = fresh Inactive None
or_fresh (Some t) = t

abbrev pub found : Option Thread → Bool
found None = false
found (Some t) = true

abbrev pub thread : List (Row Thread) → ℕ → Thread
thread m i = or_fresh (at m i)

abbrev pub has : List (Row Thread) → ℕ → Bool
has m i = found (at m i)

-- Writing.

abbrev pub become : State → Thread → Thread
become state t = record { state = state; budget = t.budget; spaces = t.spaces; context = t.context; results = t.results; ticks = t.ticks }

abbrev pub started : Spaces → Context → Thread → Thread
started s c t = record { state = Ready; budget = t.budget; spaces = Some s; context = c; results = t.results; ticks = t.ticks }

abbrev pub woken : Results → Thread → Thread
woken r t = record { state = Ready; budget = t.budget; spaces = t.spaces; context = t.context; results = r; ticks = t.ticks }

-- "run ticks and the switch count are taken modulo 2^64"
abbrev pub ticked : Thread → Thread
ticked t = record { state = t.state; budget = t.budget; spaces = t.spaces; context = t.context; results = t.results; ticks = (t.ticks + 1) % 2 ^ 64 }

abbrev pub with_registry : Registry → Board → Board
with_registry r b = record { registry = r; threads = b.threads; queue = b.queue; current = b.current; switches = b.switches; exits = b.exits }

abbrev pub with_threads : List (Row Thread) → List ℕ → Board → Board
with_threads m q b = record { registry = b.registry; threads = m; queue = q; current = b.current; switches = b.switches; exits = b.exits }

-- the queue with i at its end, and without i
abbrev pub join : List ℕ → ℕ → List ℕ
join q i = q ++ (i ∷ [])

abbrev pub without : ℕ → List ℕ → List ℕ
without i [] = []
without i (j ∷ q) = cond (eqb j i) (without i q) (j ∷ without i q)

-- "the log holds 32; the oldest goes first"
abbrev pub most_exits : ℕ
most_exits = 32

abbrev pub logged : Exit Cause → List (Exit Cause) → List (Exit Cause)
logged e l = cond (eqb (length l) most_exits) (drop 1 l) l ++ (e ∷ [])

-- Budgets of threads. "A thread whose budget id names no live budget is passed over and not charged."

abbrev pub renew_for : (time : ℕ) → (budget : Option ℕ) → Registry → Registry
renew_for time None r = r
renew_for time (Some p) r = (registry.refill p time r).after

abbrev pub has_time : (budget : Option ℕ) → Registry → Bool
has_time None r = true
has_time (Some p) r = registry.has_cpu r p

-- a tick "charges 1,000,000 ns or, if less is left, all that is left"
abbrev pub charge_tick : (time : ℕ) → (budget : Option ℕ) → Registry → Registry
charge_tick time None r = r
charge_tick time (Some p) r = registry.charge_most p tick_ns time r

-- The values of the board's calls.
pub data Value : Type 0 where
  -- of the registry's calls
  of_registry : objects.Value → Value
  -- a planning: no switch, or from the old id to the new, with the new root or the kernel's
  no_switch : Value
  switch : (old new : ℕ) (root : Option ℕ) → Value
  -- a kill: the wait that it ended, or none
  ended : Option Wait → Value
  is_blocked : Bool → Value
  record_of : Thread → Value
  word : ℕ → Value
  exit_cause : Option Cause → Value

abbrev pub BoardReply : Type 0
BoardReply = Reply Value Board

-- The calls.

-- "Opening: thread 0 Running and current; idle (id 2^64 − 1) Ready, in no queue; neither has a budget." Question 2 stands in front, in carv_scheduler/specs/Area.antt.
abbrev pub opening : (cpu memory : ℕ) → Board
opening cpu memory = record {
  registry = registry.opening cpu memory;
  threads = record { id = 0; it = fresh Running None } ∷ record { id = idle; it = fresh Ready None } ∷ [];
  queue = [];
  current = 0;
  switches = 0;
  exits = [];
}

-- question 6 for threads: "128 threads, idle counted"
abbrev pub most_threads : ℕ
most_threads = 128

abbrev pub create_user_thread : (i budget : ℕ) (stack : Bool) → Board → BoardReply
create_user_thread i budget stack b = on b do
  ask refused.id (not (has b.threads i))
  ask refused.id (not (eqb i 0))
  ask refused.id (not (eqb i idle))
  ask refused.full (ltb (length b.threads) most_threads)
  ask refused.backing stack
  finish None (with_threads (put i (fresh Inactive (Some budget)) b.threads) b.queue b)

abbrev pub start : (i : ℕ) (space cspace root : ℕ) → Context → Board → BoardReply
start i space cspace root context b = on b do
  ask refused.missing (has b.threads i)
  ask refused.state (is inactive (thread b.threads i))
  finish None (with_threads (alter i (started (in_spaces space cspace root) context) b.threads) (join b.queue i) b)

abbrev pub block_current : (kind number : ℕ) → Board → BoardReply
block_current kind number b = on b do
  ask refused.code (wait_listed kind)
  ask refused.state (is running (thread b.threads b.current))
  ask refused.state (not (eqb b.current idle))
  finish None (with_threads (alter b.current (become (Blocked (wait kind number))) b.threads) b.queue b)

abbrev pub wake : (i : ℕ) → Results → Board → BoardReply
wake i r b = on b do
  ask refused.missing (has b.threads i)
  ask refused.state (is blocked (thread b.threads i))
  finish None (with_threads (alter i (woken r) b.threads) (join b.queue i) b)

-- "For a missing id .. `is_blocked_on` say no"
abbrev pub is_blocked_on : (i kind number : ℕ) → Board → BoardReply
is_blocked_on i kind number b = on b do
  ask refused.code (wait_listed kind)
  finish (Some (is_blocked (has b.threads i && waits_on (wait kind number) (wait_of (thread b.threads i))))) b

-- "A killed current thread stays Dead until planning leaves it; a second kill logs it again. A kill answers the wait it ended or none."
abbrev pub kill : (i cause : ℕ) → Board → BoardReply
kill i cause b = on b do
  ask refused.code (cause_listed cause)
  ask refused.id (not (eqb i idle))
  ask refused.missing (has b.threads i)
  finish (Some (ended (wait_of (thread b.threads i)))) (record {
    registry = b.registry;
    threads = cond (eqb i b.current) (alter i (become Dead) b.threads) (erase i b.threads);
    queue = without i b.queue;
    current = b.current;
    switches = b.switches;
    exits = logged (record { thread = i; cause = cause_of cause }) b.exits;
  })

-- "wakes sleepers due at or before n, by rising id, with results 0, 0, 0"
abbrev pub wake_all : List ℕ → Board → Board
wake_all [] b = b
wake_all (i ∷ is) b = wake_all is (wake i (results 0 0 0) b).after

-- "It adds one to the current thread's run ticks, charges .., then wakes sleepers"
abbrev pub tick : (n : ℕ) → Board → BoardReply
tick n b = on b do
  ask refused.tick (tick_fits n)
  finish None (wake_all (pick (is_due n) b.threads)
      (with_registry (charge_tick (n * tick_ns) (thread b.threads b.current).budget b.registry)
      (with_threads (alter b.current ticked b.threads) b.queue b)))

-- Planning.

-- "a current thread in Running, other than idle, goes to the queue's end"
abbrev pub put_back : Board → Board
put_back b =
    cond (not (eqb b.current idle) && is running (thread b.threads b.current))
    (with_threads (alter b.current (become Ready) b.threads) (join b.queue b.current) b)
    b

-- the thread to run, the queue without it, and the registry with each tested thread's budget renewed
pub record Choice : Type 0 where
  pub next : ℕ
  pub rest : List ℕ
  pub registry : Registry

abbrev pub pass_over : ℕ → Choice → Choice
pass_over i c = record { next = c.next; rest = i ∷ c.rest; registry = c.registry }

-- "Entries are tested from the front, each test renewing that thread's budget, until one has no budget or CPU left above 0. With none found, idle runs."
abbrev pub choose : (time : ℕ) → List (Row Thread) → List ℕ → Registry → Choice
choose time m [] r = record { next = idle; rest = []; registry = r }
choose time m (i ∷ q) r =
    let r' = renew_for time (thread m i).budget r in
    cond (has m i && has_time (thread m i).budget r')
    (record { next = i; rest = q; registry = r' })
    (pass_over i (choose time m q r'))

-- the chosen thread runs; a dead thread that is left goes
abbrev pub switch_to : Choice → Board → Board
switch_to c b = record {
  registry = c.registry;
  threads = cond (not (eqb c.next b.current) && is dead (thread b.threads b.current))
      (erase b.current (alter c.next (become Running) b.threads))
      (alter c.next (become Running) b.threads);
  queue = c.rest;
  current = c.next;
  switches = cond (eqb c.next b.current) b.switches ((b.switches + 1) % 2 ^ 64);
  exits = b.exits;
}

abbrev pub root_of : Thread → Option ℕ
root_of t = option_map (λ (s : Spaces). s.root) t.spaces

-- "The answer is "no switch" if the same thread stays, else old id, new id, and the new root or "kernel's"."
abbrev pub switch_value : (old : ℕ) → Choice → Board → Value
switch_value old c b = cond (eqb c.next old) no_switch (switch old c.next (root_of (thread b.threads c.next)))

abbrev pub plan : (n : ℕ) → Board → BoardReply
plan n b = on b do
  ask refused.tick (tick_fits n)
  let b' = put_back b
  let c = choose (n * tick_ns) b'.threads b'.queue b'.registry
  finish (Some (switch_value b.current c b')) (switch_to c b')

-- Readings.

abbrev pub read_thread : (i : ℕ) → Board → BoardReply
read_thread i b = on b do
  ask refused.missing (has b.threads i)
  finish (Some (record_of (thread b.threads i))) b

abbrev pub read_current : Board → BoardReply
read_current b = accept (Some (word b.current)) b

abbrev pub read_switches : Board → BoardReply
read_switches b = accept (Some (word b.switches)) b

-- "`exit_of` gives the oldest match", "none" for a missing id
abbrev pub exit_in : {C : Type 0} → (i : ℕ) → List (Exit C) → Option C
exit_in i [] = None
exit_in i (e ∷ l) = cond (eqb e.thread i) (Some e.cause) (exit_in i l)

abbrev pub exit_of : (i : ℕ) → Board → BoardReply
exit_of i b = accept (Some (exit_cause (exit_in i b.exits))) b

-- a call of the registry on the board
abbrev pub lift_value : Option objects.Value → Option Value
lift_value None = None
lift_value (Some v) = Some (of_registry v)

abbrev pub on_registry : registry.RegistryReply → Board → BoardReply
on_registry a b = record { number = a.number; value = lift_value a.value; after = with_registry a.after b }

abbrev pub by_registry : (Registry → registry.RegistryReply) → Board → BoardReply
by_registry call b = on_registry (call b.registry) b
