-- kernel/src/scheduler.rs: `Scheduler` and its methods, statement by statement, over the board: the scheduler's fields and the registry that `tick` and `plan` are lent.
-- Of document 01's side only the records are used. `KernelStack::new` answers yes or no. Saved stack pointers, kernel stacks, `Ipc`, `reply_to` and zombies belong to
-- the host. Assumes nothing.
use Rattle.std.specs.Prelude.{Bool, true, false, cond, not, ◌&&◌, List, [], ◌∷◌, ◌++◌, ℕ, zero, suc, ◌+◌, ◌-◌, ◌*◌, ◌/◌, ◌^◌, ◌%◌, eqb, ltb, leb, length, drop, Option, Some, None, option_map}
use Rattle.carv_area.specs.Table.{at, alter, erase, put, pick}
use Rattle.carv_budget.specs.declared.Account.{Account}
use Rattle.carv_budget.specs.Rust as budget
use Rattle.carv_objects_spec.specs.Registry.{Registry}
use Rattle.carv_objects_spec.specs.Rust as objects
use Rattle.carv_scheduler_spec.specs.declared.Wait.{Wait}
use Rattle.carv_scheduler_spec.specs.declared.Wait.TheVariants as waits
use Rattle.carv_scheduler_spec.specs.declared.State.{State}
use Rattle.carv_scheduler_spec.specs.declared.State.TheVariants.{Inactive, Ready, Running, Blocked, Dead}
use Rattle.carv_scheduler_spec.specs.declared.Spaces.{Spaces}
use Rattle.carv_scheduler_spec.specs.declared.Context.{Context}
use Rattle.carv_scheduler_spec.specs.declared.Results.{Results}
use Rattle.carv_scheduler_spec.specs.declared.Thread.{Thread}
use Rattle.carv_scheduler_spec.specs.declared.Cause.{Cause}
use Rattle.carv_scheduler_spec.specs.declared.Cause.TheVariants.{Destroyed, Faulted}
use Rattle.carv_scheduler_spec.specs.declared.Exit.{Exit}
use Rattle.carv_scheduler_spec.specs.Scheduler.{Board}

-- `BOOT_THREAD`
abbrev pub BOOT_THREAD : ℕ
BOOT_THREAD = 0

-- `IDLE_THREAD`, which is `u64::MAX`
abbrev pub IDLE_THREAD : ℕ
IDLE_THREAD = 2 ^ 64 - 1

-- `TICK_NS`, where `TIMER_HZ` of arch/x86_64/apic.rs is 1000
abbrev pub TICK_NS : ℕ
TICK_NS = 1_000_000_000 / 1000

-- `EXIT_LOG`
abbrev pub EXIT_LOG : ℕ
EXIT_LOG = 32

-- `State` and `Wait` are the declared enums; the Rust's `Exit` is `Cause`, and what its log holds, `(id, why)`, is `Exit`. Here are what the Rust derives and matches.

-- `Wait`'s derived `==`
abbrev pub wait_eq : Wait → Wait → Bool
wait_eq (waits.Send a) (waits.Send b) = eqb a b
wait_eq (waits.Recv a) (waits.Recv b) = eqb a b
wait_eq (waits.Reply a) (waits.Reply b) = eqb a b
wait_eq (waits.Notification a) (waits.Notification b) = eqb a b
wait_eq (waits.Sleep a) (waits.Sleep b) = eqb a b
wait_eq _ _ = false

-- `State`'s derived `==`
abbrev pub state_eq : State → State → Bool
state_eq Inactive Inactive = true
state_eq Ready Ready = true
state_eq Running Running = true
state_eq (Blocked v) (Blocked w) = wait_eq v w
state_eq Dead Dead = true
state_eq _ _ = false

-- `t.state == ..`
abbrev pub in_state : State → Thread → Bool
in_state state t = state_eq t.state state

-- `match t.state { State::Blocked(w) => Some(w), _ => None }`
abbrev pub wait_in : State → Option Wait
wait_in (Blocked w) = Some w
wait_in _ = None

abbrev pub blocked_wait : Thread → Option Wait
blocked_wait t = wait_in t.state

-- `matches!(t.state, State::Blocked(_))`
abbrev pub any_blocked : State → Bool
any_blocked (Blocked _) = true
any_blocked _ = false

-- A call of document 01 has a code for a wait's variant or an end's. A code that is not listed names none, and question 4 refuses such a call: here it would read as a send,
-- which no tick wakes, or as Faulted.

-- the variant `kind` with `number` in it
abbrev pub wait : (kind number : ℕ) → Wait
wait kind number =
    cond (eqb kind 1) (waits.Send number)
    (cond (eqb kind 2) (waits.Recv number)
    (cond (eqb kind 3) (waits.Reply number)
    (cond (eqb kind 4) (waits.Notification number)
    (cond (eqb kind 5) (waits.Sleep number) (waits.Send number)))))

abbrev pub cause : ℕ → Cause
cause code = cond (eqb code 1) Destroyed Faulted

-- what a method leaves and returns
pub record Call (A : Type 0) : Type 0 where
  pub self : Board
  pub result : A

abbrev pub gives : {A : Type 0} → Board → A → Call A
gives self result = record { self = self; result = result }

-- `self.threads.get(&id)`, `self.thread(id)`
abbrev pub thread : ℕ → Board → Option Thread
thread id self = at self.threads id

-- `t.state = ..`
abbrev pub set_state : State → Thread → Thread
set_state state t = record { state = state; budget = t.budget; spaces = t.spaces; context = t.context; results = t.results; ticks = t.ticks }

-- `t.space = Some(space); t.cspace = Some(cspace); t.root = Some(root); t.entry = entry;`
abbrev pub set_entry : (space cspace root : ℕ) → Context → Thread → Thread
set_entry space cspace root entry t = record {
  state = t.state;
  budget = t.budget;
  spaces = Some (record { space = space; cspace = cspace; root = root });
  context = entry;
  results = t.results;
  ticks = t.ticks;
}

-- `t.result = result`
abbrev pub set_result : Results → Thread → Thread
set_result result t = record { state = t.state; budget = t.budget; spaces = t.spaces; context = t.context; results = result; ticks = t.ticks }

-- `current.run_ticks += 1`, which wraps in a release build
abbrev pub count_tick : Thread → Thread
count_tick t = record { state = t.state; budget = t.budget; spaces = t.spaces; context = t.context; results = t.results; ticks = (t.ticks + 1) % 2 ^ 64 }

-- what is written through `thread_mut(id)`
abbrev pub write_thread : ℕ → (Thread → Thread) → Board → Board
write_thread id f self = record { registry = self.registry; threads = alter id f self.threads; queue = self.queue; current = self.current; switches = self.switches; exits = self.exits }

-- what is left in `objects: &mut ObjectRegistry`
abbrev pub write_objects : Registry → Board → Board
write_objects r self = record { registry = r; threads = self.threads; queue = self.queue; current = self.current; switches = self.switches; exits = self.exits }

-- `self.threads.insert(id, tcb)`, `self.threads.remove(&id)`
abbrev pub insert_thread : ℕ → Thread → Board → Board
insert_thread id t self = record { registry = self.registry; threads = put id t self.threads; queue = self.queue; current = self.current; switches = self.switches; exits = self.exits }

abbrev pub remove_thread : ℕ → Board → Board
remove_thread id self = record { registry = self.registry; threads = erase id self.threads; queue = self.queue; current = self.current; switches = self.switches; exits = self.exits }

-- what is left in `self.ready`
abbrev pub write_queue : List ℕ → Board → Board
write_queue q self = record { registry = self.registry; threads = self.threads; queue = q; current = self.current; switches = self.switches; exits = self.exits }

-- `self.ready.push_back(id)`
abbrev pub push_back : ℕ → Board → Board
push_back id self = write_queue (self.queue ++ (id ∷ [])) self

-- `self.ready.retain(|t| *t != id)`
abbrev pub retain : ℕ → List ℕ → List ℕ
retain id [] = []
retain id (t ∷ q) = cond (not (eqb t id)) (t ∷ retain id q) (retain id q)

-- `self.ready.remove(i)`
abbrev pub remove_at : ℕ → List ℕ → List ℕ
remove_at i [] = []
remove_at zero (t ∷ q) = q
remove_at (suc i) (t ∷ q) = t ∷ remove_at i q

-- `Tcb::new`, with `UserContext::new(0, 0)`, whose flags are 0x2 and `RFLAGS_IF`, bit 9
abbrev pub tcb : State → Thread
tcb state = record {
  state = state;
  budget = None;
  spaces = None;
  context = record { rip = 0; rsp = 0; rflags = 2 + 2 ^ 9; rdi = 0; rsi = 0; cs = 0; ss = 0 };
  results = record { first = 0; second = 0; third = 0 };
  ticks = 0;
}

-- `tcb.budget = Some(budget)`
abbrev pub on_budget : ℕ → Thread → Thread
on_budget id t = record { state = t.state; budget = Some id; spaces = t.spaces; context = t.context; results = t.results; ticks = t.ticks }

-- `create_user_thread`
abbrev pub create_user_thread : (id budget : ℕ) (stack : Bool) → Board → Call (Option (Unit {0}))
create_user_thread id budget stack self =
    cond stack (gives (insert_thread id (on_budget budget (tcb Inactive)) self) (Some tt))
    (gives self None)

-- `start`
abbrev pub start_found : Option Thread → (id space cspace root : ℕ) → Context → Board → Call Bool
start_found None id space cspace root entry self = gives self false
start_found (Some t) id space cspace root entry self =
    cond (not (in_state Inactive t)) (gives self false)
    (gives (push_back id (write_thread id (λ u. set_state Ready (set_entry space cspace root entry u)) self)) true)

abbrev pub start : (id space cspace root : ℕ) → Context → Board → Call Bool
start id space cspace root entry self = start_found (thread id self) id space cspace root entry self

-- `block_current`
abbrev pub block_current : Wait → Board → Board
block_current w self = write_thread self.current (set_state (Blocked w)) self

-- `wake`
abbrev pub wake_found : Option Thread → (id : ℕ) → Results → Board → Call Bool
wake_found None id result self = gives self false
wake_found (Some t) id result self =
    cond (any_blocked t.state) (gives (push_back id (write_thread id (λ u. set_result result (set_state Ready u)) self)) true)
    (gives self false)

unfoldable pub wake : (id : ℕ) → Results → Board → Call Bool
wake id result self = wake_found (thread id self) id result self

-- `is_blocked_on`: `t.state == State::Blocked(wait)`
abbrev pub is_blocked_on_found : Option Thread → Wait → Bool
is_blocked_on_found None w = false
is_blocked_on_found (Some t) w = in_state (Blocked w) t

abbrev pub is_blocked_on : ℕ → Wait → Board → Bool
is_blocked_on id w self = is_blocked_on_found (thread id self) w

-- `if self.exits.len() == EXIT_LOG { self.exits.pop_front(); } self.exits.push_back((id, why));`
abbrev pub log : Exit Cause → Board → Board
log e self =
    let l : List (Exit Cause) = cond (eqb (length self.exits) EXIT_LOG) (drop 1 self.exits) self.exits in
    record { registry = self.registry; threads = self.threads; queue = self.queue; current = self.current; switches = self.switches; exits = l ++ (e ∷ []) }

-- `kill`
abbrev pub kill_found : Option Thread → (id : ℕ) → (why : Cause) → Board → Call (Option Wait)
kill_found None id why self = gives self None
kill_found (Some t) id why self =
    let killed : Board = write_thread id (set_state Dead) self in
    let left : Board = write_queue (retain id killed.queue) killed in
    let told : Board = log (record { thread = id; cause = why }) left in
    gives (cond (not (eqb id told.current)) (remove_thread id told) told) (blocked_wait t)

abbrev pub kill : (id : ℕ) → (why : Cause) → Board → Call (Option Wait)
kill id why self = kill_found (thread id self) id why self

-- `matches!(t.state, State::Blocked(Wait::Sleep(at)) if at <= now_ticks)`
abbrev pub due_in : (now_ticks : ℕ) → State → Bool
due_in now_ticks (Blocked (waits.Sleep at)) = leb at now_ticks
due_in now_ticks _ = false

abbrev pub is_due : (now_ticks : ℕ) → Thread → Bool
is_due now_ticks t = due_in now_ticks t.state

-- the `if let` of `tick`: `charge_cpu(TICK_NS, now_ns)`, and of what is left where that says `false`
abbrev pub charge_or_drain : Account → (now : ℕ) → Account
charge_or_drain a now =
    let charged : budget.Call Bool = budget.charge_cpu a TICK_NS now in
    cond charged.result charged.self
    (budget.charge_cpu charged.self charged.self.cpu_left now).self

abbrev pub tick_found : Option Account → (id now : ℕ) → Registry → Registry
tick_found None id now r = r
tick_found (Some a) id now r = objects.write_budget id (charge_or_drain a now) r

-- `current.budget.and_then(|b| objects.budget_mut(b))`
abbrev pub tick_paid : (budget : Option ℕ) → (now : ℕ) → Registry → Registry
tick_paid None now r = r
tick_paid (Some b) now r = tick_found (objects.budget_mut b r) b now r

abbrev pub tick_budget : Option Thread → (now : ℕ) → Registry → Registry
tick_budget None now r = r
tick_budget (Some t) now r = tick_paid t.budget now r

-- `for id in due { self.wake(id, [0; 3]); }`
abbrev pub wake_each : List ℕ → Board → Board
wake_each [] self = self
wake_each (id ∷ ids) self = wake_each ids (wake id (record { first = 0; second = 0; third = 0 }) self).self

-- `tick`
abbrev pub tick : (now_ticks : ℕ) → Board → Board
tick now_ticks self =
    let now_ns : ℕ = now_ticks * TICK_NS in
    let counted : Board = write_thread self.current count_tick self in
    let charged : Board = write_objects (tick_budget (thread self.current self) now_ns self.registry) counted in
    wake_each (pick (is_due now_ticks) charged.threads) charged

-- `eligible`: the answer, and the registry as the refill leaves it
pub record Tested : Type 0 where
  pub eligible : Bool
  pub registry : Registry

abbrev pub tested : Bool → Registry → Tested
tested b r = record { eligible = b; registry = r }

abbrev pub eligible_budget : Option Account → (id now : ℕ) → Registry → Tested
eligible_budget None id now r = tested false r
eligible_budget (Some a) id now r =
    let refilled : Account = (budget.refill a now).self in
    tested (ltb 0 refilled.cpu_left) (objects.write_budget id refilled r)

-- `match t.budget { None => true, Some(b) => .. }`
abbrev pub eligible_paid : (budget : Option ℕ) → (now : ℕ) → Registry → Tested
eligible_paid None now r = tested true r
eligible_paid (Some b) now r = eligible_budget (objects.budget_mut b r) b now r

abbrev pub eligible_found : Option Thread → (now : ℕ) → Registry → Tested
eligible_found None now r = tested false r
eligible_found (Some t) now r = eligible_paid t.budget now r

-- `(0..self.ready.len()).find(|i| self.eligible(self.ready[*i], objects, now_ns))`, from place i on
pub record Position : Type 0 where
  pub place : Option ℕ
  pub registry : Registry

abbrev pub position : (now i : ℕ) → List ℕ → Board → Registry → Position
position now i [] self r = record { place = None; registry = r }
position now i (id ∷ q) self r =
    let t : Tested = eligible_found (thread id self) now r in
    cond t.eligible (record { place = Some i; registry = t.registry })
    (position now (suc i) q self t.registry)

-- the id that `self.ready.remove(i)` returns; `.expect("index in range")`: the place is there
abbrev pub nth : ℕ → List ℕ → ℕ
nth i [] = IDLE_THREAD
nth zero (t ∷ q) = t
nth (suc i) (t ∷ q) = nth i q

-- `match position { Some(i) => .., None => IDLE_THREAD }`: the id, and the queue that is left
abbrev pub next_of : Option ℕ → List ℕ → ℕ
next_of None q = IDLE_THREAD
next_of (Some i) q = nth i q

abbrev pub rest_of : Option ℕ → List ℕ → List ℕ
rest_of None q = q
rest_of (Some i) q = remove_at i q

-- `.is_some_and(|t| t.state == ..)`
abbrev pub found_in : State → Option Thread → Bool
found_in state None = false
found_in state (Some t) = in_state state t

-- `Switch`, in ids; none for the kernel's root
pub record Switch : Type 0 where
  pub old : ℕ
  pub new : ℕ
  pub root : Option ℕ

-- `next_tcb.root.unwrap_or_else(paging::kernel_root)`; `.expect("ready threads exist")`: the thread is there
abbrev pub root_found : Option Thread → Option ℕ
root_found None = None
root_found (Some t) = option_map (λ (s : Spaces). s.root) t.spaces

-- `plan`, from the thread that was picked on
abbrev pub plan_next : (old next : ℕ) → Board → Call (Option Switch)
plan_next old next self =
    let runs : Board = write_thread next (set_state Running) self in
    cond (eqb next old) (gives runs None)
    (let switched : Board = record { registry = runs.registry; threads = runs.threads; queue = runs.queue; current = next; switches = (runs.switches + 1) % 2 ^ 64; exits = runs.exits } in
    gives (cond (found_in Dead (thread old switched)) (remove_thread old switched) switched) (Some (record { old = old; new = next; root = root_found (thread next runs) })))

-- the first `if` of `plan`: the old thread, if it runs, goes to the queue's end
abbrev pub put_back : (old : ℕ) → Board → Board
put_back old self =
    cond (not (eqb old IDLE_THREAD) && found_in Running (thread old self))
    (push_back old (write_thread old (set_state Ready) self))
    self

-- `plan`
abbrev pub plan : (now_ticks : ℕ) → Board → Call (Option Switch)
plan now_ticks self =
    let now_ns : ℕ = now_ticks * TICK_NS in
    let old : ℕ = self.current in
    let back : Board = put_back old self in
    let p : Position = position now_ns 0 back.queue back back.registry in
    plan_next old (next_of p.place back.queue) (write_objects p.registry (write_queue (rest_of p.place back.queue) back))

-- `exit_of`: `self.exits.iter().find(|(t, _)| *t == id).map(|(_, e)| *e)`
abbrev pub find_exit : {C : Type 0} → ℕ → List (Exit C) → Option (Exit C)
find_exit id [] = None
find_exit id (e ∷ l) = cond (eqb e.thread id) (Some e) (find_exit id l)

abbrev pub exit_of : ℕ → Board → Option Cause
exit_of id self = option_map (λ (e : Exit Cause). e.cause) (find_exit id self.exits)

-- `Scheduler::new`, beside `ObjectRegistry::new`
abbrev pub new : (cpu memory : ℕ) → Board
new cpu memory = record {
  registry = objects.new cpu memory;
  threads = put IDLE_THREAD (tcb Ready) (put BOOT_THREAD (tcb Running) []);
  queue = [];
  current = BOOT_THREAD;
  switches = 0;
  exits = [];
}
