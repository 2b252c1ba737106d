-- The calls of document 01 answer and leave what the Rust's methods do, wherever the answer is no refusal that the port adds. The threads' calls do so on every
-- board; the registry's calls ask for a sound one, and so does that no `expect` of the Rust fails. Assumes nothing.
use Rattle.std.specs.Prelude.{◌≡◌, refl, Bool, true, false, cond, not, ◌&&◌, List, [], ◌∷◌, ℕ, suc, ◌*◌, ◌^◌, min, ◌≤◌, ◌<◌, eqb, ltb, leb, length, Option, Some, None, option_map}
use Rattle.std.proofs.Common.{sym, ap, ◌∙◌, subst, arith, eqb-true, eq-eqb, leb-true, leb-false, le-leb}
use Rattle.std.proofs.Math.Nat.{min-eq_left, min-eq_right}
use Rattle.std.proofs.lemmas.Bool.{eqb-false}
use Rattle.carv_area.specs.Table.{Row, at, alter, erase, pick}
use Rattle.carv_area.specs.Laws.Table.{test, at_alter, at_alter_other, alter_known}
use Rattle.carv_budget.specs.declared.Account.{Account}
use Rattle.carv_budget.specs.Account as account
use Rattle.carv_budget.proofs.Laws.Account.{first, renew_twice}
use Rattle.carv_budget.proofs.Laws.Refines.{refill_renews, charge_cpu_by}
use Rattle.carv_objects_spec.specs.Kinds.{is_budget_kind}
use Rattle.carv_objects_spec.specs.declared.Entry.{Entry}
use Rattle.carv_objects_spec.specs.Reply as reply
use Rattle.carv_objects_spec.specs.Reply.{refuse, accept}
use Rattle.carv_objects_spec.specs.Registry as registry
use Rattle.carv_objects_spec.specs.Registry.{Registry, or_missing, entry, is_budget, account_of, on_account}
use Rattle.carv_objects_spec.specs.Rust as objects
use Rattle.carv_objects_spec.proofs.Laws.Refines as objects_refines
use Rattle.carv_scheduler_spec.specs.declared.Wait.{Wait}
use Rattle.carv_scheduler_spec.specs.declared.Wait.TheVariants as waits
use Rattle.carv_scheduler_spec.specs.declared.State.{State}
use Rattle.carv_scheduler_spec.specs.declared.State.TheVariants.{Inactive, Ready, Running, Blocked, Dead}
use Rattle.carv_scheduler_spec.specs.declared.Context.{Context}
use Rattle.carv_scheduler_spec.specs.declared.Results.{Results}
use Rattle.carv_scheduler_spec.specs.declared.Thread.{Thread}
use Rattle.carv_scheduler_spec.specs.declared.Cause.{Cause}
use Rattle.carv_scheduler_spec.specs.declared.Exit.{Exit}
use Rattle.carv_scheduler_spec.specs.Scheduler as s01
use Rattle.carv_scheduler_spec.specs.Scheduler.{Board, BoardReply, Value, is_blocked, record_of, word, exit_cause, Choice, idle, tick_ns, most_threads, tick_fits, inactive, running, blocked, dead, is, wait_listed, cause_listed, same_wait, wait_in, waits_on, due, is_due, results, become, ticked, thread, has, found, or_fresh, without, renew_for, has_time, charge_tick, put_back, choose, switch_to, switch_value, root_of, exit_in, lift_value, on_registry}
use Rattle.carv_scheduler_spec.proofs.Laws.SoundFacts.{Sound}
use Rattle.carv_scheduler_spec.proofs.Laws.Switching.{put_back_current}
use Rattle.carv_scheduler_spec.specs.Rust as rust
use Rattle.carv_scheduler_spec.specs.Replies.{there, creation_reply_of, said_reply_of, kill_reply_of, plan_reply_of, reading_of, objects_value, objects_reply_of}
use Rattle.carv_objects_spec.specs.Refused.{added, added_to_block}
use Rattle.carv_scheduler_spec.specs.Rust.{Call, gives}

-- the number is 0 exactly where the Rust says `true`, and the board is the Rust's
pub said_number : (there : Bool) (c : Call Bool) → eqb (said_reply_of there c).number 0 ≡ c.result
said_number true c = test c.result (λ e. rw e) (λ e. rw e)
said_number false c = test c.result (λ e. rw e) (λ e. rw e)

pub said_now : (there : Bool) (c : Call Bool) → (said_reply_of there c).after ≡ c.self
said_now true c = test c.result (λ e. rw e) (λ e. rw e)
said_now false c = test c.result (λ e. rw e) (λ e. rw e)

-- if x is no added refusal, then it is y
abbrev Agrees : (x y : BoardReply) → Type 0
Agrees x y = added x.number ≡ false → x ≡ y

-- an added question is passed
skip : (number : ℕ) (q : Bool) {k y : BoardReply} (b : Board) → added number ≡ true → (q ≡ true → Agrees k y) → Agrees (cond q k (refuse number b)) y
skip n true b a h p = h refl p
skip n false b a h p = cc

-- what stands under an id
look : {A C : Type 0} (o : Option A) → (o ≡ None → C) → ((a : A) → o ≡ Some a → C) → C
look None f g = f refl
look (Some a) f g = g a refl

-- the Rust's and 01's "there is a thread"
there_is : (o : Option Thread) → there o ≡ found o
there_is None = refl
there_is (Some t) = refl

-- The Rust's tests of states and waits are 01's.

inactive_is : (x : State) → rust.state_eq x Inactive ≡ inactive x
inactive_is Inactive = refl
inactive_is _ = refl

running_is : (x : State) → rust.state_eq x Running ≡ running x
running_is Running = refl
running_is _ = refl

dead_is : (x : State) → rust.state_eq x Dead ≡ dead x
dead_is Dead = refl
dead_is _ = refl

blocked_is : (x : State) → rust.any_blocked x ≡ blocked x
blocked_is (Blocked w) = refl
blocked_is _ = refl

wait_is : (x : State) → rust.wait_in x ≡ wait_in x
wait_is (Blocked w) = refl
wait_is _ = refl

same_is : (v w : Wait) → rust.wait_eq v w ≡ same_wait v w
same_is (waits.Send a) (waits.Send b) = refl
same_is (waits.Recv a) (waits.Recv b) = refl
same_is (waits.Reply a) (waits.Reply b) = refl
same_is (waits.Notification a) (waits.Notification b) = refl
same_is (waits.Sleep a) (waits.Sleep b) = refl
same_is _ _ = refl

waits_is : (x : State) (w : Wait) → rust.state_eq x (Blocked w) ≡ waits_on w (wait_in x)
waits_is (Blocked v) w = same_is v w
waits_is _ w = refl

due_is : (n : ℕ) (x : State) → rust.due_in n x ≡ due n (wait_in x)
due_is n (Blocked (waits.Sleep at)) = refl
due_is n (Blocked _) = refl
due_is n _ = refl

-- Tables.

module _ {A : Type 0} where
  -- an altered row is erased like the row
  pub erase_alter : (m : List (Row A)) (i : ℕ) (f : A → A) → erase i (alter i f m) ≡ erase i m
  erase_alter [] i f = refl
  erase_alter (r ∷ m) i f = test (eqb r.id i)
      (λ e. rw (e, eq-eqb i i refl))
      (λ e. rw (e, e) (ap (◌∷◌ r) (erase_alter m i f)))

  -- an alteration that a test doesn't see
  pub pick_alter : (p : A → Bool) (m : List (Row A)) (i : ℕ) (f : A → A) → ((a : A) → p (f a) ≡ p a) → pick p (alter i f m) ≡ pick p m
  pick_alter p [] i f h = refl
  pick_alter p (r ∷ m) i f h = test (eqb r.id i)
      (λ e. rw (e, h r.it, ← eqb-true r.id i e))
      (λ e. rw e (ap (λ (l : List ℕ). cond (p r.it) (r.id ∷ l) l) (pick_alter p m i f h)))

-- The threads' calls.

pub create_user_thread_rust : (i payer : ℕ) (stack : Bool) (b : Board) → added (s01.create_user_thread i payer stack b).number ≡ false
    → s01.create_user_thread i payer stack b ≡ creation_reply_of (rust.create_user_thread i payer stack b)
create_user_thread_rust i payer stack b =
    skip 5 (not (has b.threads i)) b refl λ _. skip 5 (not (eqb i 0)) b refl λ _. skip 5 (not (eqb i idle)) b refl λ _.
    skip 6 (ltb (length b.threads) most_threads) b refl λ _ _. test stack (λ s. rw s) (λ s. rw s)

pub start_rust : (i space cspace root : ℕ) (context : Context) (b : Board)
    → s01.start i space cspace root context b ≡ said_reply_of (there (rust.thread i b)) (rust.start i space cspace root context b)
start_rust i space cspace root context b = look (at b.threads i) (λ q. rw q)
    (λ t q. rw (q, inactive_is t.state) (test (is inactive t) (λ p. rw p) (λ p. rw p)))

pub wake_rust : (i : ℕ) (r : Results) (b : Board) → s01.wake i r b ≡ said_reply_of (there (rust.thread i b)) (rust.wake i r b)
unfolding rust.wake
wake_rust i r b = look (at b.threads i) (λ q. rw q)
    (λ t q. rw (q, blocked_is t.state) (test (is blocked t) (λ p. rw p) (λ p. rw p)))

pub block_current_rust : (kind number : ℕ) (b : Board) → added_to_block (s01.block_current kind number b).number ≡ false
    → s01.block_current kind number b ≡ accept None (rust.block_current (rust.wait kind number) b)
block_current_rust kind number b = test (wait_listed kind)
    (λ l. rw l (test (is running (thread b.threads b.current))
    (λ r. rw r (test (eqb b.current idle) (λ e. rw e (λ p. cc)) (λ e. rw e (λ p. refl))))
    (λ r. rw r (λ p. cc))))
    (λ l. rw l (λ p. cc))

pub is_blocked_on_rust : (i kind number : ℕ) (b : Board) → added (s01.is_blocked_on i kind number b).number ≡ false
    → s01.is_blocked_on i kind number b ≡ accept (Some (is_blocked (rust.is_blocked_on i (rust.wait kind number) b))) b
is_blocked_on_rust i kind number b = skip 4 (wait_listed kind) b refl λ _ _.
    look (at b.threads i) (λ q. rw q) (λ t q. rw (q, waits_is t.state (rust.wait kind number)))

without_rust : (i : ℕ) (q : List ℕ) → without i q ≡ rust.retain i q
without_rust i [] = refl
without_rust i (j ∷ q) = test (eqb j i) (λ e. rw e (without_rust i q)) (λ e. rw e (ap (◌∷◌ j) (without_rust i q)))

pub kill_rust : (i cause : ℕ) (b : Board) → added (s01.kill i cause b).number ≡ false
    → s01.kill i cause b ≡ kill_reply_of (there (rust.thread i b)) (rust.kill i (rust.cause cause) b)
kill_rust i cause b = skip 4 (cause_listed cause) b refl λ _. skip 5 (not (eqb i idle)) b refl λ _ _.
    look (at b.threads i) (λ q. rw q)
    (λ t q. rw (q, without_rust i b.queue, wait_is t.state) (test (eqb i b.current) (λ e. rw e) (λ e. rw (e, erase_alter b.threads i))))

-- where the thread is not there `kill` answers `None` and leaves the board
pub kill_missing : (i : ℕ) (why : Cause) (b : Board) → there (rust.thread i b) ≡ false → rust.kill i why b ≡ gives b None
kill_missing i why b h = look (at b.threads i) (λ q. rw q) (λ t q. let z : true ≡ false = rw q at h in cc)

-- Budgets. `write_budget` is what the Rust leaves behind `budget_mut`.

-- a budget is there
live_there : (o : Option Entry) → is_budget_kind (or_missing o).kind ≡ true → o ≡ Some (or_missing o)
live_there None p = cc
live_there (Some e) p = refl

budget_of_is : (o : Option Entry) → objects.budget_of o ≡ cond (is_budget_kind (or_missing o).kind) (Some (or_missing o).account) None
budget_of_is None = refl
budget_of_is (Some e) = refl

budget_mut_is : (p : ℕ) (r : Registry) → objects.budget_mut p r ≡ cond (is_budget r p) (Some (account_of r p)) None
budget_mut_is p r = budget_of_is (at r.rows p)

module _ (p : ℕ) (r : Registry) (live : is_budget r p ≡ true) (f : Account → Account) where
  -- a step of the account is what is written
  step_is : registry.budget p f r ≡ objects.write_budget p (f (account_of r p)) r
  step_is = ap (λ (m : List (Row Entry)). record { next = r.next; rows = m })
      (alter_known r.rows p (on_account f) (objects.set_budget (f (account_of r p))) (entry r p) (live_there (at r.rows p) live) refl)

  -- the entry after the step
  stepped : entry (registry.budget p f r) p ≡ on_account f (entry r p)
  stepped = ap or_missing (at_alter r.rows p (on_account f) (entry r p) (live_there (at r.rows p) live))

  still_budget : is_budget (registry.budget p f r) p ≡ true
  still_budget = ap (λ (e : Entry). is_budget_kind e.kind) stepped ∙ live

  account_stepped : account_of (registry.budget p f r) p ≡ f (account_of r p)
  account_stepped = ap (λ (e : Entry). e.account) stepped

-- `tick`.

-- the charge, and where it is refused a charge of what is left, spend the smaller of a tick and what is left after the renewal
drained : (a : Account) (now : ℕ) → rust.charge_or_drain a now ≡ account.spend (account.renew a now) (min tick_ns (account.renew a now).cpu_left)
drained a now =
    let left : ℕ = (account.renew a now).cpu_left in
    rw (charge_cpu_by a tick_ns now) (test (leb tick_ns left)
    (λ c. rw (c, min-eq_left (leb-true tick_ns left c)))
    (λ c. let h : left ≤ tick_ns = omega (arith, leb-false tick_ns left c) in
    rw (c, charge_cpu_by (account.renew a now) left now, renew_twice a now, le-leb left left (omega arith), min-eq_right h)))

charged_for : (p : Option ℕ) (now : ℕ) (r : Registry) → charge_tick now p r ≡ rust.tick_paid p now r
charged_for None now r = refl
charged_for (Some p) now r = rw (budget_mut_is p r) (test (is_budget r p)
    (λ l. rw (l, drained (account_of r p) now, step_is p r l (λ a. account.spend (account.renew a now) (min tick_ns (account.renew a now).cpu_left))))
    (λ l. rw l))

charged_thread : (o : Option Thread) (now : ℕ) (r : Registry) → charge_tick now (or_fresh o).budget r ≡ rust.tick_budget o now r
charged_thread None now r = refl
charged_thread (Some t) now r = charged_for t.budget now r

wakes : (ids : List ℕ) (b : Board) → s01.wake_all ids b ≡ rust.wake_each ids b
wakes [] b = refl
wakes (i ∷ ids) b =
    let zeros : Results = results 0 0 0 in
    ap (s01.wake_all ids) (ap (λ (a : BoardReply). a.after) (wake_rust i zeros b) ∙ said_now (there (rust.thread i b)) (rust.wake i zeros b)) ∙ wakes ids (rust.wake i zeros b).self

-- the sleepers that are due
due_one : (n : ℕ) (t : Thread) → rust.is_due n t ≡ is_due n t
due_one n t = due_is n t.state

due_same : (n : ℕ) (m : List (Row Thread)) → pick (rust.is_due n) m ≡ pick (is_due n) m
due_same n [] = refl
due_same n (r ∷ m) = rw (due_one n r.it, due_same n m)

pub tick_rust : (n : ℕ) (b : Board) → added (s01.tick n b).number ≡ false → s01.tick n b ≡ accept None (rust.tick n b)
tick_rust n b = skip 3 (tick_fits n) b refl λ _ _.
    rw (due_same n (alter b.current ticked b.threads), pick_alter (is_due n) b.threads b.current ticked (λ _. refl), ← charged_thread (at b.threads b.current) (n * tick_ns) b.registry)
    (ap (λ (x : Board). accept {A = Value} None x) (wakes (pick (is_due n) b.threads) _))

-- `plan`.

-- a test: the registry with the thread's budget renewed, and whether the thread is there and has time left
tested_paid : (p now : ℕ) (r : Registry)
    → rust.eligible_budget (objects.budget_mut p r) p now r ≡ rust.tested (registry.has_cpu (registry.refill p now r).after p) (registry.refill p now r).after
tested_paid p now r = rw (budget_mut_is p r) (test (is_budget r p)
    (λ l. rw (
      l,
      refill_renews (account_of r p) now,
      still_budget p r l (λ a. account.renew a now),
      account_stepped p r l (λ a. account.renew a now),
      step_is p r l (λ a. account.renew a now),
    ))
    (λ l. rw (l, l)))

tested_for : (p : Option ℕ) (now : ℕ) (r : Registry) → rust.eligible_paid p now r ≡ rust.tested (has_time p (renew_for now p r)) (renew_for now p r)
tested_for None now r = refl
tested_for (Some p) now r = tested_paid p now r

tested_thread : (o : Option Thread) (now : ℕ) (r : Registry)
    → rust.eligible_found o now r ≡ rust.tested (found o && has_time (or_fresh o).budget (renew_for now (or_fresh o).budget r)) (renew_for now (or_fresh o).budget r)
tested_thread None now r = refl
tested_thread (Some t) now r = tested_for t.budget now r

-- one place further on
abbrev after : Option ℕ → Option ℕ
after None = None
after (Some i) = Some (suc i)

-- a search from the next place on
further : (now i : ℕ) (q : List ℕ) (b : Board) (r : Registry)
    → rust.position now (suc i) q b r ≡ record { place = after (rust.position now i q b r).place; registry = (rust.position now i q b r).registry }
further now i [] b r = refl
further now i (j ∷ q) b r = test (rust.eligible_found (at b.threads j) now r).eligible
    (λ e. rw e)
    (λ e. rw e (further now (suc i) q b (rust.eligible_found (at b.threads j) now r).registry))

-- the id at a place, and the queue without it
picked : Option ℕ → List ℕ → Registry → Choice
picked place q r = record { next = rust.next_of place q; rest = rust.rest_of place q; registry = r }

passed : (o : Option ℕ) (j : ℕ) (q : List ℕ) (r : Registry) → s01.pass_over j (picked o q r) ≡ picked (after o) (j ∷ q) r
unfolding picked
passed None j q r = refl
passed (Some i) j q r = refl

-- what is chosen is what stands at the found place
chosen : (now : ℕ) (q : List ℕ) (b : Board) (r : Registry)
    → choose now b.threads q r ≡ picked (rust.position now 0 q b r).place q (rust.position now 0 q b r).registry
unfolding picked
chosen now [] b r = refl
chosen now (j ∷ q) b r =
    let r' : Registry = renew_for now (thread b.threads j).budget r in
    rw (tested_thread (at b.threads j) now r) (test (has b.threads j && has_time (thread b.threads j).budget r')
    (λ e. rw e)
    (λ e. rw (e, further now 0 q b r', chosen now q b r') (passed (rust.position now 0 q b r').place j q (rust.position now 0 q b r').registry)))

found_running : (o : Option Thread) → rust.found_in Running o ≡ is running (or_fresh o)
found_running None = refl
found_running (Some t) = running_is t.state

found_dead : (o : Option Thread) → rust.found_in Dead o ≡ is dead (or_fresh o)
found_dead None = refl
found_dead (Some t) = dead_is t.state

-- what the Rust writes to the chosen thread
abbrev to_running : Thread → Thread
to_running = rust.set_state Running

-- the root of a thread that comes to run
root_runs : (m : List (Row Thread)) (i : ℕ) → rust.root_found (at (alter i to_running m) i) ≡ root_of (thread m i)
root_runs [] i = refl
root_runs (r ∷ m) i = test (eqb r.id i) (λ e. rw (e, eq-eqb i i refl)) (λ e. rw (e, e) (root_runs m i))

-- from the chosen thread on
switched : (next : ℕ) (rest : List ℕ) (r : Registry) (b : Board)
    → accept (Some (switch_value b.current (record { next = next; rest = rest; registry = r }) b)) (switch_to (record { next = next; rest = rest; registry = r }) b)
    ≡ plan_reply_of (rust.plan_next b.current next (rust.write_objects r (rust.write_queue rest b)))
switched next rest r b = test (eqb next b.current)
    (λ e. rw (e, eqb-true next b.current e))
    (λ e. rw (e, root_runs b.threads next, at_alter_other b.threads next b.current to_running (eqb-false next b.current e), found_dead (at b.threads b.current))
    (test (is dead (thread b.threads b.current)) (λ d. rw d) (λ d. rw d)))

-- the Rust's planning from the board with its current thread put back
planned : (now old : ℕ) → Board → Call (Option rust.Switch)
planned now old back =
    let p : rust.Position = rust.position now 0 back.queue back back.registry in
    rust.plan_next old (rust.next_of p.place back.queue) (rust.write_objects p.registry (rust.write_queue (rust.rest_of p.place back.queue) back))

plan_is : (n : ℕ) (b : Board) → planned (n * rust.TICK_NS) b.current (rust.put_back b.current b) ≡ rust.plan n b
unfolding planned
plan_is n b = refl

back_is : (b : Board) → put_back b ≡ rust.put_back b.current b
back_is b = rw (found_running (at b.threads b.current))

-- what 01 chooses from a board
choice_of : (now : ℕ) → Board → Choice
choice_of now b = choose now b.threads b.queue b.registry

planned_is : (now old : ℕ) (b : Board) → b.current ≡ old
    → accept (Some (switch_value old (choice_of now b) b)) (switch_to (choice_of now b) b) ≡ plan_reply_of (planned now old b)
unfolding picked planned choice_of
planned_is now old b q =
    let p : rust.Position = rust.position now 0 b.queue b b.registry in
    rw (← q, chosen now b.queue b b.registry) (switched (rust.next_of p.place b.queue) (rust.rest_of p.place b.queue) p.registry b)

pub plan_rust : (n : ℕ) (b : Board) → added (s01.plan n b).number ≡ false → s01.plan n b ≡ plan_reply_of (rust.plan n b)
unfolding choice_of
plan_rust n b = skip 3 (tick_fits n) b refl λ _ _.
    planned_is (n * tick_ns) b.current (put_back b) (put_back_current b)
    ∙ ap (λ (x : Board). plan_reply_of (planned (n * tick_ns) b.current x)) (back_is b)
    ∙ ap plan_reply_of (plan_is n b)

-- The readings and the opening.

pub read_thread_rust : (i : ℕ) (b : Board) → s01.read_thread i b ≡ reading_of record_of (rust.thread i b) b
read_thread_rust i b = look (at b.threads i) (λ q. rw q) (λ t q. rw q)

pub read_current_rust : (b : Board) → s01.read_current b ≡ accept (Some (word b.current)) b
read_current_rust b = refl

pub read_switches_rust : (b : Board) → s01.read_switches b ≡ accept (Some (word b.switches)) b
read_switches_rust b = refl

pub exit_same : {C : Type 0} (i : ℕ) (l : List (Exit C)) → exit_in i l ≡ option_map (λ (e : Exit C). e.cause) (rust.find_exit i l)
exit_same i [] = refl
exit_same i (e ∷ l) = test (eqb e.thread i) (λ a. rw a) (λ a. rw a (exit_same i l))

pub exit_of_rust : (i : ℕ) (b : Board) → s01.exit_of i b ≡ accept (Some (exit_cause (rust.exit_of i b))) b
exit_of_rust i b = ap (λ (x : Option Cause). accept {A = Value} (Some (exit_cause x)) b) (exit_same i b.exits)

pub opening_rust : (cpu memory : ℕ) → cpu ≤ account.period → s01.opening cpu memory ≡ rust.new cpu memory
opening_rust cpu memory h = rw (objects_refines.opening_rust cpu memory h)

-- A call of the registry answers and leaves on the board what its Rust does, by the theorems of carv_objects_spec/proofs/Laws/Refines.antt.

lift_is : (v : Option reply.Value) → lift_value v ≡ objects_value v
lift_is None = refl
lift_is (Some v) = refl

pub on_registry_rust : (a c : registry.RegistryReply) (b : Board) → a ≡ c → on_registry a b ≡ objects_reply_of c b
on_registry_rust a c b q = rw (q, lift_is c.value)

-- The Rust's `expect`s. On a sound board none of them fails, and no time leaves 64 bits: the current thread is there (`current_tcb`), and at a planning
-- so are the found place, the thread that comes to run and the one that is left.

pub time_fits : (n : ℕ) → tick_fits n ≡ true → n * tick_ns < 2 ^ 64
time_fits n h = omega (arith, leb-true n 18_446_744_073_709 h)

-- a place of a queue of length n
abbrev pub Within : Option ℕ → ℕ → Type 0
Within None n = Unit {0}
Within (Some i) n = i < n

within_after : (o : Option ℕ) (n : ℕ) → Within o n → Within (after o) (suc n)
within_after None n h = tt
within_after (Some i) n h = omega arith

placed : (now : ℕ) (q : List ℕ) (b : Board) (r : Registry) → Within (rust.position now 0 q b r).place (length q)
placed now [] b r = tt
placed now (j ∷ q) b r =
    let t : rust.Tested = rust.eligible_found (at b.threads j) now r in
    test t.eligible
    (λ e. rw e (omega arith))
    (λ e. rw (e, further now 0 q b t.registry) (within_after (rust.position now 0 q b t.registry).place (length q) (placed now q b t.registry)))

has_alter : (m : List (Row Thread)) (i j : ℕ) (f : Thread → Thread) → has (alter i f m) j ≡ has m j
has_alter [] i j f = refl
has_alter (r ∷ m) i j f = test (eqb r.id i)
    (λ e. rw (e, ← eqb-true r.id i e) (test (eqb r.id j) (λ d. rw d) (λ d. rw d)))
    (λ e. rw e (test (eqb r.id j) (λ d. rw d) (λ d. rw d (has_alter m i j f))))

chosen_there : (now : ℕ) (m : List (Row Thread)) (q : List ℕ) (r : Registry) → has m idle ≡ true → has m (choose now m q r).next ≡ true
chosen_there now m [] r h = h
chosen_there now m (j ∷ q) r h =
    let r' : Registry = renew_for now (thread m j).budget r in
    test (has m j && has_time (thread m j).budget r')
    (λ e. rw e (first (has m j) (has_time (thread m j).budget r') e))
    (λ e. rw e (chosen_there now m q r' h))

has_back : (b : Board) (i : ℕ) → has (put_back b).threads i ≡ has b.threads i
has_back b i = test (not (eqb b.current idle) && is running (thread b.threads b.current))
    (λ e. rw e (has_alter b.threads b.current i (become Ready)))
    (λ e. rw e)

-- of a planning at a time, from the board with the current thread put back
pub record Expected (now old : ℕ) (back : Board) : Type 0 where
  pub place : Within (rust.position now 0 back.queue back back.registry).place (length back.queue)
  pub next : there (rust.thread (rust.next_of (rust.position now 0 back.queue back back.registry).place back.queue) back) ≡ true
  pub left : (i : ℕ) → there (rust.thread old (rust.write_thread i (rust.set_state Running) back)) ≡ true

pub plan_expects : (n : ℕ) (b : Board) → Sound b → Expected (n * rust.TICK_NS) b.current (rust.put_back b.current b)
unfolding picked
plan_expects n b s = subst (Expected (n * tick_ns) b.current) (back_is b) (
    let back : Board = put_back b in
    record {
      place = placed (n * tick_ns) back.queue back back.registry;
      next = there_is (at back.threads _) ∙ ap (λ (c : Choice). has back.threads c.next) (sym (chosen (n * tick_ns) back.queue back back.registry))
          ∙ chosen_there (n * tick_ns) back.threads back.queue back.registry (has_back b idle ∙ s.idle_here);
      left = λ i. there_is (at (alter i to_running back.threads) b.current) ∙ has_alter back.threads i b.current to_running ∙ (has_back b b.current ∙ s.current_here);
    })
