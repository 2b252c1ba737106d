-- Each call of the board keeps a sound board sound. Assumes nothing.
use Rattle.std.specs.Prelude.{◌≡◌, refl, Bool, true, false, not, ◌&&◌, List, [], ◌∷◌, ℕ, ◌*◌, ◌^◌, ◌≤◌, ◌<◌, eqb, ltb, length, is_none, Some, None}
use Rattle.std.proofs.Common.{sym, ◌∙◌, ap, subst, arith, eqb-true, ltb-true}
use Rattle.std.proofs.lemmas.Bool.{false≢true, not-true}
use Rattle.carv_area.specs.Laws.Table
use Rattle.carv_area.specs.Table.{at, alter, pick}
use Rattle.carv_area.specs.Laws.Table.{test}
use Rattle.carv_budget.specs.Account.{period}
use Rattle.carv_objects_spec.proofs.Laws.Asked.{asked}
use Rattle.carv_objects_spec.specs.Registry as registry
use Rattle.carv_objects_spec.proofs.Laws.SoundFacts as objects
use Rattle.carv_objects_spec.proofs.Laws.Kept as objects_kept
use Rattle.carv_scheduler_spec.specs.declared.State.TheVariants.{Inactive, Blocked, Dead}
use Rattle.carv_scheduler_spec.specs.declared.Context.{Context}
use Rattle.carv_scheduler_spec.specs.declared.Results.{Results}
use Rattle.carv_scheduler_spec.specs.declared.Exit.{Exit}
use Rattle.carv_scheduler_spec.specs.declared.Cause.{Cause}
use Rattle.carv_scheduler_spec.specs.Scheduler.{Board, BoardReply, idle, most_threads, tick_ns, tick_fits, inactive, ready, running, blocked, dead, is, is_due, wait, wait_listed, cause_listed, cause_of, in_spaces, results, fresh, or_fresh, thread, has, started, woken, ticked, with_registry, with_threads, logged, charge_tick, opening, create_user_thread, start, block_current, wake, is_blocked_on, kill, wake_all, tick, put_back, choose, plan, read_thread, on_registry}
use Rattle.carv_scheduler_spec.specs.Sound.{unpaid}
use Rattle.carv_scheduler_spec.proofs.Laws.SoundFacts.{Sound}
use Rattle.carv_scheduler_spec.proofs.Laws.Reading.{and_false, or_true, thread_put, has_put, without_absent}
use Rattle.carv_scheduler_spec.proofs.Laws.Steps.{other_state, apart, join_kept, stop_kept, gone_kept, put_state, registry_kept, charge_tick_kept, ticked_kept, logged_few}
use Rattle.carv_scheduler_spec.proofs.Laws.Switching.{put_back_kept, put_back_idle, chosen, switch_to_kept}

-- a reply leaves a sound board
abbrev Keeps : BoardReply → Type 0
Keeps a = Sound a.after

-- an id is a 64-bit word
pub create_user_thread_kept : (i budget : ℕ) (stack : Bool) (b : Board) → i < 2 ^ 64 → Sound b → Sound (create_user_thread i budget stack b).after
create_user_thread_kept i budget stack b low o =
    asked Keeps (not (has b.threads i)) o λ h.
    asked Keeps (not (eqb i 0)) o λ n.
    asked Keeps (not (eqb i idle)) o λ k.
    asked Keeps (ltb (length b.threads) most_threads) o λ room.
    asked Keeps stack o λ backing.
    let m = b.threads in
    let t = fresh Inactive (Some budget) in
    let missing = not-true (has m i) h in
    let busy = not-true (eqb i idle) k in
    let state = put_state m i (Some budget) missing in
    let now = thread_put m i t in
    let here = has_put m i t in
    record {
      registry = o.registry;
      few = omega (arith, Table.length_put m i t, ltb-true (length m) most_threads room);
      rising = Table.rising_put m 0 (2 ^ 64) i t (omega arith) low o.rising;
      distinct_queue = o.distinct_queue;
      queued = λ j. rw (state j) (o.queued j);
      dead_current = λ j d. o.dead_current j (rw (state j) at d);
      running_current = λ j d e. o.running_current j (rw (state j) at d) e;
      current_here = rw (here b.current) (or_true (eqb i b.current) o.current_here);
      current_active = rw (state b.current) o.current_active;
      idle_here = rw (here idle) (or_true (eqb i idle) o.idle_here);
      idle_state = rw (state idle) o.idle_state;
      idle_runs = λ q. rw (state idle) (o.idle_runs q);
      budgets = λ j d. rw (now j) (test (eqb i j)
          (λ a. rw (a, ← eqb-true i j a, not-true (eqb i 0) n, busy))
          (λ a. rw a (o.budgets j (rw (here j, a) at d))));
      few_exits = o.few_exits;
    }

pub start_kept : (i space cspace root : ℕ) (x : Context) (b : Board) → Sound b → Sound (start i space cspace root x b).after
start_kept i space cspace root x b o =
    asked Keeps (has b.threads i) o λ h.
    asked Keeps (is inactive (thread b.threads i)) o λ s.
    join_kept b i (started (in_spaces space cspace root) x) o h (apart b o i inactive s (λ _. refl) (λ _. refl))
    (other_state inactive ready (thread b.threads i) s (λ _. refl)) refl refl

pub wake_kept : (i : ℕ) (r : Results) (b : Board) → Sound b → Sound (wake i r b).after
wake_kept i r b o =
    asked Keeps (has b.threads i) o λ h.
    asked Keeps (is blocked (thread b.threads i)) o λ s.
    join_kept b i (woken r) o h (apart b o i blocked s (λ _. refl) (λ _. refl)) (other_state blocked ready (thread b.threads i) s (λ _. refl)) refl refl

pub wake_all_kept : (is : List ℕ) (b : Board) → Sound b → Sound (wake_all is b)
wake_all_kept [] b o = o
wake_all_kept (i ∷ is) b o = wake_all_kept is (wake i (results 0 0 0) b).after (wake_kept i (results 0 0 0) b o)

pub block_current_kept : (kind number : ℕ) (b : Board) → Sound b → Sound (block_current kind number b).after
block_current_kept kind number b o =
    let t = thread b.threads b.current in
    asked Keeps (wait_listed kind) o λ c.
    asked Keeps (is running t) o λ s.
    asked Keeps (not (eqb b.current idle)) o λ n.
    let p = stop_kept b (Blocked (wait kind number)) b.exits o (not-true (eqb b.current idle) n) refl refl o.few_exits in
    let out = o.queued b.current ∙ rw (other_state running ready t s (λ _. refl)) (and_false (not (eqb b.current idle))) in
    rw (without_absent b.current b.queue out) at p

pub kill_kept : (i cause : ℕ) (b : Board) → Sound b → Sound (kill i cause b).after
kill_kept i cause b o =
    asked Keeps (cause_listed cause) o λ c.
    asked Keeps (not (eqb i idle)) o λ n.
    asked Keeps (has b.threads i) o λ h.
    let busy = not-true (eqb i idle) n in
    test (eqb i b.current)
    (λ a. rw a (let q = eqb-true i b.current a in
    let e : Exit Cause = record { thread = b.current; cause = cause_of cause } in
    rw q (stop_kept b Dead (logged e b.exits) o (rw q at busy) refl refl (logged_few e b.exits o.few_exits))))
    (λ a. rw a (let e : Exit Cause = record { thread = i; cause = cause_of cause } in
    gone_kept b i (logged e b.exits) o busy a (logged_few e b.exits o.few_exits)))

pub tick_kept : (n : ℕ) (b : Board) → Sound b → Sound (tick n b).after
tick_kept n b o =
    asked Keeps (tick_fits n) o λ h.
    let p = (thread b.threads b.current).budget in
    let r = charge_tick (n * tick_ns) p b.registry in
    let b₁ = with_threads (alter b.current ticked b.threads) b.queue b in
    wake_all_kept (pick (is_due n) b.threads) (with_registry r b₁)
    (registry_kept r b₁ (charge_tick_kept (n * tick_ns) p b.registry o.registry) (ticked_kept b b.current o o.current_here))

pub plan_kept : (n : ℕ) (b : Board) → Sound b → Sound (plan n b).after
plan_kept n b o =
    asked Keeps (tick_fits n) o λ h.
    let b' = put_back b in
    let o' = put_back_kept b o in
    switch_to_kept b' (choose (n * tick_ns) b'.threads b'.queue b'.registry) o' (chosen b' (n * tick_ns) o') (put_back_idle b o)

-- `is_blocked_on` and the readings leave the board as it is: `read_current`, `read_switches` and `exit_of` by `refl`, these past a question.

pub is_blocked_on_left : (i kind number : ℕ) (b : Board) → (is_blocked_on i kind number b).after ≡ b
is_blocked_on_left i kind number b = asked (λ a. a.after ≡ b) (wait_listed kind) refl λ c. refl

pub read_thread_left : (i : ℕ) (b : Board) → (read_thread i b).after ≡ b
read_thread_left i b = asked (λ (a : BoardReply). a.after ≡ b) (has b.threads i) refl λ h. refl

-- a call of the registry that leaves it sound
pub on_registry_kept : (a : registry.RegistryReply) (b : Board) → objects.Sound a.after → Sound b → Sound (on_registry a b).after
on_registry_kept a b s o = registry_kept a.after b s o

-- The opening.

-- thread 0, idle, or another
pub three : (P : ℕ → Type 0) → P 0 → P idle → ((i : ℕ) → eqb 0 i ≡ false → eqb idle i ≡ false → P i) → (i : ℕ) → P i
three P z w other i = test (eqb 0 i) (λ a. subst P (eqb-true 0 i a) z)
    (λ a. test (eqb idle i) (λ c. subst P (eqb-true idle i c) w) (λ c. other i a c))

pub opening_sound : (cpu memory : ℕ) → cpu ≤ period → Sound (opening cpu memory)
opening_sound cpu memory h =
    let m = (opening cpu memory).threads in
    record {
      registry = objects_kept.opening_sound cpu memory h;
      few = omega arith;
      rising = (omega arith, (omega arith, omega arith));
      distinct_queue = refl;
      queued = three (λ i. false ≡ (not (eqb i idle) && is ready (thread m i))) refl refl
          (λ i a c. rw (other i a c) (sym (and_false (not (eqb i idle)))));
      dead_current = three (λ i. is dead (thread m i) ≡ true → i ≡ 0) (λ d. refl) (λ d. absurd (false≢true d))
          (λ i a c d. absurd (false≢true (rw (other i a c) at d)));
      running_current = three (λ i. is running (thread m i) ≡ true → eqb i idle ≡ false → i ≡ 0) (λ d e. refl) (λ d e. absurd (false≢true d))
          (λ i a c d e. absurd (false≢true (rw (other i a c) at d)));
      current_here = refl;
      current_active = refl;
      idle_here = refl;
      idle_state = refl;
      idle_runs = λ q. absurd (omega arith);
      budgets = three (λ i. has m i ≡ true → is_none (thread m i).budget ≡ unpaid i) (λ d. refl) (λ d. refl)
          (λ i a c d. absurd (false≢true (rw (a, c) at d)));
      few_exits = omega arith;
    }
  where
    other : (i : ℕ) → eqb 0 i ≡ false → eqb idle i ≡ false → thread (opening cpu memory).threads i ≡ fresh Inactive None
    other i a c = let q : at (opening cpu memory).threads i ≡ None = rw (a, c) in ap or_fresh q
