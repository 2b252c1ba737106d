-- The steps of which the calls are made, each of which keeps a sound board sound: a thread changes, joins the queue, stops or goes; a budget is renewed or
-- charged. Assumes nothing.
use Rattle.std.specs.Prelude.{◌≡◌, refl, Bool, true, false, cond, not, ◌&&◌, ◌||◌, List, ℕ, ◌+◌, ◌^◌, ◌≤◌, eqb, length, Option, Some, None}
use Rattle.std.proofs.Common.{sym, ◌∙◌, arith, length-append, length-drop, eqb-true, ne_eqb}
use Rattle.std.proofs.lemmas.Bool.{false≢true, eqb-false}
use Rattle.carv_area.specs.Laws.Table
use Rattle.carv_area.specs.Table.{Row, alter, erase, put}
use Rattle.carv_area.specs.Laws.Table.{test}
use Rattle.carv_objects_spec.specs.Registry.{Registry}
use Rattle.carv_objects_spec.proofs.Laws.SoundFacts as objects
use Rattle.carv_objects_spec.proofs.Laws.Kept as objects_kept
use Rattle.carv_scheduler_spec.specs.declared.Wait.{Wait}
use Rattle.carv_scheduler_spec.specs.declared.Wait.TheVariants.{Sleep}
use Rattle.carv_scheduler_spec.specs.declared.State.{State}
use Rattle.carv_scheduler_spec.specs.declared.State.TheVariants.{Inactive, Ready, Running, Blocked, Dead}
use Rattle.carv_scheduler_spec.specs.declared.Thread.{Thread}
use Rattle.carv_scheduler_spec.specs.declared.Exit.{Exit}
use Rattle.carv_scheduler_spec.specs.declared.Cause.{Cause}
use Rattle.carv_scheduler_spec.specs.Scheduler.{Board, idle, tick_ns, inactive, ready, running, blocked, dead, is, wait_in, wait_of, fresh, thread, has, become, ticked, with_registry, with_threads, join, without, logged, renew_for, charge_tick}
use Rattle.carv_scheduler_spec.specs.Sound.{member, distinct}
use Rattle.carv_scheduler_spec.proofs.Laws.SoundFacts.{Sound}
use Rattle.carv_scheduler_spec.proofs.Laws.Reading.{or_false, and_false, or_true, absent, thread_alter, has_alter, thread_erase, has_erase, thread_put, member_join, member_without, distinct_join, distinct_without}

-- Thread records.

-- no state passes both tests
abbrev pub Disjoint : (s s' : State → Bool) → Type 0
Disjoint s s' = (w : Wait) → ((s Inactive && s' Inactive) || ((s Ready && s' Ready) || ((s Running && s' Running) || ((s (Blocked w) && s' (Blocked w)) || (s Dead && s' Dead))))) ≡ false

-- a thread in one state is in no other
pub other_state : (s s' : State → Bool) (t : Thread) → is s t ≡ true → Disjoint s s' → is s' t ≡ false
other_state s s' t h n = go t.state h
  where
    go : (x : State) → s x ≡ true → s' x ≡ false
    go Inactive h = grind (arith, n (Sleep 0), h)
    go Ready h = grind (arith, n (Sleep 0), h)
    go Running h = grind (arith, n (Sleep 0), h)
    go (Blocked w) h = grind (arith, n w, h)
    go Dead h = grind (arith, n (Sleep 0), h)

-- one that is Ready or Running is in no third
pub up_not : (t : Thread) (s : State → Bool) → (is ready t || is running t) ≡ true → Disjoint s ready → Disjoint s running → is s t ≡ false
up_not t s h x y = test (is s t) (λ a. absurd (false≢true (rw (other_state s ready t a x, other_state s running t a y) at h))) (λ a. a)

-- one that is not Blocked waits for nothing
pub waits_not : (t : Thread) → is blocked t ≡ false → wait_of t ≡ None
waits_not t h = go t.state h
  where
    go : (x : State) → blocked x ≡ false → wait_in x ≡ None
    go Inactive h = refl
    go Ready h = refl
    go Running h = refl
    go (Blocked w) h = absurd (false≢true (sym h))
    go Dead h = refl

-- an id whose thread is neither Ready nor Running is not idle's
pub apart : (b : Board) → Sound b → (i : ℕ) (s : State → Bool) → is s (thread b.threads i) ≡ true → Disjoint s ready → Disjoint s running → eqb i idle ≡ false
apart b o i s h x y = ne_eqb i idle (λ z. false≢true (sym (up_not (thread b.threads i) s (rw z o.idle_state) x y) ∙ h))

-- One thread changes: thread i of the board b becomes t, and the queue becomes q.
pub record Changes (b : Board) (i : ℕ) (t : Thread) (q : List ℕ) : Type 0 where
  pub here : has b.threads i ≡ true
  pub budget : t.budget ≡ (thread b.threads i).budget
  pub distinct_queue : distinct q ≡ true
  pub queued : (j : ℕ) → member j q ≡ cond (eqb i j) (not (eqb i idle) && is ready t) (member j b.queue)
  pub dead_current : is dead t ≡ true → i ≡ b.current
  pub running_current : is running t ≡ true → eqb i idle ≡ false → i ≡ b.current
  pub current_active : i ≡ b.current → is inactive t ≡ false
  pub idle_state : i ≡ idle → (is ready t || is running t) ≡ true
  pub idle_runs : i ≡ idle → b.current ≡ idle → is running t ≡ true

pub change_kept : (b : Board) (i : ℕ) (f : Thread → Thread) (q : List ℕ) (exits : List (Exit Cause)) → Sound b → Changes b i (f (thread b.threads i)) q
    → length exits ≤ 32
    → Sound (record {
      registry = b.registry;
      threads = alter i f b.threads;
      queue = q;
      current = b.current;
      switches = b.switches;
      exits = exits;
    })
change_kept b i f q exits o g few_exits =
    let m = b.threads in
    let t = f (thread m i) in
    let now = thread_alter m i f g.here in
    let here = has_alter m i f g.here in
    record {
      registry = o.registry;
      few = rw Table.length_alter o.few;
      rising = Table.rising_alter m 0 (2 ^ 64) i f o.rising;
      distinct_queue = g.distinct_queue;
      queued = λ j. g.queued j ∙ rw (now j) (test (eqb i j) (λ a. rw (a, eqb-true i j a)) (λ a. rw a (o.queued j)));
      dead_current = λ j d. test (eqb i j)
          (λ a. sym (eqb-true i j a) ∙ g.dead_current (rw (now j, a) at d))
          (λ a. o.dead_current j (rw (now j, a) at d));
      running_current = λ j d e. test (eqb i j)
          (λ a. sym (eqb-true i j a) ∙ g.running_current (rw (now j, a) at d) (rw (eqb-true i j a) e))
          (λ a. o.running_current j (rw (now j, a) at d) e);
      current_here = here b.current ∙ o.current_here;
      current_active = rw (now b.current) (test (eqb i b.current)
          (λ a. rw a (g.current_active (eqb-true i b.current a)))
          (λ a. rw a o.current_active));
      idle_here = here idle ∙ o.idle_here;
      idle_state = rw (now idle) (test (eqb i idle) (λ a. rw a (g.idle_state (eqb-true i idle a))) (λ a. rw a o.idle_state));
      idle_runs = λ z. rw (now idle) (test (eqb i idle) (λ a. rw a (g.idle_runs (eqb-true i idle a) z)) (λ a. rw a (o.idle_runs z)));
      budgets = λ j d. rw (now j) (let k = o.budgets j (sym (here j) ∙ d) in
          test (eqb i j) (λ a. rw (a, g.budget, eqb-true i j a) k) (λ a. rw a k));
      few_exits = few_exits;
    }

-- thread i, which was not Ready and is not idle, becomes Ready and joins the queue's end
pub join_kept : (b : Board) (i : ℕ) (f : Thread → Thread) → Sound b → has b.threads i ≡ true → eqb i idle ≡ false → is ready (thread b.threads i) ≡ false
    → (f (thread b.threads i)).state ≡ Ready → (f (thread b.threads i)).budget ≡ (thread b.threads i).budget
    → Sound (with_threads (alter i f b.threads) (join b.queue i) b)
join_kept b i f o h busy was_not s budget = change_kept b i f (join b.queue i) b.exits o
    (record {
      here = h;
      budget = budget;
      distinct_queue = distinct_join b.queue i o.distinct_queue (o.queued i ∙ rw was_not (and_false (not (eqb i idle))));
      queued = λ j. rw (member_join j b.queue i, s, busy) (test (eqb i j)
          (λ a. rw a (or_true (member j b.queue) refl))
          (λ a. rw a (or_false (member j b.queue))));
      dead_current = λ d. absurd (false≢true (rw s at d));
      running_current = λ d e. absurd (false≢true (rw s at d));
      current_active = λ q. rw s;
      idle_state = λ q. rw s;
      idle_runs = λ q z. absurd (eqb-false i idle busy q);
    })
    o.few_exits

-- the current thread, which is not idle, stops: Blocked or Dead
pub stop_kept : (b : Board) (s : State) (exits : List (Exit Cause)) → Sound b → eqb b.current idle ≡ false
    → ready s ≡ false → inactive s ≡ false → length exits ≤ 32
    → Sound (record {
      registry = b.registry;
      threads = alter b.current (become s) b.threads;
      queue = without b.current b.queue;
      current = b.current;
      switches = b.switches;
      exits = exits;
    })
stop_kept b s exits o busy unready active = change_kept b b.current (become s) (without b.current b.queue) exits o
    (record {
      here = o.current_here;
      budget = refl;
      distinct_queue = distinct_without b.queue b.current o.distinct_queue;
      queued = λ j. rw (member_without j b.queue b.current, unready) (test (eqb b.current j)
          (λ a. rw a (sym (and_false (not (eqb b.current idle)))))
          (λ a. rw a));
      dead_current = λ d. refl;
      running_current = λ d e. refl;
      current_active = λ q. active;
      idle_state = λ q. absurd (eqb-false b.current idle busy q);
      idle_runs = λ q z. absurd (eqb-false b.current idle busy q);
    })

-- The log stays short.

pub logged_few : (e : Exit Cause) (l : List (Exit Cause)) → length l ≤ 32 → length (logged e l) ≤ 32
logged_few e l h = test (eqb (length l) 32)
    (λ a. rw a (simp (length-append, length-drop) (omega (arith, eqb-true (length l) 32 a))))
    (λ a. rw a (simp length-append (below (length l) h (eqb-false (length l) 32 a))))
  where
    below : (n : ℕ) → n ≤ 32 → (n ≡ 32 → ⊥) → n + 1 ≤ 32
    below n h d = omega arith

-- thread i, neither idle nor current, goes
pub gone_kept : (b : Board) (i : ℕ) (exits : List (Exit Cause)) → Sound b → eqb i idle ≡ false → eqb i b.current ≡ false
    → length exits ≤ 32
    → Sound (record {
      registry = b.registry;
      threads = erase i b.threads;
      queue = without i b.queue;
      current = b.current;
      switches = b.switches;
      exits = exits;
    })
gone_kept b i exits o busy away few_exits =
    let m = b.threads in
    let now = thread_erase m i 0 (2 ^ 64) o.rising in
    let here = has_erase m i 0 (2 ^ 64) o.rising in
    record {
      registry = o.registry;
      few = omega (arith, o.few, Table.length_erase m i);
      rising = Table.rising_erase m 0 (2 ^ 64) i o.rising;
      distinct_queue = distinct_without b.queue i o.distinct_queue;
      queued = λ j. rw (member_without j b.queue i, now j) (test (eqb i j)
          (λ a. rw a (sym (and_false (not (eqb j idle)))))
          (λ a. rw a (o.queued j)));
      dead_current = λ j d. test (eqb i j)
          (λ a. absurd (false≢true (rw (now j, a) at d)))
          (λ a. o.dead_current j (rw (now j, a) at d));
      running_current = λ j d e. test (eqb i j)
          (λ a. absurd (false≢true (rw (now j, a) at d)))
          (λ a. o.running_current j (rw (now j, a) at d) e);
      current_here = rw (here b.current, away) o.current_here;
      current_active = rw (now b.current, away) o.current_active;
      idle_here = rw (here idle, busy) o.idle_here;
      idle_state = rw (now idle, busy) o.idle_state;
      idle_runs = λ q. rw (now idle, busy) (o.idle_runs q);
      budgets = λ j d. rw (now j) (test (eqb i j)
          (λ a. absurd (false≢true (rw (here j, a) at d)))
          (λ a. rw a (o.budgets j (rw (here j, a) at d))));
      few_exits = few_exits;
    }

-- a new thread has the state that it read as before: Inactive
pub put_state : (m : List (Row Thread)) (i : ℕ) (p : Option ℕ) → has m i ≡ false → (j : ℕ) → (thread (put i (fresh Inactive p) m) j).state ≡ (thread m j).state
put_state m i p h j = rw (thread_put m i (fresh Inactive p) j) (test (eqb i j)
    (λ a. rw (a, ← eqb-true i j a, absent m i h))
    (λ a. rw a))

-- Registries.

-- the registry of a board
pub registry_kept : (r : Registry) (b : Board) → objects.Sound r → Sound b → Sound (with_registry r b)
registry_kept r b s o = record {
  registry = s;
  few = o.few;
  rising = o.rising;
  distinct_queue = o.distinct_queue;
  queued = o.queued;
  dead_current = o.dead_current;
  running_current = o.running_current;
  current_here = o.current_here;
  current_active = o.current_active;
  idle_here = o.idle_here;
  idle_state = o.idle_state;
  idle_runs = o.idle_runs;
  budgets = o.budgets;
  few_exits = o.few_exits;
}

pub renew_for_kept : (time : ℕ) (p : Option ℕ) (r : Registry) → objects.Sound r → objects.Sound (renew_for time p r)
renew_for_kept time None r s = s
renew_for_kept time (Some p) r s = objects_kept.refill_kept p time r s

pub charge_tick_kept : (time : ℕ) (p : Option ℕ) (r : Registry) → objects.Sound r → objects.Sound (charge_tick time p r)
charge_tick_kept time None r s = s
charge_tick_kept time (Some p) r s = objects_kept.charge_most_kept p tick_ns time r s

-- thread i keeps its state and budget
pub ticked_kept : (b : Board) (i : ℕ) → Sound b → has b.threads i ≡ true → Sound (with_threads (alter i ticked b.threads) b.queue b)
ticked_kept b i o h = change_kept b i ticked b.queue b.exits o
    (record {
      here = h;
      budget = refl;
      distinct_queue = o.distinct_queue;
      queued = λ j. test (eqb i j) (λ a. rw (a, ← eqb-true i j a) (o.queued i)) (λ a. rw a);
      dead_current = o.dead_current i;
      running_current = o.running_current i;
      current_active = λ q. rw q o.current_active;
      idle_state = λ q. rw q o.idle_state;
      idle_runs = λ q z. rw q (o.idle_runs z);
    })
    o.few_exits
