-- Planning: what is chosen from the queue, and that putting back and switching keep a sound board sound. Assumes nothing.
use Rattle.std.specs.Prelude.{◌≡◌, refl, Bool, true, false, cond, not, ◌&&◌, ◌||◌, List, [], ◌∷◌, ℕ, ◌^◌, ◌≤◌, eqb, length, None}
use Rattle.std.proofs.Common.{sym, subst, ◌∙◌, true≢false, arith, eqb-true, eq-eqb, ne_eqb}
use Rattle.std.proofs.lemmas.Bool.{false≢true, eqb-false, not-true}
use Rattle.carv_area.specs.Laws.Table
use Rattle.carv_area.specs.Table.{Row, alter, erase, Rising}
use Rattle.carv_area.specs.Laws.Table.{test}
use Rattle.carv_budget.proofs.Laws.Account.{first, second}
use Rattle.carv_objects_spec.specs.Registry.{Registry}
use Rattle.carv_objects_spec.proofs.Laws.SoundFacts as objects
use Rattle.carv_scheduler_spec.specs.declared.State.{State}
use Rattle.carv_scheduler_spec.specs.declared.State.TheVariants.{Inactive, Ready, Running}
use Rattle.carv_scheduler_spec.specs.declared.Thread.{Thread}
use Rattle.carv_scheduler_spec.specs.Scheduler.{Board, Choice, idle, ready, running, blocked, dead, is, wait_of, fresh, thread, has, become, renew_for, has_time, put_back, choose, switch_to}
use Rattle.carv_scheduler_spec.specs.Sound.{member, distinct}
use Rattle.carv_scheduler_spec.proofs.Laws.SoundFacts.{Sound}
use Rattle.carv_scheduler_spec.proofs.Laws.Reading.{and_false, or_true, neither, thread_alter, has_alter, thread_erase, has_erase, distinct_first, distinct_rest}
use Rattle.carv_scheduler_spec.proofs.Laws.SoundLaws.{queued_ready}
use Rattle.carv_scheduler_spec.proofs.Laws.Steps.{Disjoint, other_state, up_not, waits_not, join_kept, renew_for_kept}

-- The planning's choice goes through the queue from its front.
module _ (time : ℕ) (m : List (Row Thread)) where
  -- thread i is there and, its budget renewed, has time left
  abbrev pub eligible : ℕ → Registry → Bool
  eligible i r = has m i && has_time (thread m i).budget (renew_for time (thread m i).budget r)

  pub choose_kept : (q : List ℕ) (r : Registry) → objects.Sound r → objects.Sound (choose time m q r).registry
  choose_kept [] r s = s
  choose_kept (i ∷ q) r s =
      let s' = renew_for_kept time (thread m i).budget r s in
      test (eligible i r)
      (λ a. rw a s')
      (λ a. rw a (choose_kept q (renew_for time (thread m i).budget r) s'))

  -- the choice is idle, or one of the queue that is there
  pub choose_in : (q : List ℕ) (r : Registry) → eqb (choose time m q r).next idle ≡ false → member (choose time m q r).next q ≡ true
  choose_in [] r h = absurd (true≢false h)
  choose_in (i ∷ q) r h =
      let r' = renew_for time (thread m i).budget r in
      test (eligible i r)
      (λ a. rw (a, eq-eqb i i refl))
      (λ a. let e : (choose time m (i ∷ q) r).next ≡ (choose time m q r').next = rw a in
      let P : ℕ → Type 0 = λ n. eqb i n || member n q ≡ true in
      subst P (sym e) (or_true (eqb i (choose time m q r').next) (choose_in q r' (rw a at h))))

  pub choose_has : (q : List ℕ) (r : Registry) → eqb (choose time m q r).next idle ≡ false → has m (choose time m q r).next ≡ true
  choose_has [] r h = absurd (true≢false h)
  choose_has (i ∷ q) r h =
      let r' = renew_for time (thread m i).budget r in
      test (eligible i r)
      (λ a. rw a (first (has m i) (has_time (thread m i).budget r') a))
      (λ a. rw a (choose_has q r' (rw a at h)))

  -- one that is neither idle nor in the queue is not chosen
  pub choose_not : (i : ℕ) (q : List ℕ) (r : Registry) → eqb i idle ≡ false → member i q ≡ false → eqb (choose time m q r).next i ≡ false
  choose_not i q r busy out = ne_eqb (choose time m q r).next i (λ z.
      false≢true (sym out ∙ rw z at (choose_in q r (rw z busy))))

  -- what is left of the queue is all but the choice
  pub choose_rest : (q : List ℕ) (r : Registry) → distinct q ≡ true → member idle q ≡ false
      → (j : ℕ) → member j (choose time m q r).rest ≡ (not (eqb (choose time m q r).next j) && member j q)
  choose_rest [] r d h j = sym (and_false (not (eqb idle j)))
  choose_rest (i ∷ q) r d h j = test (eligible i r)
      (λ a. rw a (test (eqb i j) (λ b. rw (b, ← eqb-true i j b) (distinct_first i q d)) (λ b. rw b)))
      (λ a. let r' = renew_for time (thread m i).budget r in
      let (i_busy, q_busy) = neither (eqb i idle) (member idle q) h in
      rw (a, choose_rest q r' (distinct_rest i q d) q_busy j) (test (eqb i j)
      (λ b. rw (b, ← eqb-true i j b, choose_not i q r' i_busy (distinct_first i q d)))
      (λ b. rw b)))

  pub choose_distinct : (q : List ℕ) (r : Registry) → distinct q ≡ true → member idle q ≡ false → distinct (choose time m q r).rest ≡ true
  choose_distinct [] r d h = refl
  choose_distinct (i ∷ q) r d h = test (eligible i r)
      (λ a. rw a (distinct_rest i q d))
      (λ a. let r' = renew_for time (thread m i).budget r in
      let (i_busy, q_busy) = neither (eqb i idle) (member idle q) h in
      rw (
        a,
        choose_rest q r' (distinct_rest i q d) q_busy i,
        choose_not i q r' i_busy (distinct_first i q d),
        distinct_first i q d,
        choose_distinct q r' (distinct_rest i q d) q_busy,
      ))

-- Of a sound board: the choice is Ready, or idle, and is there.
module _ (b : Board) (o : Sound b) (time : ℕ) (r : Registry) where
  pub choose_state : let i = (choose time b.threads b.queue r).next in (is ready (thread b.threads i) || is running (thread b.threads i)) ≡ true
  choose_state =
      let i = (choose time b.threads b.queue r).next in
      test (eqb i idle)
      (λ a. rw (eqb-true i idle a) o.idle_state)
      (λ a. rw (queued_ready b o i (choose_in time b.threads b.queue r a)))

  pub choose_there : has b.threads (choose time b.threads b.queue r).next ≡ true
  choose_there =
      let i = (choose time b.threads b.queue r).next in
      test (eqb i idle)
      (λ a. rw (eqb-true i idle a) o.idle_here)
      (λ a. choose_has time b.threads b.queue r a)

-- The current thread is put back.

pub put_back_current : (b : Board) → (put_back b).current ≡ b.current
put_back_current b = test (not (eqb b.current idle) && is running (thread b.threads b.current)) (λ e. rw e) (λ e. rw e)

pub put_back_kept : (b : Board) → Sound b → Sound (put_back b)
put_back_kept b o =
    let t = thread b.threads b.current in
    test (not (eqb b.current idle) && is running t)
    (λ a. let s = second (not (eqb b.current idle)) (is running t) a in
    rw a (join_kept b b.current (become Ready) o o.current_here
    (not-true (eqb b.current idle) (first (not (eqb b.current idle)) (is running t) a)) (other_state running ready t s (λ _. refl)) refl refl))
    (λ a. rw a o)

-- after that a current thread that runs is idle
pub put_back_idle : (b : Board) → Sound b → is running (thread (put_back b).threads (put_back b).current) ≡ true → eqb (put_back b).current idle ≡ true
put_back_idle b o = test (not (eqb b.current idle) && is running (thread b.threads b.current))
    (λ a. rw a (λ h. absurd (false≢true (rw (
      thread_alter b.threads b.current (become Ready) o.current_here b.current,
      eq-eqb b.current b.current refl,
    ) at h))))
    (λ a. rw a (λ h. test (eqb b.current idle) (λ c. c) (λ c. absurd (true≢false (rw (c, h) at a)))))

-- The switch.

-- a thread after the switch, if it is not the chosen one: a dead one is gone
abbrev pub cleared : Thread → Thread
cleared t = cond (is dead t) (fresh Inactive None) t

module _ (t : Thread) where
  pub cleared_is : (s : State → Bool) → Disjoint dead s → s Inactive ≡ false → is s (cleared t) ≡ is s t
  cleared_is s x y = test (is dead t) (λ d. rw (d, other_state dead s t d x, y)) (λ d. rw d)

  pub cleared_dead : is dead (cleared t) ≡ false
  cleared_dead = test (is dead t) (λ d. rw d) (λ d. rw (d, d))

-- the table m reads as b's, but that thread i runs and a dead one is gone
pub record Switched (b : Board) (i : ℕ) (m : List (Row Thread)) : Type 0 where
  pub few : length m ≤ 128
  pub rising : Rising 0 (2 ^ 64) m
  pub after : (j : ℕ) → thread m j ≡ cond (eqb i j) (become Running (thread b.threads i)) (cleared (thread b.threads j))
  pub here : (j : ℕ) → has m j ≡ (has b.threads j && (eqb i j || not (is dead (thread b.threads j))))

and_true : (b : Bool) → (b && true) ≡ b
and_true true = refl
and_true false = refl

module _ (b : Board) (o : Sound b) (i : ℕ) (h : has b.threads i ≡ true) where
  run_now : (j : ℕ) → thread (alter i (become Running) b.threads) j
      ≡ cond (eqb i j) (become Running (thread b.threads i)) (thread b.threads j)
  run_now j = thread_alter b.threads i (become Running) h j

  run_here : (j : ℕ) → has (alter i (become Running) b.threads) j ≡ has b.threads j
  run_here j = has_alter b.threads i (become Running) h j

  run_rising : Rising 0 (2 ^ 64) (alter i (become Running) b.threads)
  run_rising = Table.rising_alter b.threads 0 (2 ^ 64) i (become Running) o.rising

  -- the thread that is left is not dead
  pub stays : (not (eqb i b.current) && is dead (thread b.threads b.current)) ≡ false → Switched b i (alter i (become Running) b.threads)
  stays n = record {
    few = rw Table.length_alter o.few;
    rising = run_rising;
    after = λ j. rw (run_now j) (test (eqb i j) (λ a. rw a) (λ a. rw (a, alive j a)));
    here = λ j. rw (run_here j) (test (eqb i j)
        (λ a. rw a (sym (and_true (has b.threads j))))
        (λ a. rw (a, alive j a) (sym (and_true (has b.threads j)))));
  }
    where
      alive : (j : ℕ) → eqb i j ≡ false → is dead (thread b.threads j) ≡ false
      alive j a = test (is dead (thread b.threads j))
          (λ d. let q = o.dead_current j d in absurd (true≢false (rw (rw q at a, rw q at d) at n)))
          (λ d. d)

  -- it is dead, and goes
  pub leaves : (not (eqb i b.current) && is dead (thread b.threads b.current)) ≡ true
      → Switched b i (erase b.current (alter i (become Running) b.threads))
  leaves y =
      let m = alter i (become Running) b.threads in
      let off = not-true (eqb i b.current) (first (not (eqb i b.current)) (is dead (thread b.threads b.current)) y) in
      let d = second (not (eqb i b.current)) (is dead (thread b.threads b.current)) y in
      record {
        few = omega (arith, Table.length_erase m b.current, Table.length_alter b.threads i (become Running), o.few);
        rising = Table.rising_erase m 0 (2 ^ 64) b.current run_rising;
        after = λ j. rw (thread_erase m b.current 0 (2 ^ 64) run_rising j) (test (eqb b.current j)
            (λ a. rw (a, ← eqb-true b.current j a, off, d))
            (λ a. rw (a, run_now j) (test (eqb i j) (λ c. rw c) (λ c. rw (c, alive j a)))));
        here = λ j. rw (has_erase m b.current 0 (2 ^ 64) run_rising j) (test (eqb b.current j)
            (λ a. rw (a, ← eqb-true b.current j a, off, d) (sym (and_false (has b.threads b.current))))
            (λ a. rw (a, run_here j, alive j a, or_true (eqb i j) {c = true} refl) (sym (and_true (has b.threads j)))));
      }
    where
      alive : (j : ℕ) → eqb b.current j ≡ false → is dead (thread b.threads j) ≡ false
      alive j a = test (is dead (thread b.threads j)) (λ d. absurd (eqb-false b.current j a (sym (o.dead_current j d)))) (λ d. d)

pub switched : (b : Board) (c : Choice) → Sound b → has b.threads c.next ≡ true → Switched b c.next (switch_to c b).threads
switched b c o h = test (not (eqb c.next b.current) && is dead (thread b.threads b.current))
    (λ a. rw a (leaves b o c.next h a))
    (λ a. rw a (stays b o c.next h a))

-- What is read after a switch: the chosen thread runs; the waits are the same, and so are the budgets of those that are there.
module _ (b : Board) (i : ℕ) (m : List (Row Thread)) (w : Switched b i m) where
  pub switched_runs : is running (thread m i) ≡ true
  switched_runs = rw (w.after i, eq-eqb i i refl)

  pub switched_has : (j : ℕ) → has m j ≡ true → has b.threads j ≡ true
  switched_has j h = first (has b.threads j) (eqb i j || not (is dead (thread b.threads j))) (sym (w.here j) ∙ h)

  pub switched_budget : (j : ℕ) → has m j ≡ true → (thread m j).budget ≡ (thread b.threads j).budget
  switched_budget j h =
      let y = second (has b.threads j) (eqb i j || not (is dead (thread b.threads j))) (sym (w.here j) ∙ h) in
      rw (w.after j) (test (eqb i j)
      (λ a. rw (a, eqb-true i j a))
      (λ a. rw (a, not-true (is dead (thread b.threads j)) (rw a at y))))

  pub switched_wait : (is ready (thread b.threads i) || is running (thread b.threads i)) ≡ true
      → (j : ℕ) → wait_of (thread m j) ≡ wait_of (thread b.threads j)
  switched_wait up j = rw (w.after j) (test (eqb i j)
      (λ a. rw (a, ← eqb-true i j a, waits_not (thread b.threads i) (up_not (thread b.threads i) blocked up (λ _. refl) (λ _. refl))))
      (λ a. rw a (test (is dead (thread b.threads j))
      (λ d. rw (d, waits_not (thread b.threads j) (other_state dead blocked (thread b.threads j) d (λ _. refl))))
      (λ d. rw d))))

-- what a choice is like: its registry is sound, it is there, and what is left of the queue is all but it
pub record Chosen (b : Board) (c : Choice) : Type 0 where
  pub registry : objects.Sound c.registry
  pub here : has b.threads c.next ≡ true
  pub distinct_rest : distinct c.rest ≡ true
  pub rest : (j : ℕ) → member j c.rest ≡ (not (eqb c.next j) && member j b.queue)

pub chosen : (b : Board) (time : ℕ) → Sound b → Chosen b (choose time b.threads b.queue b.registry)
chosen b time o = record {
  registry = choose_kept time b.threads b.queue b.registry o.registry;
  here = choose_there b o time b.registry;
  distinct_rest = choose_distinct time b.threads b.queue b.registry o.distinct_queue (o.queued idle);
  rest = choose_rest time b.threads b.queue b.registry o.distinct_queue (o.queued idle);
}

pub idle_alive : (b : Board) → Sound b → is dead (thread b.threads idle) ≡ false
idle_alive b o = up_not (thread b.threads idle) dead o.idle_state (λ _. refl) (λ _. refl)

pub switch_to_kept : (b : Board) (c : Choice) → Sound b → Chosen b c → (is running (thread b.threads b.current) ≡ true → eqb b.current idle ≡ true)
    → Sound (switch_to c b)
switch_to_kept b c o k only =
    let i = c.next in
    let m = b.threads in
    let w = switched b c o k.here in
    let on = eq-eqb i i refl in
    record {
      registry = k.registry;
      few = w.few;
      rising = w.rising;
      distinct_queue = k.distinct_rest;
      queued = λ j. rw (k.rest j, w.after j) (test (eqb i j)
          (λ a. rw a (sym (and_false (not (eqb j idle)))))
          (λ a. rw (a, cleared_is (thread m j) ready (λ _. refl) refl) (o.queued j)));
      dead_current = λ j d. test (eqb i j)
          (λ a. sym (eqb-true i j a))
          (λ a. absurd (false≢true (sym (cleared_dead (thread m j)) ∙ rw (w.after j, a) at d)));
      running_current = λ j d e. test (eqb i j)
          (λ a. sym (eqb-true i j a))
          (λ a. let r = sym (cleared_is (thread m j) running (λ _. refl) refl) ∙ rw (w.after j, a) at d in
          let q = o.running_current j r e in
          absurd (false≢true (sym e ∙ rw q (only (rw q at r)))));
      current_here = rw (w.here i, on, k.here);
      current_active = rw (w.after i, on);
      idle_here = rw (w.here idle, o.idle_here, idle_alive b o) (or_true (eqb i idle) refl);
      idle_state = rw (w.after idle) (test (eqb i idle)
          (λ a. rw a)
          (λ a. rw (a, cleared_is (thread m idle) ready (λ _. refl) refl, cleared_is (thread m idle) running (λ _. refl) refl) o.idle_state));
      idle_runs = λ q. rw (w.after idle, eq-eqb i idle q);
      budgets = λ j d. rw (switched_budget b i (switch_to c b).threads w j d) (o.budgets j (switched_has b i (switch_to c b).threads w j d));
      few_exits = o.few_exits;
    }
