-- The test of specs/Sound.antt and the facts of proofs/Laws/SoundFacts.antt say the same. Assumes nothing.
use Rattle.std.specs.Prelude.{◌≡◌, refl, Bool, true, false, not, ◌&&◌, ◌||◌, List, [], ◌∷◌, ℕ, ◌^◌, eqb, length, is_none, Some, None}
use Rattle.std.proofs.Common.{sym, ◌∙◌, ap, subst, eqb-true, eq-eqb, leb-true, le-leb}
use Rattle.std.proofs.lemmas.Bool.{false≢true, not-true}
use Rattle.carv_area.specs.Laws.Table
use Rattle.carv_area.specs.Table.{Row, at}
use Rattle.carv_area.specs.Laws.Table.{test}
use Rattle.carv_budget.proofs.Laws.Account.{first, second}
use Rattle.carv_objects_spec.specs.Sound.{all}
use Rattle.carv_objects_spec.proofs.Laws.SoundLaws as objects
use Rattle.carv_objects_spec.proofs.Laws.SoundLaws.{Truths, all_told, all_shown, either, every_told, every_shown, rises_told, rises_shown}
use Rattle.carv_scheduler_spec.specs.declared.State.TheVariants.{Inactive}
use Rattle.carv_scheduler_spec.specs.declared.Thread.{Thread}
use Rattle.carv_scheduler_spec.specs.Scheduler.{Board, idle, inactive, ready, running, dead, is, fresh, or_fresh, found, thread, has}
use Rattle.carv_scheduler_spec.specs.Sound.{member, each, implies, same, unpaid, thread_tests, board_tests, sound}
use Rattle.carv_scheduler_spec.proofs.Laws.SoundFacts.{Sound}
use Rattle.carv_scheduler_spec.proofs.Laws.Reading.{or_true, there, absent}

pub implied : (a b : Bool) → implies a b ≡ true → a ≡ true → b ≡ true
implied true b h e = h
implied false b h e = absurd (false≢true e)

pub implying : (a b : Bool) → (a ≡ true → b ≡ true) → implies a b ≡ true
implying true b h = h refl
implying false b h = refl

same_told : (a b : Bool) → same a b ≡ true → a ≡ b
same_told true b h = sym h
same_told false b h = sym (not-true b h)

same_shown : (a b : Bool) → a ≡ b → same a b ≡ true
same_shown true b h = sym h
same_shown false b h = rw (← h)

-- each id of a queue passes a test
pub each_told : (p : ℕ → Bool) (q : List ℕ) → each p q ≡ true → (i : ℕ) → member i q ≡ true → p i ≡ true
each_told p [] h i m = absurd (false≢true m)
each_told p (j ∷ q) h i m = test (eqb j i)
    (λ a. rw (← eqb-true j i a) (first (p j) (each p q) h))
    (λ a. each_told p q (second (p j) (each p q) h) i (rw a at m))

pub each_shown : (p : ℕ → Bool) (q : List ℕ) → ((i : ℕ) → member i q ≡ true → p i ≡ true) → each p q ≡ true
each_shown p [] h = refl
each_shown p (j ∷ q) h = rw (h j (rw (eq-eqb j j refl)), each_shown p q (λ i m. h i (or_true (eqb j i) m)))

-- what holds of each thread that is there and of a fresh one holds of what is read
pub by_id : (m : List (Row Thread)) (i : ℕ) (C : Thread → Type 0) → ((t : Thread) → at m i ≡ Some t → C t) → C (fresh Inactive None) → C (thread m i)
by_id m i C here missing = test (has m i)
    (λ a. here (thread m i) (there m i a))
    (λ a. subst C (sym (absent m i a)) missing)

pub sound_told : (b : Board) → sound b ≡ true → Sound b
sound_told b h =
    let m = b.threads in
    let (registry, (few, (rising, (threads, (dist, (queue, (here, (active, (idle_here, (idle_state, (idle_runs, (exits, z))))))))))))
    = all_told (board_tests b) h in
    let fit : (i : ℕ) (t : Thread) → at m i ≡ Some t → Truths (thread_tests b i t) = λ i t q. all_told (thread_tests b i t)
    (Table.at_all (λ i t. all (thread_tests b i t) ≡ true) m (every_told (λ i t. all (thread_tests b i t)) m threads) i t q) in
    record {
      registry = objects.sound_told b.registry registry;
      few = leb-true (length m) 128 few;
      rising = rises_told m 0 (2 ^ 64) rising;
      distinct_queue = dist;
      queued = λ i. test (member i b.queue)
          (λ a. rw a (
          let k = each_told (λ j. not (eqb j idle) && (has m j && is ready (thread m j))) b.queue queue i a in
          let l = second (not (eqb i idle)) (has m i && is ready (thread m i)) k in
          rw (first (not (eqb i idle)) (has m i && is ready (thread m i)) k, second (has m i) (is ready (thread m i)) l)))
          (λ a. rw a (test (not (eqb i idle) && is ready (thread m i))
          (λ c. absurd (false≢true (sym a ∙ either (eqb i idle) (member i b.queue)
          (by_id m i (λ t. is ready t ≡ true → (eqb i idle || member i b.queue) ≡ true)
          (λ t q. implied (is ready t) (eqb i idle || member i b.queue) (fit i t q).0) (λ e. absurd (false≢true e))
          (second (not (eqb i idle)) (is ready (thread m i)) c))
          (not-true (eqb i idle) (first (not (eqb i idle)) (is ready (thread m i)) c)))))
          (λ c. sym c)));
      dead_current = λ i. by_id m i (λ t. is dead t ≡ true → i ≡ b.current)
          (λ t q e. eqb-true i b.current (implied (is dead t) (eqb i b.current) (fit i t q).1.0 e))
          (λ e. absurd (false≢true e));
      running_current = λ i. by_id m i (λ t. is running t ≡ true → eqb i idle ≡ false → i ≡ b.current)
          (λ t q e x. eqb-true i b.current (either (eqb i idle) (eqb i b.current)
          (implied (is running t) (eqb i idle || eqb i b.current) (fit i t q).1.1.0 e) x))
          (λ e. absurd (false≢true e));
      current_here = here;
      current_active = not-true (is inactive (thread m b.current)) active;
      idle_here = idle_here;
      idle_state = idle_state;
      idle_runs = λ q. implied (eqb b.current idle) (is running (thread m idle)) idle_runs (eq-eqb b.current idle q);
      budgets = λ i e. same_told (is_none (thread m i).budget) (unpaid i) (fit i (thread m i) (there m i e)).1.1.1.0;
      few_exits = leb-true (length b.exits) 32 exits;
    }

-- Of a sound board: an id in the queue is not idle's, and its thread is there and Ready.

module _ (b : Board) (o : Sound b) (i : ℕ) (a : member i b.queue ≡ true) where
  pub queued_busy : eqb i idle ≡ false
  queued_busy = not-true (eqb i idle) (first (not (eqb i idle)) (is ready (thread b.threads i)) (sym (o.queued i) ∙ a))

  pub queued_ready : is ready (thread b.threads i) ≡ true
  queued_ready = second (not (eqb i idle)) (is ready (thread b.threads i)) (sym (o.queued i) ∙ a)

  pub queued_there : has b.threads i ≡ true
  queued_there = test (has b.threads i) (λ c. c) (λ c. absurd (false≢true (rw (absent b.threads i c) at queued_ready)))

pub sound_shown : (b : Board) → Sound b → sound b ≡ true
sound_shown b o =
    let m = b.threads in
    let threads = every_shown (λ i t. all (thread_tests b i t)) m
    (Table.all_at (λ i t. all (thread_tests b i t) ≡ true) m 0 (2 ^ 64) o.rising one) in
    let queue = each_shown (λ i. not (eqb i idle) && (has m i && is ready (thread m i))) b.queue queue_one in
    let idle_runs = implying (eqb b.current idle) (is running (thread m idle)) (λ e. o.idle_runs (eqb-true b.current idle e)) in
    let active : not (is inactive (thread m b.current)) ≡ true = rw o.current_active in
    all_shown (board_tests b) (
      objects.sound_shown b.registry o.registry,
      (
        le-leb (length m) 128 o.few,
        (
          rises_shown m 0 (2 ^ 64) o.rising,
          (
            threads,
            (
              o.distinct_queue,
              (
                queue,
                (o.current_here, (active, (o.idle_here, (o.idle_state, (idle_runs, (le-leb (length b.exits) 32 o.few_exits, tt)))))),
              ),
            ),
          ),
        ),
      ),
    )
  where
    queue_one : (i : ℕ) → member i b.queue ≡ true → (not (eqb i idle) && (has b.threads i && is ready (thread b.threads i))) ≡ true
    queue_one i a = rw (queued_busy b o i a, queued_there b o i a, queued_ready b o i a)

    one : (i : ℕ) (t : Thread) → at b.threads i ≡ Some t → all (thread_tests b i t) ≡ true
    one i t q =
        let e : thread b.threads i ≡ t = ap or_fresh q in
        let is_queued = implying (is ready t) (eqb i idle || member i b.queue) (λ r. test (eqb i idle) (λ a. rw a) (λ a. rw (a, o.queued i, e, r, a))) in
        let is_current = implying (is dead t) (eqb i b.current) (λ d. eq-eqb i b.current (o.dead_current i (rw e d))) in
        let runs = implying (is running t) (eqb i idle || eqb i b.current) (λ r. test (eqb i idle) (λ a. rw a)
        (λ a. rw a (eq-eqb i b.current (o.running_current i (rw e r) a)))) in
        let paid = same_shown (is_none t.budget) (unpaid i) (rw e at (o.budgets i (ap found q))) in
        all_shown (thread_tests b i t)
        (is_queued, (is_current, (runs, (paid, tt))))
