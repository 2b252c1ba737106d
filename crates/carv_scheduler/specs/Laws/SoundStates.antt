-- Question 1 of the current thread and of idle, by the arms of the code. Assumes nothing.
use Rattle.std.specs.Prelude.{◌≡◌, ℕ, ◌+◌, ◌*◌, false, not, List, ◌==◌, ◌≢◌, slice_index, None}
use Rattle.std.proofs.Common.{sym, ap, ◌∙◌, eq-eqb, ne_eqb}
use Rattle.std.proofs.lemmas.Bool.{false≢true}
use Rattle.std.proofs.Math.Bool.{or-true}
use Rattle.carv_area.specs.Table.{at}
use Rattle.carv_area.specs.Laws.Table.{test}
use Rattle.carv_objects_spec.proofs.Laws.SoundLaws.{either}
use Rattle.carv_objects.specs.Laws.SoundWalk.{Tells}
use Rattle.carv_scheduler_spec.specs.Scheduler.{idle, inactive, ready, running, is, thread}
use Rattle.carv_scheduler_spec.specs.declared.Thread.{Thread}
use Rattle.carv_scheduler.specs.Laws.Listed.{inactive_at, ready_at, running_at}
use Rattle.carv_scheduler_spec.proofs.Laws.SoundLaws.{implied, implying}
use Rattle.carv_scheduler.specs.Area.{threads_in}
use Rattle.carv_scheduler.specs.Laws.SoundWalk.{Current, Idle}
use Rattle.carv_scheduler.specs.Laws.SoundRows.{Stands, stands_has, stands_thread, missing_has}

module _ (w : List ℕ) (c : ℕ) where
  pub no_current : at (threads_in w) c ≡ None → Tells false (Current w c)
  no_current q = record { so = λ e. absurd (false≢true e); not = λ e k. missing_has w c q k.here }

  module _ (i s : ℕ) (t : Stands w c i) (e : s ≡ slice_index w (i * 21 + 2)) where
    active : not (is inactive (thread (threads_in w) c)) ≡ not (s == 1)
    active = ap (λ (x : Thread). not (is inactive x)) (stands_thread t) ∙ ap not (inactive_at w i) ∙ ap (λ (x : ℕ). not (x == 1)) (sym e)

    pub current_tells : Tells (not (s == 1)) (Current w c)
    current_tells = record {
      so = λ f. record { here = stands_has t; active = active ∙ f };
      not = λ f k. false≢true (sym f ∙ sym active ∙ k.active);
    }

  pub no_idle : at (threads_in w) idle ≡ None → Tells false (Idle w c)
  no_idle q = record { so = λ e. absurd (false≢true e); not = λ e k. missing_has w idle q k.here }

  module _ (i s : ℕ) (t : Stands w idle i) (e : s ≡ slice_index w (i * 21 + 2)) where
    is_ready : is ready (thread (threads_in w) idle) ≡ (s == 2)
    is_ready = ap (is ready) (stands_thread t) ∙ ready_at w i ∙ ap (λ (x : ℕ). x == 2) (sym e)

    is_running : is running (thread (threads_in w) idle) ≡ (s == 3)
    is_running = ap (is running) (stands_thread t) ∙ running_at w i ∙ ap (λ (x : ℕ). x == 3) (sym e)

    pub idle_runs : s ≡ 3 → Idle w c
    idle_runs h = record {
      here = stands_has t;
      state = rw (is_running, eq-eqb s 3 h) (or-true (is ready (thread (threads_in w) idle)));
      runs = implying (c == idle) (is running (thread (threads_in w) idle)) (λ _. is_running ∙ eq-eqb s 3 h);
    }

    pub idle_else : (s ≢ 3) → (s ≢ 2) → Idle w c → ⊥
    idle_else h g k = false≢true (sym (is_running ∙ ne_eqb s 3 h)
        ∙ either (is ready (thread (threads_in w) idle)) (is running (thread (threads_in w) idle)) k.state (is_ready ∙ ne_eqb s 2 g))

    pub idle_waits : (s ≢ 3) → s ≡ 2 → Tells (not (c == idle)) (Idle w c)
    idle_waits h g = test (c == idle)
        (λ a. rw a (record {
          so = λ f. absurd (false≢true f);
          not = λ f k. false≢true (sym (is_running ∙ ne_eqb s 3 h) ∙ implied (c == idle) (is running (thread (threads_in w) idle)) k.runs a);
        }))
        (λ a. rw a (record {
          so = λ f. record {
            here = stands_has t;
            state = rw (is_ready, eq-eqb s 2 g);
            runs = implying (c == idle) (is running (thread (threads_in w) idle)) (λ b. absurd (false≢true (sym a ∙ b)));
          };
          not = λ f. absurd (false≢true (sym f));
        }))
