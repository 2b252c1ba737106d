-- The end of a thread: what leaving the queue, the table and the board's running threads leave, and what `kill` replies question by question. Assumes nothing.
use Rattle.std.specs.Prelude.{◌≡◌, ℕ, zero, ◌<◌, ◌≤◌, Bool, true, false, cond, List, [], ◌∷◌, length, get_or, ◌==◌, ◌≢◌, slice_index, slice_index_or, slice_set, refl, Option, Some, None, Result, Ok, Err}
use Rattle.std.proofs.Common.{sym, ap, ◌∙◌, subst, arith, eqb-true, eq-eqb, ne_eqb}
use Rattle.carv_area.specs.Table.{Row, alter, erase}
use Rattle.std.specs.Option.{MatchOption}
use Rattle.carv_area.specs.Rows.{remove_at}
use Rattle.carv_area.specs.Keys.{find_in, after}
use Rattle.carv_area.specs.Laws.Keys.{find_none, find_at}
use Rattle.carv_area.specs.Lookup.{Here}
use Rattle.carv_scheduler_spec.specs.declared.Wait.{Wait}
use Rattle.carv_scheduler_spec.specs.declared.State.{State}
use Rattle.carv_scheduler_spec.specs.declared.State.TheVariants.{Dead}
use Rattle.carv_scheduler_spec.specs.declared.Cause.{Cause}
use Rattle.carv_scheduler_spec.specs.declared.Thread.{Thread}
use Rattle.carv_objects.specs.declared.refusal.Refusal.{Refusal}
use Rattle.carv_objects.specs.declared.refusal.Refusal.TheVariants.{Code, Id, Missing}
use Rattle.carv_scheduler.specs.Answer.{ended_of}
use Rattle.carv_scheduler_spec.specs.Scheduler.{Board, idle, cause_listed, cause_of, wait_in, thread, has, become, without, logged, kill}
use Rattle.carv_scheduler_spec.specs.Sound.{distinct}
use Rattle.carv_scheduler_spec.proofs.Laws.Reading.{distinct_first, distinct_rest, without_absent}
use Rattle.carv_scheduler.specs.Area.{decode, sound_area, Serves}
use Rattle.carv_scheduler.specs.Laws.AreaLaws.{area_sound}
use Rattle.carv_scheduler.specs.Laws.Rows.{no_row}
use Rattle.carv_scheduler.specs.Laws.RowWords.{with_state, state_of}
use Rattle.carv_scheduler.specs.Laws.Places.{here_has, here_thread}
use Rattle.carv_scheduler.specs.Laws.Formed.{WellFormed, Leaves, leaves_as, unchanged}
use Rattle.carv_scheduler.specs.Laws.AreaSteps.{with_threads, with_queue}
use Rattle.carv_scheduler.specs.Laws.ExitSteps.{exit, with_exits}
use Rattle.carv_scheduler.specs.Laws.Calls.{refused, refused_by, answered}
use Rattle.carv_scheduler_spec.proofs.Laws.Kept.{kill_kept}
use Rattle.carv_scheduler_spec.specs.Killed.{killed}
use Rattle.carv_scheduler_spec.proofs.Laws.Questions.{kill_unlisted, kill_idle, kill_missing, kill_done}

-- Leaving the queue.

-- the place that was found, in a queue of distinct ids
abbrev pub QueuedAt : List ℕ → ℕ → Option ℕ → Type 0
QueuedAt q x (Some i) = (i < length q) × (distinct q ≡ true → without x q ≡ remove_at q i)
QueuedAt q x None = without x q ≡ q

queued_step : (k : ℕ) (q : List ℕ) (x : ℕ) (b : Bool) → (k == x) ≡ b → (p : Option ℕ) → QueuedAt q x p → QueuedAt (k ∷ q) x (cond b (Some zero) (after p))
unfolding remove_at
queued_step k q x true e p l = (omega arith, λ d. rw e (without_absent x q (rw (← eqb-true k x e) (distinct_first k q d))))
queued_step k q x false e (Some i) l = (let w = l.0 in omega arith, λ d. rw e (ap (λ (r : List ℕ). k ∷ r) (l.1 (distinct_rest k q d))))
queued_step k q x false e None l = rw e (ap (λ (r : List ℕ). k ∷ r) l)

queued_at : (q : List ℕ) (x : ℕ) → QueuedAt q x (find_in q x)
unfolding find_in
queued_at [] x = refl
queued_at (k ∷ q) x = queued_step k q x (k == x) refl (find_in q x) (queued_at q x)

-- the first place below n that has the id, as a search of these places finds it
pub found_first : (q : List ℕ) (x n : ℕ) → n ≡ length q → (r : Option ℕ)
    → MatchOption r ((j : ℕ) → 0 ≤ j → j < n → slice_index q j ≡ x → ⊥) (λ i. (0 ≤ i) × (i < n) × (slice_index q i ≡ x) × ((j : ℕ) → 0 ≤ j → j < i → slice_index q j ≡ x → ⊥))
    → r ≡ find_in q x
found_first q x n e None h = sym (find_none q x (λ j b. h j (omega arith) (omega (arith, e))))
found_first q x n e (Some i) h = sym (find_at q x i (omega (arith, e, h.1)) h.2 (λ j b. h.3 j (omega arith) b))

module _ (q : List ℕ) (x : ℕ) (p : Option ℕ) (e : p ≡ find_in q x) where
  pub queue_here : (i : ℕ) → p ≡ Some i → (i < length q) × (distinct q ≡ true → without x q ≡ remove_at q i)
  queue_here i h = subst (QueuedAt q x) (sym e ∙ h) (queued_at q x)

  pub queue_gone : p ≡ None → without x q ≡ q
  queue_gone h = subst (QueuedAt q x) (sym e ∙ h) (queued_at q x)

module _ (a : List ℕ) (x : ℕ) where
  pub queue_stays : WellFormed a → without x (decode a).queue ≡ (decode a).queue → Leaves a (with_queue (without x (decode a).queue) (decode a))
  queue_stays k e = leaves_as a _ _ (ap (λ (q : List ℕ). with_queue q (decode a)) (sym e)) (unchanged a k)

  pub queue_left : (i : ℕ) → without x (decode a).queue ≡ remove_at (decode a).queue i → (a' : List ℕ) → Leaves a' (with_queue (remove_at (decode a).queue i) (decode a))
      → Leaves a' (with_queue (without x (decode a).queue) (decode a))
  queue_left i e a' l = leaves_as a' _ _ (ap (λ (q : List ℕ). with_queue q (decode a)) (sym e)) l

-- The thread's end, by its place.
module _ (a : List ℕ) (x i : ℕ) (h : Here no_row (decode a).threads x i) (c : ℕ) (e : c ≡ (decode a).current) where
  pub killed_current : x ≡ c → (a' : List ℕ)
      → Leaves a' (with_threads (slice_set (decode a).threads i (with_state Dead (slice_index_or (decode a).threads i no_row))) (decode a)) → Leaves a' (with_threads (killed x (decode a)) (decode a))
  killed_current q a' l = leaves_as a' _ _
      (ap (λ (m : List (Row Thread)). with_threads m (decode a))
      (state_of (decode a).threads x i h Dead ∙ sym (picked (x == (decode a).current) (eq-eqb x (decode a).current (q ∙ e))))) l
    where
      picked : (b : Bool) → b ≡ true → cond b (alter x (become Dead) (decode a).threads) (erase x (decode a).threads) ≡ alter x (become Dead) (decode a).threads
      picked b z = rw z

  pub killed_other : (x ≢ c) → (a' : List ℕ) → Leaves a' (with_threads (remove_at (decode a).threads i) (decode a)) → Leaves a' (with_threads (killed x (decode a)) (decode a))
  killed_other q a' l = leaves_as a' _ _
      (ap (λ (m : List (Row Thread)). with_threads m (decode a)) (sym h.erased ∙ sym (passed (x == (decode a).current) (ne_eqb x (decode a).current (λ z. q (z ∙ sym e)))))) l
    where
      passed : (b : Bool) → b ≡ false → cond b (alter x (become Dead) (decode a).threads) (erase x (decode a).threads) ≡ erase x (decode a).threads
      passed b z = rw z

-- `kill`, question by question, on a sound area.
module _ (a : List ℕ) (s : sound_area a ≡ true) (x cause : ℕ) where
  pub unlisted_served : cause_listed cause ≡ false → (r : Result (Option Wait) Refusal) → r ≡ Err Code → Serves (kill x cause) ended_of a r a
  unlisted_served c = refused_by (kill x cause) a s Code (kill_unlisted x cause (decode a) c)

  module _ (c : cause_listed cause ≡ true) where
    pub idle_served : x ≡ idle → Serves (kill x cause) ended_of a (Err Id) a
    idle_served n = refused (kill x cause) a s Id (kill_idle x cause (decode a) c n)

    module _ (n : x ≡ idle → ⊥) where
      pub missing_served : has (decode a).threads x ≡ false → (r : Result (Option Wait) Refusal) → r ≡ Err Missing → Serves (kill x cause) ended_of a r a
      missing_served h = refused_by (kill x cause) a s Missing (kill_missing x cause (decode a) c n h)

      module _ (a₁ : List ℕ) (l₁ : Leaves a₁ (with_threads (killed x (decode a)) (decode a))) where
        pub kill_distinct : distinct (decode a₁).queue ≡ true
        kill_distinct = subst (λ (b : Board). distinct b.queue ≡ true) (sym l₁.is) (area_sound a s).distinct_queue

        pub kill_served : (i : ℕ) → Here no_row (decode a).threads x i → (y : State) → y ≡ (get_or (decode a).threads i no_row).it.state
            → (a₂ : List ℕ) → Leaves a₂ (with_queue (without x (decode a₁).queue) (decode a₁)) → (e : Cause) → e ≡ cause_of cause
            → (a₃ : List ℕ) → Leaves a₃ (with_exits (logged (exit x e) (decode a₂).exits) (decode a₂))
            → (w : Option Wait) → w ≡ wait_in y → Serves (kill x cause) ended_of a (Ok w) a₃
        kill_served i h y same a₂ l₂ e named a₃ l₃ w ew =
            let o : wait_in y ≡ wait_in (thread (decode a).threads x).state = ap wait_in (same ∙ sym (ap (λ (t : Thread). t.state) (here_thread (decode a).threads x i h))) in
            let e₂ = l₂.is ∙ ap (λ (b : Board). with_queue (without x b.queue) b) l₁.is in
            answered (kill x cause) a s _ (kill_done x cause (decode a) c n (here_has (decode a).threads x i h)) (Ok w)
            refl (ap ended_of (ew ∙ o))
            a₃ (leaves_as a₃ _ _ (ap (λ (z : Cause). with_exits (logged (exit x z) (decode a₂).exits) (decode a₂)) named ∙ ap (λ (b : Board). with_exits (logged (exit x (cause_of cause)) b.exits) b) e₂) l₃)
            (kill_kept x cause (decode a) (area_sound a s))
