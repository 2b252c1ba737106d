-- What is written by place is what document 01 says by id. Assumes nothing.
use Rattle.std.specs.Prelude.{◌≡◌, ℕ, ◌^◌, ◌<◌, Bool, true, false, List, [], ◌∷◌, ◌++◌, length, get_or, ◌==◌, slice_index_or, slice_set, refl, Option, Some, None}
use Rattle.std.specs.Option.{IsSome}
use Rattle.std.proofs.Common.{sym, ap, ◌∙◌, true≢false, ne_eqb}
use Rattle.carv_area.specs.Table.{Row, at, alter, put}
use Rattle.carv_area.specs.Lookup.{Here, Located}
use Rattle.carv_area.specs.Laws.Table.{alter_known}
use Rattle.carv_scheduler_spec.specs.declared.Wait.{Wait}
use Rattle.carv_scheduler_spec.specs.declared.State.{State}
use Rattle.carv_scheduler_spec.specs.declared.State.TheVariants.{Blocked}
use Rattle.carv_scheduler_spec.specs.declared.Context.{Context}
use Rattle.carv_scheduler_spec.specs.declared.Thread.{Thread}
use Rattle.carv_scheduler_spec.specs.Scheduler.{Board, idle, inactive, ready, running, is, wait_in, wait_of, waits_on, in_spaces, found, thread, has, become, started, join}
use Rattle.carv_scheduler_spec.specs.Scheduler as scheduler
use Rattle.carv_scheduler_spec.proofs.Laws.SoundFacts.{Sound}
use Rattle.carv_scheduler_spec.proofs.Laws.Steps.{other_state}
use Rattle.carv_scheduler.specs.Laws.Rows.{row, no_row}
use Rattle.carv_scheduler.specs.Laws.RowWords.{with_state, state_of}
use Rattle.carv_scheduler.specs.Laws.Places.{here_thread, gone_has}
use Rattle.carv_scheduler.specs.Laws.AreaSteps.{with_threads, with_queue, New}
use Rattle.carv_scheduler.specs.Laws.Room.{queue_room}

-- the thread x stands at place i
module _ (m : List (Row Thread)) (x i : ℕ) (h : Here no_row m x i) where
  -- what a test asks of its state, y
  pub here_state : (s : State → Bool) (y : State) → y ≡ (get_or m i no_row).it.state → is s (thread m x) ≡ s y
  here_state s y e = ap (is s) (here_thread m x i h) ∙ ap s (sym e)

  module _ (t : Thread) (e : t ≡ (get_or m i no_row).it) where
    pub alter_is : (f : Thread → Thread) (u : Thread) → u ≡ f t → alter x (λ _. u) m ≡ alter x f m
    alter_is f u q = alter_known m x (λ _. u) f (get_or m i no_row).it h.is (q ∙ ap f e)

-- `store_and_join`
pub stored_joined : (b b₁ : Board) (x i : ℕ) (t : Thread) → Here no_row b.threads x i → b₁ ≡ with_threads (slice_set b.threads i (row x t)) b
    → with_queue (b₁.queue ++ (x ∷ [])) b₁ ≡ scheduler.with_threads (alter x (λ _. t) b.threads) (join b.queue x) b
stored_joined b b₁ x i t h e =
    ap (λ (s : Board). with_queue (s.queue ++ (x ∷ [])) s) e
    ∙ ap (λ (m : List (Row Thread)). scheduler.with_threads m (join b.queue x) b) (sym (h.changed (λ _. t)))

pub queue_kept : (b b₁ : Board) (m : List (Row Thread)) → b₁ ≡ with_threads m b → length b.queue < 127 → length b₁.queue < 127
queue_kept b b₁ m e h = rw e h

-- `start`: an Inactive thread is not in the queue, which has a place for it
module _ (b : Board) (o : Sound b) (x : ℕ) (h : has b.threads x ≡ true) where
  idle_active : is inactive (thread b.threads x) ≡ true → (x == idle) ≡ false
  idle_active s = ne_eqb x idle (λ q.
      let z = o.idle_state in
      let y : is inactive (thread b.threads idle) ≡ true = rw q at s in
      true≢false (sym (rw (other_state inactive ready (thread b.threads idle) y (λ _. refl), other_state inactive running (thread b.threads idle) y (λ _. refl)) at z)))

  pub start_room : is inactive (thread b.threads x) ≡ true → length b.queue < 127
  start_room s = queue_room b o x h (other_state inactive ready (thread b.threads x) s (λ _. refl)) (idle_active s)

pub started_is : (b : Board) (x i space cspace root : ℕ) (c : Context) (t : Thread) → Here no_row b.threads x i → t ≡ (get_or b.threads i no_row).it → (u : Thread) → u ≡ started (in_spaces space cspace root) c t
    → scheduler.with_threads (alter x (λ _. u) b.threads) (join b.queue x) b ≡ scheduler.with_threads (alter x (started (in_spaces space cspace root) c) b.threads) (join b.queue x) b
started_is b x i space cspace root c t h e u q =
    ap (λ (m : List (Row Thread)). scheduler.with_threads m (join b.queue x) b) (alter_is b.threads x i h t e (started (in_spaces space cspace root) c) u q)

-- `current_place`: the current thread is there
module _ (b : Board) (o : Sound b) (c : ℕ) (e : c ≡ b.current) (p : Option ℕ) (l : Located no_row b.threads c p) where
  pub current_stands : IsSome p
  current_stands = there p l
    where
      there : (q : Option ℕ) → Located no_row b.threads c q → IsSome q
      there (Some i) k = refl
      there None k = absurd (true≢false (sym o.current_here ∙ ap (has b.threads) (sym e) ∙ gone_has b.threads c k))

-- `is_blocked_on`: the state that was read, y, and the wait, w
pub blocked_at : (m : List (Row Thread)) (x i : ℕ) → Here no_row m x i → (w v : Wait) → w ≡ v → (y : State) → y ≡ (get_or m i no_row).it.state
    → (r : Bool) → r ≡ waits_on w (wait_in y) → r ≡ waits_on v (wait_of (thread m x))
blocked_at m x i h w v q y ey r e =
    e ∙ ap (λ (z : Wait). waits_on z (wait_in y)) q ∙ ap (λ (s : State). waits_on v (wait_in s)) ey ∙ ap (λ (t : Thread). waits_on v (wait_of t)) (sym (here_thread m x i h))

-- `create_user_thread`: the new id
pub new_id : (b : Board) (x n : ℕ) → has b.threads x ≡ false → n ≡ length b.threads → n < 128 → x < 2 ^ 64 → New b.threads x
new_id b x n h e f low = record { fresh = absent_at b.threads x h; few = rw (← e) f; fits = low }
  where
    absent_at : (m : List (Row Thread)) (y : ℕ) → has m y ≡ false → at m y ≡ None
    absent_at m y q = go (at m y) refl
      where
        go : (o : Option Thread) → at m y ≡ o → at m y ≡ None
        go None z = z
        go (Some t) z = absurd (true≢false (sym (ap found z) ∙ q))

pub created_is : (b : Board) (x : ℕ) (t u : Thread) → t ≡ u → with_threads (put x t b.threads) b ≡ scheduler.with_threads (put x u b.threads) b.queue b
created_is b x t u e = ap (λ (v : Thread). with_threads (put x v b.threads) b) e

-- `block_current`: the current thread stands at place i
pub blocked_current : (b : Board) (i kind number : ℕ) → Here no_row b.threads b.current i → (w : Wait) → w ≡ scheduler.wait kind number
    → with_threads (slice_set b.threads i (with_state (Blocked w) (slice_index_or b.threads i no_row))) b
    ≡ scheduler.with_threads (alter b.current (become (Blocked (scheduler.wait kind number))) b.threads) b.queue b
blocked_current b i kind number h w e =
    ap (λ (z : Wait). with_threads (slice_set b.threads i (with_state (Blocked z) (slice_index_or b.threads i no_row))) b) e
    ∙ ap (λ (m : List (Row Thread)). scheduler.with_threads m b.queue b) (state_of b.threads b.current i h (Blocked (scheduler.wait kind number)))
