-- `wake` in the area, and the waking of the sleepers that are due, by places. Assumes nothing.
use Rattle.std.specs.Prelude.{◌≡◌, ℕ, suc, ◌+◌, ◌^◌, ◌<◌, ◌≤◌, Bool, true, false, cond, List, [], ◌∷◌, ◌++◌, length, drop, set, slice_index_or, slice_set, refl, None, Result, Err}
use Rattle.std.proofs.Common.{add-one, arith, ◌∙◌, subst, drop_of_length-le, drop-cons}
use Rattle.std.proofs.Math.Path.{sym, ap}
use Rattle.std.proofs.Math.ListN.{length-set}
use Rattle.std.proofs.Math.Seq.{drop-set-lt}
use Rattle.carv_area.specs.Table.{Row, alter, pick, Rising}
use Rattle.carv_area.specs.Laws.Table.{test}
use Rattle.carv_area.specs.Lookup.{Here, Gone}
use Rattle.std.proofs.lemmas.Bool.{false≢true}
use Rattle.carv_objects_spec.specs.Reply.{refuse, accept}
use Rattle.carv_scheduler_spec.specs.declared.State.{State}
use Rattle.carv_scheduler_spec.specs.declared.State.TheVariants.{Inactive, Ready, Running, Blocked, Dead}
use Rattle.carv_scheduler_spec.specs.declared.Results.{Results}
use Rattle.carv_scheduler_spec.specs.declared.Thread.{Thread}
use Rattle.carv_objects.specs.declared.refusal.Refusal.{Refusal}
use Rattle.carv_objects.specs.declared.refusal.Refusal.TheVariants.{Missing}
use Rattle.carv_scheduler.specs.Answer.{nothing}
use Rattle.carv_scheduler_spec.specs.Scheduler.{Board, BoardReply, ready, blocked, is, wait_in, due, is_due, results, thread, has, woken, with_threads, join, wake, wake_all}
use Rattle.carv_scheduler_spec.proofs.Laws.Steps.{other_state, apart}
use Rattle.carv_scheduler_spec.proofs.Laws.Kept.{wake_kept}
use Rattle.carv_scheduler.specs.Area.{decode, sound_area, Is, Serves}
use Rattle.carv_scheduler.specs.Laws.Rows.{row, no_row}
use Rattle.carv_scheduler.specs.Laws.Places.{here_at, here_has, here_thread, gone_has}
use Rattle.carv_scheduler.specs.Laws.Formed.{Leaves, leaves_as}
use Rattle.carv_scheduler.specs.Laws.AreaSteps as area
use Rattle.carv_scheduler.specs.Laws.AreaLaws.{area_sound, is_area}
use Rattle.carv_scheduler.specs.Laws.Calls.{refused_by}
use Rattle.carv_scheduler.specs.Laws.Room.{queue_room}

-- `wake`, question by question
module _ (i : ℕ) (r : Results) (b : Board) where
  pub wake_missing : has b.threads i ≡ false → wake i r b ≡ refuse 7 b
  wake_missing h = rw h

  module _ (h : has b.threads i ≡ true) where
    pub wake_done : is blocked (thread b.threads i) ≡ true → wake i r b ≡ accept None (with_threads (alter i (woken r) b.threads) (join b.queue i) b)
    wake_done s = rw (h, s)

-- the thread x stands at place i, and is Blocked: what the two writes leave
module _ (b : Board) (x i : ℕ) (h : Here no_row b.threads x i) where
  pub woken_is : (r : Results) → is blocked (slice_index_or b.threads i no_row).it ≡ true
      → area.with_queue (b.queue ++ (x ∷ [])) (area.with_threads (slice_set b.threads i (row (slice_index_or b.threads i no_row).id (woken r (slice_index_or b.threads i no_row).it))) b)
      ≡ (wake x r b).after
  woken_is r w =
      let s : is blocked (thread b.threads x) ≡ true = rw (here_thread b.threads x i h) w in
      ap (λ (m : List (Row Thread)). with_threads m (b.queue ++ (x ∷ [])) b)
      (ap (λ (y : ℕ). set b.threads i (row y (woken r (slice_index_or b.threads i no_row).it))) h.same ∙ sym (h.changed (woken r)))
      ∙ sym (ap (λ (z : BoardReply). z.after) (wake_done x r b (here_has b.threads x i h) s))

-- `wake_thread`
module _ (a : List ℕ) (s : sound_area a ≡ true) (x i : ℕ) (h : Here no_row (decode a).threads x i) (r : Results) (w : is blocked (slice_index_or (decode a).threads i no_row).it ≡ true)
    (a₁ : List ℕ) (l : Leaves a₁ (area.with_threads (slice_set (decode a).threads i (row (slice_index_or (decode a).threads i no_row).id (woken r (slice_index_or (decode a).threads i no_row).it))) (decode a))) where
  pub wake_room : length (decode a₁).queue < 127
  wake_room =
      let o = area_sound a s in
      let b : is blocked (thread (decode a).threads x) ≡ true = ap (is blocked) (here_thread (decode a).threads x i h) ∙ w in
      subst (λ (q : List ℕ). length q < 127) (sym (ap (λ (c : Board). c.queue) l.is))
      (queue_room (decode a) o x (here_has (decode a).threads x i h) (other_state blocked ready (thread (decode a).threads x) b (λ _. refl)) (apart (decode a) o x blocked b (λ _. refl) (λ _. refl)))

  pub wakes : (a₂ : List ℕ) → Leaves a₂ (area.with_queue ((decode a₁).queue ++ (x ∷ [])) (decode a₁)) → Is a₂ (wake x r (decode a)).after
  wakes a₂ m =
      is_area a₂ (wake x r (decode a)).after
      (leaves_as a₂ _ _ (ap (λ (c : Board). area.with_queue (c.queue ++ (x ∷ [])) c) l.is ∙ woken_is (decode a) x i h r w) m)
      (wake_kept x r (decode a) (area_sound a s))

-- `wake`
module _ (a : List ℕ) (s : sound_area a ≡ true) (x : ℕ) (r : Results) where
  pub wake_gone : Gone (decode a).threads x → (q : Result (Unit {0}) Refusal) → q ≡ Err Missing → Serves (wake x r) nothing a q a
  wake_gone g = refused_by (wake x r) a s Missing (wake_missing x r (decode a) (gone_has (decode a).threads x g))

-- the thread at place i wakes if it is due at tick n
unfoldable pub wake_place : (n i : ℕ) → Board → Board
wake_place n i b = cond (is_due n (slice_index_or b.threads i no_row).it) (wake (slice_index_or b.threads i no_row).id (results 0 0 0) b).after b

-- what is left to do from place i on
abbrev pub wake_from : (n i : ℕ) → Board → Board
wake_from n i b = wake_all (pick (is_due n) (drop i b.threads)) b

-- a due thread is Blocked
pub due_blocked : (n : ℕ) (t : Thread) → is_due n t ≡ true → is blocked t ≡ true
due_blocked n t d = go t.state d
  where
    go : (x : State) → due n (wait_in x) ≡ true → blocked x ≡ true
    go Inactive e = absurd (false≢true e)
    go Ready e = absurd (false≢true e)
    go Running e = absurd (false≢true e)
    go (Blocked w) e = refl
    go Dead e = absurd (false≢true e)

-- one turn
module _ (n i : ℕ) (b : Board) (u : Rising 0 (2 ^ 64) b.threads) (h : i < length b.threads) where
  threads_after : is_due n (slice_index_or b.threads i no_row).it ≡ true
      → (wake (slice_index_or b.threads i no_row).id (results 0 0 0) b).after.threads ≡ slice_set b.threads i (row (slice_index_or b.threads i no_row).id (woken (results 0 0 0) (slice_index_or b.threads i no_row).it))
  threads_after d =
      sym (ap (λ (c : Board). c.threads) (woken_is b (slice_index_or b.threads i no_row).id i (here_at no_row b.threads 0 (2 ^ 64) i u h) (results 0 0 0) (due_blocked n (slice_index_or b.threads i no_row).it d)))

  pub turn : wake_from n (suc i) (wake_place n i b) ≡ wake_from n i b
  unfolding wake_place
  turn = test (is_due n (slice_index_or b.threads i no_row).it)
      (λ e.
      let p : pick (is_due n) (drop i b.threads) ≡ (slice_index_or b.threads i no_row).id ∷ pick (is_due n) (drop (suc i) b.threads) = rw (drop-cons b.threads i no_row h, e) in
      let q : drop (suc i) (wake (slice_index_or b.threads i no_row).id (results 0 0 0) b).after.threads ≡ drop (suc i) b.threads =
      ap (drop (suc i)) (threads_after e) ∙ drop-set-lt (suc i) b.threads i _ (omega arith) in
      ap (λ (c : Bool). wake_from n (suc i) (cond c (wake (slice_index_or b.threads i no_row).id (results 0 0 0) b).after b)) e
      ∙ ap (λ (m : List (Row Thread)). wake_all (pick (is_due n) m) (wake (slice_index_or b.threads i no_row).id (results 0 0 0) b).after) q
      ∙ sym (ap (λ (is : List ℕ). wake_all is b) p))
      (λ e.
      let p : pick (is_due n) (drop i b.threads) ≡ pick (is_due n) (drop (suc i) b.threads) = rw (drop-cons b.threads i no_row h, e) in
      ap (λ (c : Bool). wake_from n (suc i) (cond c (wake (slice_index_or b.threads i no_row).id (results 0 0 0) b).after b)) e
      ∙ sym (ap (λ (is : List ℕ). wake_all is b) p))

  pub turn_length : length (wake_place n i b).threads ≡ length b.threads
  unfolding wake_place
  turn_length = test (is_due n (slice_index_or b.threads i no_row).it)
      (λ e. ap (λ (c : Bool). length (cond c (wake (slice_index_or b.threads i no_row).id (results 0 0 0) b).after b).threads) e
      ∙ ap length (threads_after e) ∙ length-set b.threads i _)
      (λ e. ap (λ (c : Bool). length (cond c (wake (slice_index_or b.threads i no_row).id (results 0 0 0) b).after b).threads) e)

-- `wake_at`
module _ (a : List ℕ) (s : sound_area a ≡ true) (n i : ℕ) where
  pub not_due : is_due n (slice_index_or (decode a).threads i no_row).it ≡ false → Is a (wake_place n i (decode a))
  unfolding wake_place
  not_due e = record { sound = s; same = sym (ap (λ (c : Bool). cond c (wake (slice_index_or (decode a).threads i no_row).id (results 0 0 0) (decode a)).after (decode a)) e) }

  module _ (h : i < length (decode a).threads) (e : is_due n (slice_index_or (decode a).threads i no_row).it ≡ true) (x : ℕ) (q : x ≡ (slice_index_or (decode a).threads i no_row).id) where
    pub due_here : Here no_row (decode a).threads x i × (is blocked (slice_index_or (decode a).threads i no_row).it ≡ true)
    due_here = (
      subst (λ (y : ℕ). Here no_row (decode a).threads y i) (sym q) (here_at no_row (decode a).threads 0 (2 ^ 64) i (area_sound a s).rising h),
      due_blocked n (slice_index_or (decode a).threads i no_row).it e,
    )

    pub due_wakes : (a₁ : List ℕ) → Is a₁ (wake x (results 0 0 0) (decode a)).after → Is a₁ (wake_place n i (decode a))
    unfolding wake_place
    due_wakes a₁ l = record {
      sound = l.sound;
      same = l.same ∙ ap (λ (y : ℕ). (wake y (results 0 0 0) (decode a)).after) q
          ∙ sym (ap (λ (c : Bool). cond c (wake (slice_index_or (decode a).threads i no_row).id (results 0 0 0) (decode a)).after (decode a)) e);
    }

-- the loop: a₀ is the area as it was, a as it is at place i; what is left to do gives the whole
pub record Waking (n m i : ℕ) (a₀ a : List ℕ) : Type 0 where
  pub count : m ≡ length (decode a).threads
  pub sound : sound_area a ≡ true
  pub rest : wake_from n i (decode a) ≡ wake_all (pick (is_due n) (decode a₀).threads) (decode a₀)

pub waking_starts : (n m : ℕ) (a : List ℕ) → sound_area a ≡ true → m ≡ length (decode a).threads → Waking n m 0 a a
waking_starts n m a s e = record { count = e; sound = s; rest = refl }

module _ (n m i : ℕ) (a₀ a : List ℕ) (w : Waking n m i a₀ a) where
  pub waking_place : i < m → i < length (decode a).threads
  waking_place h = subst (λ (k : ℕ). i < k) w.count h

  pub waking_on : i < m → (a₁ : List ℕ) → Is a₁ (wake_place n i (decode a)) → Waking n m (i + 1) a₀ a₁
  waking_on h a₁ l =
      let u = (area_sound a w.sound).rising in
      let k = waking_place h in
      record {
        count = w.count ∙ sym (ap (λ (b : Board). length b.threads) l.same ∙ turn_length n i (decode a) u k);
        sound = l.sound;
        rest = ap (λ (j : ℕ). wake_from n j (decode a₁)) (add-one i) ∙ ap (wake_from n (suc i)) l.same ∙ turn n i (decode a) u k ∙ w.rest;
      }

  pub waking_ends : m ≤ i → Is a (wake_all (pick (is_due n) (decode a₀).threads) (decode a₀))
  waking_ends h = record {
    sound = w.sound;
    same = sym (ap (λ (k : List (Row Thread)). wake_all (pick (is_due n) k) (decode a)) (drop_of_length-le (decode a).threads (subst (λ (k : ℕ). k ≤ i) w.count h))) ∙ w.rest;
  }
