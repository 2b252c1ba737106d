-- Board and book after one call: what the book writes follows what the call leaves, in the registry's half, the current thread and whether it runs, the queue, and
-- each thread's wait and budget. Assumes nothing.
use Rattle.std.specs.Prelude.{◌≡◌, refl, Bool, true, false, cond, not, ◌&&◌, ◌||◌, List, [], ◌∷◌, ℕ, suc, ◌*◌, ◌^◌, ◌<◌, min, eqb, ltb, length, Option, Some, None}
use Rattle.std.proofs.Common.{sym, ◌∙◌, ap, true≢false, arith, eqb-true, eq-eqb, ne_eqb}
use Rattle.std.proofs.lemmas.Bool.{false≢true, eqb-false, not-true}
use Rattle.carv_area.specs.Laws.Table
use Rattle.carv_area.specs.Table.{Row, at, alter, put, pick, Rising}
use Rattle.carv_area.specs.Laws.Table.{passes, test}
use Rattle.carv_budget.specs.Account as account
use Rattle.carv_budget.proofs.Laws.Account.{second}
use Rattle.carv_objects_spec.proofs.Laws.Asked.{asked}
use Rattle.carv_objects_spec.specs.Registry as registry
use Rattle.carv_objects_spec.specs.Registry.{Registry, is_budget, account_of}
use Rattle.carv_objects_spec.proofs.Laws.SoundFacts as registry_facts
use Rattle.carv_objects_spec.proofs.Laws.Kept as registry_calls
use Rattle.carv_objects_spec.specs.Book as objects
use Rattle.carv_objects_spec.proofs.Laws.History as registry_history
use Rattle.carv_scheduler_spec.specs.declared.Wait.{Wait}
use Rattle.carv_scheduler_spec.specs.declared.Wait.TheVariants as waits
use Rattle.carv_scheduler_spec.specs.declared.State.{State}
use Rattle.carv_scheduler_spec.specs.declared.State.TheVariants.{Inactive, Ready, Blocked, Dead}
use Rattle.carv_scheduler_spec.specs.declared.Results.{Results}
use Rattle.carv_scheduler_spec.specs.declared.Context.{Context}
use Rattle.carv_scheduler_spec.specs.declared.Thread.{Thread}
use Rattle.carv_scheduler_spec.specs.Scheduler as scheduler
use Rattle.carv_scheduler_spec.specs.Scheduler.{Board, BoardReply, idle, most_threads, tick_ns, inactive, ready, running, blocked, dead, is, wait, wait_in, wait_of, due, is_due, fresh, or_fresh, thread, has, become, started, woken, ticked, with_registry, with_threads, join, without, results}
use Rattle.carv_scheduler_spec.specs.Sound.{member, distinct}
use Rattle.carv_scheduler_spec.proofs.Laws.SoundFacts.{Sound}
use Rattle.carv_scheduler_spec.proofs.Laws.SoundLaws.{queued_there}
use Rattle.carv_scheduler_spec.proofs.Laws.Reading.{absent, or_true, thread_alter, has_alter, thread_erase, has_erase, thread_put, has_put, distinct_first, distinct_rest, pick_below, pick_distinct}
use Rattle.carv_scheduler_spec.proofs.Laws.Steps.{other_state, waits_not, renew_for_kept}
use Rattle.carv_scheduler_spec.proofs.Laws.Switching.{choose_state, choose_there, put_back_kept, switched, switched_runs, switched_has, switched_budget, switched_wait}
use Rattle.carv_scheduler_spec.specs.Book as book
use Rattle.carv_scheduler_spec.specs.Book.{Book, Call, on_objects, create_user_thread, start, block_current, wake, kill, tick, plan, write}
use Rattle.carv_scheduler_spec.specs.Runs.{run}

-- Board and book.

-- the book knows a thread of the board, with its budget
pub record Known (t : Thread) (m : List (Row book.Thread)) (i : ℕ) : Type 0 where
  pub there : objects.is_some (at m i) ≡ true
  pub budget : t.budget ≡ (book.thread m i).budget

-- the book may still hold threads that are gone from the board
pub record FollowsBoard (b : Board) (k : Book) : Type 0 where
  pub objects : registry_history.FollowsRegistry b.registry k.objects
  pub current : b.current ≡ k.current
  pub queue : b.queue ≡ k.queue
  pub runs : is running (thread b.threads b.current) ≡ k.runs
  pub rising : Rising 0 (2 ^ 64) k.threads
  pub waits : (i : ℕ) → wait_of (thread b.threads i) ≡ (book.thread k.threads i).wait
  pub budgets : (i : ℕ) → has b.threads i ≡ true → Known (thread b.threads i) k.threads i

-- What is read of the board's threads, and of the book's after a write.

-- a thread in another state than Inactive is there
active_here : (m : List (Row Thread)) (i : ℕ) (s : State → Bool) → is s (thread m i) ≡ true → s Inactive ≡ false → has m i ≡ true
active_here m i s h n = test (has m i) (λ a. a) (λ a. absurd (true≢false (sym h ∙ rw (absent m i a) n)))

module _ (m : List (Row book.Thread)) (i : ℕ) where
  module _ (f : book.Thread → book.Thread) (h : objects.is_some (at m i) ≡ true) where
    noted : at m i ≡ Some (book.thread m i)
    noted = go (at m i) refl
      where
        go : (o : Option book.Thread) → at m i ≡ o → at m i ≡ Some (book.thread m i)
        go None q = absurd (false≢true (sym (ap objects.is_some q) ∙ h))
        go (Some t) q = q ∙ sym (ap (λ (o : Option book.Thread). Some (book.or_none o)) q)

    book_alter : (j : ℕ) → book.thread (alter i f m) j ≡ cond (eqb i j) (f (book.thread m i)) (book.thread m j)
    book_alter j = test (eqb i j)
        (λ a. rw (← eqb-true i j a, eq-eqb i i refl) (ap book.or_none (Table.at_alter m i f (book.thread m i) noted)))
        (λ a. rw a (ap book.or_none (Table.at_alter_other m i j f (eqb-false i j a))))

    book_has : (j : ℕ) → objects.is_some (at (alter i f m) j) ≡ objects.is_some (at m j)
    book_has j = test (eqb i j)
        (λ a. rw (← eqb-true i j a) (ap objects.is_some (Table.at_alter m i f (book.thread m i) noted) ∙ sym h))
        (λ a. ap objects.is_some (Table.at_alter_other m i j f (eqb-false i j a)))

  book_put : (t : book.Thread) (j : ℕ) → book.thread (put i t m) j ≡ cond (eqb i j) t (book.thread m j)
  book_put t j = test (eqb i j)
      (λ a. rw (← eqb-true i j a, eq-eqb i i refl) (ap book.or_none (Table.at_put m i t)))
      (λ a. rw a (ap book.or_none (Table.at_put_other m i j t (eqb-false i j a))))

  book_has_put : (t : book.Thread) (j : ℕ) → objects.is_some (at (put i t m) j) ≡ (eqb i j || objects.is_some (at m j))
  book_has_put t j = test (eqb i j)
      (λ a. rw (← eqb-true i j a, eq-eqb i i refl) (ap objects.is_some (Table.at_put m i t)))
      (λ a. rw a (ap objects.is_some (Table.at_put_other m i j t (eqb-false i j a))))

-- The budgets of threads.

time_same : (r : Registry) (k : objects.Book) → registry_history.FollowsRegistry r k → (p : Option ℕ) → scheduler.has_time p r ≡ book.has_time p k
time_same r k F None = refl
time_same r k F (Some p) = test (is_budget r p)
    (λ l. let g = registry_history.budget_agrees r k F p l in
    let q : (account_of r p).cpu_left ≡ objects.cpu_left (objects.budget_of k p) = omega (arith, g.left) in
    rw (registry_history.live_same r k F p, l, q))
    (λ l. rw (registry_history.live_same r k F p, l))

refill_follows : (time p : ℕ) (r : Registry) (k : objects.Book) → registry_facts.Sound r → registry_history.FollowsRegistry r k
    → registry_history.FollowsRegistry (registry.refill p time r).after (cond (objects.is_live k p) (objects.on_budget p (objects.renew time) k) k)
refill_follows time p r k s F = test (is_budget r p)
    (λ l. let (e, B) = registry_calls.live_budget r p l in
    rw (registry_history.live_same r k F p, l) (registry_history.renew_follows r k p time e s F B))
    (λ l. rw (registry_history.live_same r k F p, l) F)

renew_for_follows : (time : ℕ) (p : Option ℕ) (r : Registry) (k : objects.Book) → registry_facts.Sound r → registry_history.FollowsRegistry r k
    → registry_history.FollowsRegistry (scheduler.renew_for time p r) (book.renew_for time p k)
renew_for_follows time None r k s F = F
renew_for_follows time (Some p) r k s F = refill_follows time p r k s F

charge_tick_follows : (time : ℕ) (p : Option ℕ) (r : Registry) (k : objects.Book) → registry_facts.Sound r → registry_history.FollowsRegistry r k
    → registry_history.FollowsRegistry (scheduler.charge_tick time p r) (book.tick_for time p k)
charge_tick_follows time None r k s F = F
charge_tick_follows time (Some p) r k s F = test (is_budget r p)
    (λ l. let (e, B) = registry_calls.live_budget r p l in
    rw (registry_history.live_same r k F p, l)
    (registry_history.follow_account r k F p e B
    (λ x. account.spend (account.renew x time) (min tick_ns (account.renew x time).cpu_left))
    (λ x. objects.take_cpu (min tick_ns (objects.cpu_left (objects.renew time x))) (objects.renew time x)) λ x g.
    let G = registry_history.renew_agrees e.account x time (registry_calls.budget_sound s B) g in
    let q : (account.renew e.account time).cpu_left ≡ objects.cpu_left (objects.renew time x) = omega (arith, G.left) in
    rw (← q) (registry_history.spend_agrees (account.renew e.account time) (objects.renew time x)
    (min tick_ns (account.renew e.account time).cpu_left) (omega arith) G)))
    (λ l. rw (registry_history.live_same r k F p, l) F)

-- Threads written on both sides.

-- a thread's wait, written in the book, leaves its budget known
known_waiting : (t : Thread) (m : List (Row book.Thread)) (i j : ℕ) (w : Option Wait) → objects.is_some (at m i) ≡ true → Known t m j
    → Known t (alter i (book.waiting w) m) j
known_waiting t m i j w h K = record {
  there = book_has m i (book.waiting w) h j ∙ K.there;
  budget = K.budget ∙ sym (ap (λ (x : book.Thread). x.budget) (book_alter m i (book.waiting w) h j)
      ∙ test (eqb i j) (λ a. rw (a, eqb-true i j a)) (λ a. rw a));
}

-- thread i goes by f, which leaves its budget
module _ (b : Board) (k : Book) (F : FollowsBoard b k) (i : ℕ) (f : Thread → Thread) (h : has b.threads i ≡ true)
    (paid : (t : Thread) → (f t).budget ≡ t.budget) where
  there : objects.is_some (at k.threads i) ≡ true
  there = (F.budgets i h).there

  runs_same : is running (f (thread b.threads i)) ≡ is running (thread b.threads i)
      → is running (thread (alter i f b.threads) b.current) ≡ k.runs
  runs_same q = rw (thread_alter b.threads i f h b.current) (test (eqb i b.current)
      (λ a. rw (a, q, eqb-true i b.current a) F.runs)
      (λ a. rw a F.runs))

  waits_same : wait_of (f (thread b.threads i)) ≡ wait_of (thread b.threads i)
      → (j : ℕ) → wait_of (thread (alter i f b.threads) j) ≡ (book.thread k.threads j).wait
  waits_same q j = rw (thread_alter b.threads i f h j) (test (eqb i j)
      (λ a. rw (a, ← eqb-true i j a) (q ∙ F.waits i))
      (λ a. rw a (F.waits j)))

  waits_alter : (w : Option Wait) → wait_of (f (thread b.threads i)) ≡ w
      → (j : ℕ) → wait_of (thread (alter i f b.threads) j) ≡ (book.thread (alter i (book.waiting w) k.threads) j).wait
  waits_alter w q j = rw (thread_alter b.threads i f h j, book_alter k.threads i (book.waiting w) there j) (test (eqb i j)
      (λ a. rw a q)
      (λ a. rw a (F.waits j)))

  known : (j : ℕ) → has (alter i f b.threads) j ≡ true → Known (thread (alter i f b.threads) j) k.threads j
  known j e =
      let K = F.budgets j (sym (has_alter b.threads i f h j) ∙ e) in
      record {
        there = K.there;
        budget = ap (λ (t : Thread). t.budget) (thread_alter b.threads i f h j)
            ∙ test (eqb i j) (λ a. rw (a, eqb-true i j a, paid (thread b.threads j)) K.budget) (λ a. rw a K.budget);
      }

  known_alter : (w : Option Wait) (j : ℕ) → has (alter i f b.threads) j ≡ true
      → Known (thread (alter i f b.threads) j) (alter i (book.waiting w) k.threads) j
  known_alter w j e = known_waiting (thread (alter i f b.threads) j) k.threads i j w there (known j e)

  -- it joins the queue
  start_joins : is running (f (thread b.threads i)) ≡ is running (thread b.threads i) → wait_of (f (thread b.threads i)) ≡ wait_of (thread b.threads i)
      → FollowsBoard (with_threads (alter i f b.threads) (join b.queue i) b)
      (record { objects = k.objects; threads = k.threads; queue = join k.queue i; current = k.current; runs = k.runs })
  start_joins q v = record {
    objects = F.objects;
    current = F.current;
    queue = ap (λ (l : List ℕ). join l i) F.queue;
    runs = runs_same q;
    rising = F.rising;
    waits = waits_same v;
    budgets = known;
  }

  -- it waits no more, and joins the queue
  wake_joins : is running (f (thread b.threads i)) ≡ is running (thread b.threads i) → wait_of (f (thread b.threads i)) ≡ None
      → FollowsBoard (with_threads (alter i f b.threads) (join b.queue i) b) (book.woken i k)
  wake_joins q v = record {
    objects = F.objects;
    current = F.current;
    queue = ap (λ (l : List ℕ). join l i) F.queue;
    runs = runs_same q;
    rising = Table.rising_alter k.threads 0 (2 ^ 64) i (book.waiting None) F.rising;
    waits = waits_alter None v;
    budgets = known_alter None;
  }

-- One call: what it leaves is followed by what the book writes.

abbrev pub Written : Call → Book → BoardReply → Type 0
Written c k a = FollowsBoard a.after (write c a.number k)

module _ (b : Board) (k : Book) (s : Sound b) (F : FollowsBoard b k) where
  pub on_objects_follows : (c : objects.Call) → Written (on_objects c) k (run (on_objects c) b)
  on_objects_follows c = record {
    objects = registry_history.write_follows c b.registry k.objects s.registry F.objects;
    current = F.current;
    queue = F.queue;
    runs = F.runs;
    rising = F.rising;
    waits = F.waits;
    budgets = F.budgets;
  }

  -- a new thread stands in both tables
  created : (i budget : ℕ) → i < 2 ^ 64 → has b.threads i ≡ false
      → FollowsBoard (with_threads (put i (fresh Inactive (Some budget)) b.threads) b.queue b) (book.accepted (create_user_thread i budget true) k)
  created i budget fits missing = record {
    objects = F.objects;
    current = F.current;
    queue = F.queue;
    runs = rw (new b.current, other) F.runs;
    rising = Table.rising_put k.threads 0 (2 ^ 64) i u (omega arith) fits F.rising;
    waits = λ j. rw (new j, wrote j) (test (eqb i j) (λ a. rw a) (λ a. rw a (F.waits j)));
    budgets = λ j e. test (eqb i j)
        (λ a. record { there = book_has_put k.threads i u j ∙ rw a; budget = rw (new j, wrote j, a) })
        (λ a. let K = F.budgets j (sym (has_put b.threads i t j ∙ rw a) ∙ e) in
        record { there = book_has_put k.threads i u j ∙ rw a K.there; budget = rw (new j, wrote j, a) K.budget });
  }
    where
      t : Thread
      t = fresh Inactive (Some budget)

      u : book.Thread
      u = record { budget = Some budget; wait = None }

      new : (j : ℕ) → thread (put i t b.threads) j ≡ cond (eqb i j) t (thread b.threads j)
      new = thread_put b.threads i t

      wrote : (j : ℕ) → book.thread (put i u k.threads) j ≡ cond (eqb i j) u (book.thread k.threads j)
      wrote = book_put k.threads i u

      other : eqb i b.current ≡ false
      other = ne_eqb i b.current (λ q. false≢true (sym missing ∙ ap (has b.threads) q ∙ s.current_here))

  pub create_follows : (i budget : ℕ) (stack : Bool) → i < 2 ^ 64 → Written (create_user_thread i budget stack) k (run (create_user_thread i budget stack) b)
  create_follows i budget stack fits =
      let P = Written (create_user_thread i budget stack) k in
      asked P (not (has b.threads i)) F λ missing.
      asked P (not (eqb i 0)) F λ not_first.
      asked P (not (eqb i idle)) F λ not_idle.
      asked P (ltb (length b.threads) most_threads) F λ room.
      asked P stack F λ backing.
      created i budget fits (not-true (has b.threads i) missing)

  pub start_follows : (i space cspace root : ℕ) (context : Context) → Written (start i space cspace root context) k (run (start i space cspace root context) b)
  start_follows i space cspace root context =
      let P = Written (start i space cspace root context) k in
      asked P (has b.threads i) F λ h.
      asked P (is inactive (thread b.threads i)) F λ state.
      start_joins b k F i (started (scheduler.in_spaces space cspace root) context) h (λ t. refl)
      (sym (other_state inactive running (thread b.threads i) state (λ _. refl)))
      (sym (waits_not (thread b.threads i) (other_state inactive blocked (thread b.threads i) state (λ _. refl))))

  pub wake_follows : (i : ℕ) (r : Results) → Written (wake i r) k (run (wake i r) b)
  wake_follows i r =
      let P = Written (wake i r) k in
      asked P (has b.threads i) F λ h.
      asked P (is blocked (thread b.threads i)) F λ state.
      wake_joins b k F i (woken r) h (λ t. refl) (sym (other_state blocked running (thread b.threads i) state (λ _. refl))) refl

  pub block_follows : (kind number : ℕ) → Written (block_current kind number) k (run (block_current kind number) b)
  block_follows kind number =
      let P = Written (block_current kind number) k in
      asked P (scheduler.wait_listed kind) F λ code.
      asked P (is running (thread b.threads b.current)) F λ state.
      asked P (not (eqb b.current idle)) F λ busy.
      let f = become (Blocked (wait kind number)) in
      let h = s.current_here in
      rw (← F.current) (record {
        objects = F.objects;
        current = refl;
        queue = F.queue;
        runs = rw (thread_alter b.threads b.current f h b.current, eq-eqb b.current b.current refl);
        rising = Table.rising_alter k.threads 0 (2 ^ 64) b.current (book.waiting (Some (wait kind number))) F.rising;
        waits = waits_alter b k F b.current f h (λ t. refl) (Some (wait kind number)) refl;
        budgets = known_alter b k F b.current f h (λ t. refl) (Some (wait kind number));
      })

  pub kill_follows : (i cause : ℕ) → Written (kill i cause) k (run (kill i cause) b)
  kill_follows i cause =
      let P = Written (kill i cause) k in
      asked P (scheduler.cause_listed cause) F λ code.
      asked P (not (eqb i idle)) F λ busy.
      asked P (has b.threads i) F λ h.
      let here = (F.budgets i h).there in
      let up = Table.rising_alter k.threads 0 (2 ^ 64) i (book.waiting None) F.rising in
      let queue = ap (λ (q : List ℕ). without i q) F.queue in
      test (eqb i b.current)
      (λ a. let f = become Dead in
      rw (← F.current, a) (record {
        objects = F.objects;
        current = refl;
        queue = queue;
        runs = rw (thread_alter b.threads i f h b.current, a);
        rising = up;
        waits = waits_alter b k F i f h (λ t. refl) None refl;
        budgets = known_alter b k F i f h (λ t. refl) None;
      }))
      (λ a. let gone = thread_erase b.threads i 0 (2 ^ 64) s.rising in
      let left = has_erase b.threads i 0 (2 ^ 64) s.rising in
      rw (← F.current, a) (record {
        objects = F.objects;
        current = refl;
        queue = queue;
        runs = rw (gone b.current, a) F.runs;
        rising = up;
        waits = λ j. rw (gone j, book_alter k.threads i (book.waiting None) here j) (test (eqb i j) (λ e. rw e) (λ e. rw e (F.waits j)));
        budgets = λ j e. test (eqb i j)
            (λ g. absurd (false≢true (sym (left j ∙ rw g) ∙ e)))
            (λ g. rw (gone j, g) (known_waiting (thread b.threads j) k.threads i j None here (F.budgets j (sym (left j ∙ rw g) ∙ e))));
      }))

-- A tick: the sleepers that are due are the same by the board and by the book.

module _ {A : Type 0} (p : A → Bool) where
  pick_passes : (m : List (Row A)) (l n i : ℕ) → Rising l n m → member i (pick p m) ≡ true → passes p (at m i) ≡ true
  pick_passes [] l n i u h = absurd (false≢true h)
  pick_passes (r ∷ m) l n i u h = test (eqb r.id i)
      (λ e. rw e (test (p r.it) (λ a. a)
      (λ a. absurd (false≢true (sym (pick_below p m (suc r.id) n i u.1 (omega (arith, eqb-true r.id i e))) ∙ rw a at h)))))
      (λ e. rw e (pick_passes m (suc r.id) n i u.1 (test (p r.it)
      (λ a. rw (a, e) at h) (λ a. rw a at h))))

due_same_wait : (n : ℕ) (w : Option Wait) → due n w ≡ book.is_due n w
due_same_wait n None = refl
due_same_wait n (Some (waits.Sleep at)) = refl
due_same_wait n (Some _) = refl

due_thread : (n : ℕ) (t : Thread) → is_due n t ≡ book.is_due n (wait_of t)
due_thread n t = due_same_wait n (wait_of t)

due_read : (n : ℕ) (o : Option Thread) → passes (is_due n) o ≡ book.is_due n (wait_of (or_fresh o))
due_read n None = refl
due_read n (Some t) = due_thread n t

due_noted : (n : ℕ) (o : Option book.Thread) → passes (λ t. book.is_due n t.wait) o ≡ book.is_due n (book.or_none o).wait
due_noted n None = refl
due_noted n (Some t) = refl

due_blocked : (n : ℕ) (t : Thread) → book.is_due n (wait_of t) ≡ true → is blocked t ≡ true
due_blocked n t h = test (is blocked t) (λ a. a) (λ a. absurd (false≢true (rw (waits_not t a) at h)))

due_same : (n : ℕ) (b : Board) (k : Book) → Sound b → FollowsBoard b k → pick (is_due n) b.threads ≡ pick (λ t. book.is_due n t.wait) k.threads
due_same n b k s F =
    Table.pick_scan (is_due n) (2 ^ 64) b.threads 0 s.rising
    ∙ Table.scan_same (λ i. passes (is_due n) (at b.threads i)) (λ i. passes (λ t. book.is_due n t.wait) (at k.threads i)) 0 (2 ^ 64)
    (λ i h. due_read n (at b.threads i) ∙ ap (book.is_due n) (F.waits i) ∙ sym (due_noted n (at k.threads i)))
    ∙ sym (Table.pick_scan (λ t. book.is_due n t.wait) (2 ^ 64) k.threads 0 F.rising)

-- each sleeper is woken on both sides
wake_all_follows : (l : List ℕ) (b : Board) (k : Book) → FollowsBoard b k → distinct l ≡ true
    → ((i : ℕ) → member i l ≡ true → is blocked (thread b.threads i) ≡ true)
    → FollowsBoard (scheduler.wake_all l b) (book.wake_all l k)
wake_all_follows [] b k F d w = F
wake_all_follows (i ∷ l) b k F d w =
    let f = woken (results 0 0 0) in
    let state = w i (rw (eq-eqb i i refl)) in
    let h = active_here b.threads i blocked state refl in
    let b' : Board = with_threads (alter i f b.threads) (join b.queue i) b in
    let e : (scheduler.wake i (results 0 0 0) b).after ≡ b' = rw (h, state) in
    rw e (wake_all_follows l b' (book.woken i k)
    (wake_joins b k F i f h (λ t. refl) (sym (other_state blocked running (thread b.threads i) state (λ _. refl))) refl)
    (distinct_rest i l d)
    (λ j m. let off : eqb i j ≡ false = ne_eqb i j (λ q. true≢false (sym m ∙ rw q at (distinct_first i l d))) in
    rw (thread_alter b.threads i f h j, off) (w j (or_true (eqb i j) m))))

module _ (b : Board) (k : Book) (s : Sound b) (F : FollowsBoard b k) where
  pub tick_follows : (n : ℕ) → Written (tick n) k (run (tick n) b)
  tick_follows n =
      let time = n * tick_ns in
      let p = (thread b.threads b.current).budget in
      let b' : Board = with_registry (scheduler.charge_tick time p b.registry) (with_threads (alter b.current ticked b.threads) b.queue b) in
      let k' : Book = record {
        objects = book.tick_for time p k.objects;
        threads = k.threads;
        queue = k.queue;
        current = b.current;
        runs = k.runs;
      } in
      let h = s.current_here in
      let F' : FollowsBoard b' k' = record {
        objects = charge_tick_follows time p b.registry k.objects s.registry F.objects;
        current = refl;
        queue = F.queue;
        runs = runs_same b k F b.current ticked h (λ t. refl) refl;
        rising = F.rising;
        waits = waits_same b k F b.current ticked h (λ t. refl) refl;
        budgets = known b k F b.current ticked h (λ t. refl);
      } in
      asked (Written (tick n) k) (scheduler.tick_fits n) F λ fits.
      rw (← due_same n b k s F, ← F.current, ← (F.budgets b.current h).budget)
      (wake_all_follows (pick (is_due n) b.threads) b' k' F' (pick_distinct (is_due n) b.threads 0 (2 ^ 64) s.rising)
      λ j m.
      let due = sym (due_read n (at b.threads j)) ∙ pick_passes (is_due n) b.threads 0 (2 ^ 64) j s.rising m in
      rw (thread_alter b.threads b.current ticked h j) (test (eqb b.current j)
      (λ a. rw (a, eqb-true b.current j a) (due_blocked n (thread b.threads j) due))
      (λ a. rw a (due_blocked n (thread b.threads j) due))))

-- A planning: the current thread put back, the search of the queue, and the switch.

-- what the board's search and the book's find
record SameChoice (c : scheduler.Choice) (d : book.Choice) : Type 0 where
  next : c.next ≡ d.next
  rest : c.rest ≡ d.rest
  objects : registry_history.FollowsRegistry c.registry d.objects

-- one test, alike on both sides
tested : (left : Bool) (i : ℕ) (q : List ℕ) (r : Registry) (o : objects.Book) (c : scheduler.Choice) (d : book.Choice) → registry_history.FollowsRegistry r o → SameChoice c d
    → SameChoice (cond left (record { next = i; rest = q; registry = r }) (scheduler.pass_over i c))
    (cond left (record { next = i; rest = q; objects = o }) (book.pass_over i d))
tested true i q r o c d G S = record { next = refl; rest = refl; objects = G }
tested false i q r o c d G S = record { next = S.next; rest = ap (λ (l : List ℕ). i ∷ l) S.rest; objects = S.objects }

-- the search goes alike, where each queued thread is there
choose_follows : (b : Board) (k : Book) → FollowsBoard b k → (time : ℕ) (q : List ℕ) (r : Registry) (o : objects.Book)
    → ((i : ℕ) → member i q ≡ true → has b.threads i ≡ true) → registry_facts.Sound r → registry_history.FollowsRegistry r o
    → SameChoice (scheduler.choose time b.threads q r) (book.choose time k.threads q o)
choose_follows b k F time [] r o live s G = record { next = refl; rest = refl; objects = G }
choose_follows b k F time (i ∷ q) r o live s G =
    let h = live i (rw (eq-eqb i i refl)) in
    let p = (thread b.threads i).budget in
    let r' = scheduler.renew_for time p r in
    let o' = book.renew_for time p o in
    let G' = renew_for_follows time p r o s G in
    rw (h, ← (F.budgets i h).budget, ← time_same r' o' G' p)
    (tested (scheduler.has_time p r') i q r' o' (scheduler.choose time b.threads q r') (book.choose time k.threads q o') G'
    (choose_follows b k F time q r' o' (λ j m. live j (or_true (eqb i j) m)) (renew_for_kept time p r s) G'))

-- the book with its queue as at the search
abbrev pub put_back_book : Book → Book
put_back_book k = record {
  objects = k.objects;
  threads = k.threads;
  queue = book.put_back k;
  current = k.current;
  runs = cond (not (eqb k.current idle) && k.runs) false k.runs;
}

module _ (b : Board) (k : Book) (s : Sound b) (F : FollowsBoard b k) where
  pub put_back_follows : FollowsBoard (scheduler.put_back b) (put_back_book k)
  put_back_follows =
      rw (← F.current, ← F.runs) (test (not (eqb b.current idle) && is running (thread b.threads b.current))
      (λ a. let f = become Ready in
      let h = s.current_here in
      let state = second (not (eqb b.current idle)) (is running (thread b.threads b.current)) a in
      rw a (record {
        objects = F.objects;
        current = refl;
        queue = ap (λ (q : List ℕ). join q b.current) F.queue;
        runs = rw (thread_alter b.threads b.current f h b.current, eq-eqb b.current b.current refl);
        rising = F.rising;
        waits = waits_same b k F b.current f h (λ t. refl) (sym (waits_not (thread b.threads b.current) (other_state running blocked (thread b.threads b.current) state (λ _. refl))));
        budgets = known b k F b.current f h (λ t. refl);
      }))
      (λ a. rw a (record {
        objects = F.objects;
        current = refl;
        queue = F.queue;
        runs = refl;
        rising = F.rising;
        waits = F.waits;
        budgets = F.budgets;
      })))

  -- the chosen thread runs, and a dead one that is left goes
  pub switch_follows : (time : ℕ)
      → FollowsBoard (scheduler.switch_to (scheduler.choose time b.threads b.queue b.registry) b) (book.run (book.choose time k.threads k.queue k.objects) k)
  switch_follows time =
      let c = scheduler.choose time b.threads b.queue b.registry in
      let m = (scheduler.switch_to c b).threads in
      let C = choose_follows b k F time b.queue b.registry k.objects (queued_there b s) s.registry F.objects in
      let w = switched b c s (choose_there b s time b.registry) in
      rw (← F.queue) (record {
        objects = C.objects;
        current = C.next;
        queue = C.rest;
        runs = switched_runs b c.next m w;
        rising = F.rising;
        waits = λ j. switched_wait b c.next m w (choose_state b s time b.registry) j ∙ F.waits j;
        budgets = λ j e.
            let K = F.budgets j (switched_has b c.next m w j e) in
            record { there = K.there; budget = switched_budget b c.next m w j e ∙ K.budget };
      })

pub plan_follows : (n : ℕ) (b : Board) (k : Book) → Sound b → FollowsBoard b k → Written (plan n) k (run (plan n) b)
plan_follows n b k s F =
    asked (Written (plan n) k) (scheduler.tick_fits n) F λ fits.
    switch_follows (scheduler.put_back b) (put_back_book k) (put_back_kept b s) (put_back_follows b k s F) (n * tick_ns)
