-- P3's ledger notes what 01's book takes, call by call, on a board, a tick's charge and a planning's renewals too; and strikes nothing out. Assumes nothing.
use Rattle.std.specs.Prelude.{◌≡◌, refl, Bool, true, false, cond, List, [], ◌∷◌, ℕ, ◌+◌, ◌*◌, ◌≤◌, min, eqb, Option, Some, None}
use Rattle.std.proofs.Common.{◌∙◌, ap, arith, eqb-true}
use Rattle.std.proofs.lemmas.Bool.{eqb-false}
use Rattle.carv_area.specs.Table.{Row, at, pick, alter, Rising}
use Rattle.carv_area.specs.Laws.Table
use Rattle.carv_area.specs.Laws.Table.{test}
use Rattle.carv_budget.specs.Account.{period}
use Rattle.carv_objects_spec.specs.Book as objects
use Rattle.carv_objects_spec.specs.Book.{Budget, is_live, budget_of, cpu_left, renew, take_cpu, on_budget}
use Rattle.carv_objects_spec.specs.Ledger.{Ledger}
use Rattle.carv_objects_spec.specs.Noted.{Adds, charged_to, Accounted}
use Rattle.carv_objects_spec.proofs.Laws.Noted as registry_noted
use Rattle.carv_objects_spec.proofs.Laws.Noted.{Renews, renews, renews_not, renews_again, nothing_booked, booked, altered_row, unmoved, adds_nothing, adds_charge}
use Rattle.carv_scheduler_spec.specs.Scheduler.{tick_ns, opening}
use Rattle.carv_scheduler_spec.specs.Book as book
use Rattle.carv_scheduler_spec.specs.Book.{Book, Call, on_objects, create_user_thread, start, block_current, wake, is_blocked_on, kill, tick, plan, read_thread, read_current, read_switches, exit_of, write, thread}
use Rattle.carv_scheduler_spec.specs.Runs.{book_after, AllFit}
use Rattle.carv_scheduler_spec.specs.Ledger.{note_tick, note, ledger_after, clock}
use Rattle.carv_scheduler_spec.proofs.Laws.History.{after_stands, opening_stands}

-- waking moves nothing among the objects
wake_all_objects : (is : List ℕ) (b : Book) → (book.wake_all is b).objects ≡ b.objects
wake_all_objects [] b = refl
wake_all_objects (i ∷ is) b = wake_all_objects is (book.woken i b)

-- a tick
tick_noted : (time : ℕ) (p : Option ℕ) (k : objects.Book) (l : Ledger) (i : ℕ)
    → Accounted k (book.tick_for time p k) (charged_to l.charges i) (charged_to (note_tick time p k l).charges i) i
tick_noted time None k l i = unmoved k i (charged_to l.charges i)
tick_noted time (Some j) k l i = test (is_live k j) (λ a. rw a charged) (λ a. rw a (unmoved k i (charged_to l.charges i)))
  where
    f : Budget → Budget
    f b = take_cpu (min tick_ns (cpu_left (renew time b))) (renew time b)

    charged : Accounted k (on_budget j f k) (charged_to l.charges i) (cond (eqb j i) (min tick_ns (cpu_left (renew time (budget_of k j)))) 0 + charged_to l.charges i) i
    charged x y h g =
        let z = altered_row k.budgets j i f x y h g in
        test (eqb j i)
        (λ a. let z' : f x ≡ y = rw a at z in
        let here : budget_of k j ≡ x = ap (budget_of k) (eqb-true j i a) ∙ ap objects.or_no_budget h in
        rw (a, here, ← z') (booked x (renew time x) (f x) 0 (min tick_ns (cpu_left (renew time x))) (charged_to l.charges i) _ refl (renews time x) refl (omega arith) (omega arith)))
        (λ a. let z' : x ≡ y = rw a at z in
        rw (a, ← z') (booked x x x 0 0 (charged_to l.charges i) _ refl (renews_not x) refl (omega arith) (omega arith)))

-- a planning renews
renew_for_renews : (time : ℕ) (p : Option ℕ) (k : objects.Book) (i : ℕ) (x : Budget) → at k.budgets i ≡ Some x
    → (y : Budget) × (at (book.renew_for time p k).budgets i ≡ Some y) × Renews x y
renew_for_renews time None k i x h = (x, h, renews_not x)
renew_for_renews time (Some j) k i x h = test (is_live k j)
    (λ a. rw a (cond_at (eqb j i) refl))
    (λ a. rw a (x, h, renews_not x))
  where
    cond_at : (b : Bool) → eqb j i ≡ b → (y : Budget) × (at (alter j (renew time) k.budgets) i ≡ Some y) × Renews x y
    cond_at true q = (renew time x, rw (eqb-true j i q) (Table.at_alter k.budgets i (renew time) x h), renews time x)
    cond_at false q = (x, Table.at_alter_other k.budgets j i (renew time) (eqb-false j i q) ∙ h, renews_not x)

choose_renews : (time : ℕ) (m : List (Row book.Thread)) (q : List ℕ) (k : objects.Book) (i : ℕ) (x : Budget) → at k.budgets i ≡ Some x
    → (y : Budget) × (at (book.choose time m q k).objects.budgets i ≡ Some y) × Renews x y
choose_renews time m [] k i x h = (x, h, renews_not x)
choose_renews time m (j ∷ q) k i x h =
    let p = (thread m j).budget in
    let k' = book.renew_for time p k in
    let (w, at_w, R) = renew_for_renews time p k i x h in
    test (book.has_time p k')
    (λ a. rw a (w, at_w, R))
    (λ a. rw a (let (y, at_y, R') = choose_renews time m q k' i w at_w in (y, at_y, renews_again x w y R R')))

plan_noted : (time : ℕ) (m : List (Row book.Thread)) (q : List ℕ) (k : objects.Book) (i c : ℕ) → Accounted k (book.choose time m q k).objects c c i
plan_noted time m q k i c x y h g =
    let (z, at_z, R) = choose_renews time m q k i x h in
    let e : z ≡ y = cc in
    rw (← e) (nothing_booked x z c R)

-- every call, with any number
module _ (n : ℕ) (k : Book) (l : Ledger) (i : ℕ) (up : Rising 1 k.objects.next k.objects.budgets) where
  -- a call that leaves the objects
  stays : (k' : Book) → k'.objects ≡ k.objects → Accounted k.objects (cond (eqb n 0) k' k).objects (charged_to l.charges i) (charged_to l.charges i) i
  stays k' e = test (eqb n 0)
      (λ a. rw (a, e) (unmoved k.objects i (charged_to l.charges i)))
      (λ a. rw a (unmoved k.objects i (charged_to l.charges i)))

  pub call_noted : (c : Call) → Accounted k.objects (write c n k).objects (charged_to l.charges i) (charged_to (note c n k l).charges i) i
  call_noted (on_objects c) = registry_noted.call_noted c n k.objects l i up
  call_noted (create_user_thread j budget stack) = stays (book.accepted (create_user_thread j budget stack) k) refl
  call_noted (start j space cspace root context) = stays (book.accepted (start j space cspace root context) k) refl
  call_noted (block_current kind number) = stays (book.accepted (block_current kind number) k) refl
  call_noted (wake j r) = stays (book.accepted (wake j r) k) refl
  call_noted (is_blocked_on j kind number) = unmoved k.objects i (charged_to l.charges i)
  call_noted (kill j cause) = stays (book.accepted (kill j cause) k) refl
  call_noted (tick t) = test (eqb n 0)
      (λ a. let p = (thread k.threads k.current).budget in
      rw (a, wake_all_objects (pick (λ t'. book.is_due t t'.wait) k.threads) (book.with_objects (book.tick_for (t * tick_ns) p k.objects) k))
      (tick_noted (t * tick_ns) p k.objects l i))
      (λ a. rw a (unmoved k.objects i (charged_to l.charges i)))
  call_noted (plan t) = test (eqb n 0)
      (λ a. rw a (plan_noted (t * tick_ns) k.threads (book.put_back k) k.objects i (charged_to l.charges i)))
      (λ a. rw a (unmoved k.objects i (charged_to l.charges i)))
  call_noted (read_thread j) = unmoved k.objects i (charged_to l.charges i)
  call_noted read_current = unmoved k.objects i (charged_to l.charges i)
  call_noted read_switches = unmoved k.objects i (charged_to l.charges i)
  call_noted (exit_of j) = unmoved k.objects i (charged_to l.charges i)

-- the next call behind any list from an opening, with any number
pub next_noted : (cs : List Call) (c : Call) (n cpu memory : ℕ) → cpu ≤ period → AllFit cs → (i : ℕ)
    → Accounted (book_after cs cpu memory).objects (write c n (book_after cs cpu memory)).objects (charged_to (ledger_after cs cpu memory).charges i)
    (charged_to (note c n (book_after cs cpu memory) (ledger_after cs cpu memory)).charges i) i
next_noted cs c n cpu memory h fits i =
    call_noted n (book_after cs cpu memory) (ledger_after cs cpu memory) i
    (after_stands cs (opening cpu memory) (book.opening cpu memory) fits (opening_stands cpu memory h)).follows.objects.budgets_rising c

-- Nothing is struck out.

tick_adds : (time : ℕ) (p : Option ℕ) (k : objects.Book) (l : Ledger) → Adds (Some time) l (note_tick time p k l)
tick_adds time None k l = adds_nothing (Some time) l
tick_adds time (Some i) k l =
    test (is_live k i) (λ a. rw a (adds_charge i (min tick_ns (cpu_left (renew time (budget_of k i)))) time l)) (λ a. rw a (adds_nothing (Some time) l))

pub note_adds : (c : Call) (n : ℕ) (k : Book) (l : Ledger) → Adds (clock c) l (note c n k l)
note_adds (on_objects c) n k l = registry_noted.note_adds c n k.objects.next l
note_adds (create_user_thread i budget stack) n k l = adds_nothing None l
note_adds (start i space cspace root context) n k l = adds_nothing None l
note_adds (block_current kind number) n k l = adds_nothing None l
note_adds (wake i r) n k l = adds_nothing None l
note_adds (is_blocked_on i kind number) n k l = adds_nothing None l
note_adds (kill i cause) n k l = adds_nothing None l
note_adds (tick t) n k l =
    test (eqb n 0) (λ a. rw a (tick_adds (t * tick_ns) (thread k.threads k.current).budget k.objects l)) (λ a. rw a (adds_nothing (Some (t * tick_ns)) l))
note_adds (plan t) n k l = adds_nothing (Some (t * tick_ns)) l
note_adds (read_thread i) n k l = adds_nothing None l
note_adds read_current n k l = adds_nothing None l
note_adds read_switches n k l = adds_nothing None l
note_adds (exit_of i) n k l = adds_nothing None l
