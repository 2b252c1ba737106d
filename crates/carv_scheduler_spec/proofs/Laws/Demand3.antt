-- Demand 3 on the definitions (specs/Demand3.antt says it) is proved: the book follows the board, and its search finds the first of the queue that has time left. Assumes nothing.
use Rattle.std.specs.Prelude.{◌≡◌, refl, Bool, true, false, cond, ◌&&◌, List, [], ◌∷◌, ◌++◌, ℕ, ◌-◌, ◌*◌, ◌%◌, ◌≤◌, ◌<◌, eqb, ltb, leb, Option, Some, None}
use Rattle.std.proofs.Common.{sym, ◌∙◌, ap, arith, mod-lt, eqb-true, eq-eqb, ne_eqb}
use Rattle.std.proofs.lemmas.Bool.{false≢true, eqb-false, lt-leb}
use Rattle.carv_area.specs.Laws.Table
use Rattle.carv_area.specs.Table.{Row, at}
use Rattle.carv_area.specs.Laws.Table.{test}
use Rattle.carv_budget.specs.Account.{period}
use Rattle.carv_budget.proofs.Laws.Account.{not_second}
use Rattle.carv_objects_spec.specs.Registry.{is_budget, account_of}
use Rattle.carv_objects_spec.specs.Book as objects
use Rattle.carv_objects_spec.specs.Book.{Budget, is_live, budget_of, on_budget, cpu_left}
use Rattle.carv_objects_spec.proofs.Laws.History as registry_history
use Rattle.carv_objects_spec.proofs.Laws.BookTotals.{totals_same}
use Rattle.carv_scheduler_spec.specs.Scheduler as scheduler
use Rattle.carv_scheduler_spec.specs.Scheduler.{Board, BoardReply, idle, tick_ns, thread, root_of, opening, no_switch, switch}
use Rattle.carv_scheduler_spec.specs.Sound.{member}
use Rattle.carv_scheduler_spec.proofs.Laws.SoundFacts.{Sound}
use Rattle.carv_scheduler_spec.proofs.Laws.Reading.{or_true, neither}
use Rattle.carv_scheduler_spec.proofs.Laws.Switching.{choose_there, put_back_kept, switched}
use Rattle.carv_scheduler_spec.specs.Demand3.{board_after, line_of, figures_of, time_left, ReadyLongest, NoneLeft, Planned, Demand3}
use Rattle.carv_scheduler_spec.specs.Book as book
use Rattle.carv_scheduler_spec.specs.Book.{Book, Call, plan, put_back}
use Rattle.carv_scheduler_spec.specs.Runs.{run, after, book_after, AllFit}
use Rattle.carv_scheduler_spec.proofs.Laws.Following.{FollowsBoard, put_back_book, put_back_follows, switch_follows}
use Rattle.carv_scheduler_spec.proofs.Laws.History.{Stands, after_stands, opening_stands}

-- Renewals of other budgets do not matter to a thread's test, and its own matters once.

not_due : (t : ℕ) (b : Budget) → objects.due t (objects.renew t b) ≡ false
not_due t b = test (objects.due t b)
    (λ d. let h : (t - b.start) % period < period = mod-lt (t - b.start) (omega arith) in
    let start : ℕ = t - (t - b.start) % period in
    rw d (not_second (leb start t) (leb period (t - start)) (lt-leb period (t - start) (omega arith))))
    (λ d. rw d d)

renew_twice : (t : ℕ) (b : Budget) → cpu_left (objects.renew t (objects.renew t b)) ≡ cpu_left (objects.renew t b)
renew_twice t b = rw (not_due t b)

module _ (o : objects.Book) (e : ℕ) (f : Budget → Budget) (h : is_live o e ≡ true) where
  there : at o.budgets e ≡ Some (budget_of o e)
  there = go (at o.budgets e) refl
    where
      go : (x : Option Budget) → at o.budgets e ≡ x → at o.budgets e ≡ Some (budget_of o e)
      go None q = absurd (false≢true (sym (ap objects.is_some q) ∙ h))
      go (Some b) q = q ∙ sym (ap (λ (x : Option Budget). Some (objects.or_no_budget x)) q)

  live_after : (c : ℕ) → is_live (on_budget e f o) c ≡ is_live o c
  live_after c = test (eqb e c)
      (λ a. rw (← eqb-true e c a) (ap objects.is_some (Table.at_alter o.budgets e f (budget_of o e) there) ∙ sym h))
      (λ a. ap objects.is_some (Table.at_alter_other o.budgets e c f (eqb-false e c a)))

  budget_after : (c : ℕ) → budget_of (on_budget e f o) c ≡ cond (eqb e c) (f (budget_of o e)) (budget_of o c)
  budget_after c = test (eqb e c)
      (λ a. rw (← eqb-true e c a, eq-eqb e e refl) (ap objects.or_no_budget (Table.at_alter o.budgets e f (budget_of o e) there)))
      (λ a. rw a (ap objects.or_no_budget (Table.at_alter_other o.budgets e c f (eqb-false e c a))))

-- the test of a thread with a budget, said of that budget alone
pub time_direct : (t c : ℕ) (o : objects.Book) → book.has_time (Some c) (book.renew_for t (Some c) o) ≡ (is_live o c && ltb 0 (cpu_left (objects.renew t (budget_of o c))))
time_direct t c o = test (is_live o c)
    (λ a. rw (a, live_after o c (objects.renew t) a c, a, budget_after o c (objects.renew t) a c, eq-eqb c c refl))
    (λ a. rw (a, a))

renewed_alike : (t : ℕ) (w : Option ℕ) (c : ℕ) (o : objects.Book)
    → (is_live (book.renew_for t w o) c ≡ is_live o c) × (cpu_left (objects.renew t (budget_of (book.renew_for t w o) c)) ≡ cpu_left (objects.renew t (budget_of o c)))
renewed_alike t None c o = (refl, refl)
renewed_alike t (Some e) c o = test (is_live o e)
    (λ a. rw a (
      live_after o e (objects.renew t) a c,
      rw (budget_after o e (objects.renew t) a c) (test (eqb e c)
          (λ q. rw (q, ← eqb-true e c q) (renew_twice t (budget_of o e)))
          (λ q. rw q)),
    ))
    (λ a. rw a (refl, refl))

time_alike : (t : ℕ) (v w : Option ℕ) (o : objects.Book) → book.has_time v (book.renew_for t v (book.renew_for t w o)) ≡ book.has_time v (book.renew_for t v o)
time_alike t None w o = refl
time_alike t (Some c) w o =
    let (x, y) = renewed_alike t w c o in
    time_direct t c (book.renew_for t w o) ∙ rw (x, y) (sym (time_direct t c o))

-- The search finds the first of the queue that has time left.

abbrev first_with : (ℕ → Bool) → List ℕ → ℕ
first_with p [] = idle
first_with p (i ∷ q) = cond (p i) i (first_with p q)

first_alike : (p p' : ℕ → Bool) (q : List ℕ) → ((i : ℕ) → p i ≡ p' i) → first_with p q ≡ first_with p' q
first_alike p p' [] h = refl
first_alike p p' (i ∷ q) h = rw (h i, first_alike p p' q h)

abbrev left_of : (time : ℕ) → List (Row book.Thread) → objects.Book → ℕ → Bool
left_of time m o i = book.has_time (book.thread m i).budget (book.renew_for time (book.thread m i).budget o)

choose_first : (time : ℕ) (m : List (Row book.Thread)) (q : List ℕ) (o : objects.Book) → (book.choose time m q o).next ≡ first_with (left_of time m o) q
choose_first time m [] o = refl
choose_first time m (i ∷ q) o = test (left_of time m o i)
    (λ a. rw a)
    (λ a. let o' = book.renew_for time (book.thread m i).budget o in
    rw a (choose_first time m q o' ∙ first_alike (left_of time m o') (left_of time m o) q
    (λ j. time_alike time (book.thread m j).budget (book.thread m i).budget o)))

module _ (p : ℕ → Bool) where
  first_longest : (q : List ℕ) → (first_with p q ≡ idle → ⊥) → ReadyLongest p q (first_with p q)
  first_longest [] h = absurd (h refl)
  first_longest (i ∷ q) h = test (p i)
      (λ a. rw a (record { front = []; behind = q; place = refl; has_time = a; passed_over = λ j m. absurd (false≢true m) }))
      (λ a. let L = first_longest q (rw a at h) in
      rw a (record {
        front = i ∷ L.front;
        behind = L.behind;
        place = ap (λ (l : List ℕ). i ∷ l) L.place;
        has_time = L.has_time;
        passed_over = λ j m. test (eqb i j) (λ e. rw (← eqb-true i j e) a) (λ e. L.passed_over j (rw e at m));
      }))

  -- idle is never queued, so it is the first only where none has time left
  first_none : (q : List ℕ) → member idle q ≡ false → first_with p q ≡ idle → NoneLeft p q
  first_none [] out h j m = absurd (false≢true m)
  first_none (i ∷ q) out h j m =
      let (i_out, q_out) = neither (eqb i idle) (member idle q) out in
      test (p i)
      (λ a. absurd (eqb-false i idle i_out (rw a at h)))
      (λ a. test (eqb i j) (λ e. rw (← eqb-true i j e) a) (λ e. first_none q q_out (rw a at h) j (rw e at m)))

  none_first : (q : List ℕ) → NoneLeft p q → first_with p q ≡ idle
  none_first [] h = refl
  none_first (i ∷ q) h = rw (h i (rw (eq-eqb i i refl))) (none_first q (λ j m. h j (or_true (eqb i j) m)))

-- One planning.

-- the answer of a switch from one thread to another
module _ (old next : ℕ) (root : Option ℕ) where
  abbrev answer : scheduler.Value
  answer = cond (eqb next old) no_switch (switch old next root)

  answer_stays : next ≡ old → Some answer ≡ Some no_switch
  answer_stays q = rw (eq-eqb next old q)

  answer_stayed : Some answer ≡ Some no_switch → next ≡ old
  answer_stayed h = test (eqb next old) (λ a. eqb-true next old a)
      (λ a. let q : Some (switch old next root) ≡ Some no_switch = rw a at h in absurd (let z : ◌≡◌ {A = ℕ} 0 1 = cc in omega arith))

  answer_switches : (next ≡ old → ⊥) → Some answer ≡ Some (switch old next root)
  answer_switches d = rw (ne_eqb next old d)

-- what an accepted planning leaves and answers
module _ (n : ℕ) (b : Board) (k : Book) (s : Sound b) (F : FollowsBoard b k) where
  abbrev time : ℕ
  time = n * tick_ns

  abbrev back : Board
  back = scheduler.put_back b

  abbrev choice : scheduler.Choice
  choice = scheduler.choose time back.threads back.queue back.registry

  abbrev accepted : BoardReply
  accepted = record { number = 0; value = Some (scheduler.switch_value b.current choice back); after = scheduler.switch_to choice back }

  back_sound : Sound back
  back_sound = put_back_kept b s

  back_follows : FollowsBoard back (put_back_book k)
  back_follows = put_back_follows b k s F

  left_follows : FollowsBoard (scheduler.switch_to choice back) (book.run (book.choose time k.threads (put_back k) k.objects) (put_back_book k))
  left_follows = switch_follows back (put_back_book k) back_sound back_follows time

  next_first : choice.next ≡ first_with (time_left time k) (put_back k)
  next_first = left_follows.current ∙ choose_first time k.threads (put_back k) k.objects

  idle_out : member idle (put_back k) ≡ false
  idle_out = ap (member idle) (sym back_follows.queue) ∙ back_sound.queued idle

  root_alike : root_of (thread back.threads choice.next) ≡ root_of (thread (scheduler.switch_to choice back).threads choice.next)
  root_alike =
      let w = switched back choice back_sound (choose_there back back_sound time back.registry) in
      rw (w.after choice.next, eq-eqb choice.next choice.next refl)

  accepted_planned : Planned n k accepted
  accepted_planned = record {
    chosen = left_follows.current;
    runs = left_follows.runs;
    longest = λ d. rw next_first (first_longest (time_left time k) (put_back k) (λ q. d (next_first ∙ q)));
    none_left = λ q. first_none (time_left time k) (put_back k) idle_out (sym next_first ∙ q);
    idle_runs = λ h. next_first ∙ none_first (time_left time k) (put_back k) h;
    stays = λ q. answer_stays b.current choice.next (root_of (thread back.threads choice.next)) (q ∙ sym F.current);
    stayed = λ h. answer_stayed b.current choice.next (root_of (thread back.threads choice.next)) h ∙ F.current;
    switches = λ d. answer_switches b.current choice.next (root_of (thread back.threads choice.next)) (λ q. d (q ∙ F.current))
        ∙ rw (← F.current, ← root_alike);
  }

  planned : (run (plan n) b).number ≡ 0 → Planned n k (run (plan n) b)
  planned = test (scheduler.tick_fits n) (λ a. rw a (λ h. accepted_planned)) (λ a. rw a (λ h. absurd (omega arith)))

-- Lists.

pub all_fit : (xs ys : List Call) → AllFit (xs ++ ys) → AllFit xs
all_fit [] ys f = tt
all_fit (c ∷ xs) ys f = (f.0, all_fit xs ys f.1)

-- a list of calls in two parts
pub after_parts : (xs ys : List Call) (b : Board) → after (xs ++ ys) b ≡ after ys (after xs b)
after_parts [] ys b = refl
after_parts (c ∷ xs) ys b = after_parts xs ys (run c b).after

module _ (cs : List Call) (cpu memory : ℕ) (h : cpu ≤ period) (fits : AllFit cs) where
  stands : Stands (board_after cs cpu memory) (book_after cs cpu memory)
  stands = after_stands cs (opening cpu memory) (book.opening cpu memory) fits (opening_stands cpu memory h)

  budget_is : (i : ℕ) → is_budget (board_after cs cpu memory).registry i ≡ true
      → registry_history.Agrees (account_of (board_after cs cpu memory).registry i) (budget_of (book_after cs cpu memory).objects i)
  budget_is i live = registry_history.budget_agrees (board_after cs cpu memory).registry (book_after cs cpu memory).objects stands.follows.objects i live

  line_is : (i : ℕ) → is_budget (board_after cs cpu memory).registry i ≡ true → line_of (board_after cs cpu memory) i ≡ figures_of (book_after cs cpu memory) i
  line_is i live = registry_history.agrees_line _ _ (budget_is i live)

-- Demand 3.
pub demand3 : (cs : List Call) (cpu memory : ℕ) → cpu ≤ period → AllFit cs → Demand3 cs cpu memory
demand3 cs cpu memory h fits = record {
  live = registry_history.live_same (board_after cs cpu memory).registry (book_after cs cpu memory).objects (stands cs cpu memory h fits).follows.objects;
  lines = line_is cs cpu memory h fits;
  differences = λ i live. registry_history.agrees_differences _ _ (budget_is cs cpu memory h fits i live);
  equal = λ cs' cpu' memory' h' fits' i live live'.
      let e = line_is cs cpu memory h fits i live in
      let e' = line_is cs' cpu' memory' h' fits' i live' in
      (λ q. sym e ∙ q ∙ e', λ q. e ∙ q ∙ sym e');
  totals = λ i. let S = stands cs cpu memory h fits in totals_same (board_after cs cpu memory).registry (book_after cs cpu memory).objects S.follows.objects i S.sound.registry;
  plannings = λ front rest n q accepted.
      let S = stands front cpu memory h (all_fit front (plan n ∷ rest) (rw q at fits)) in
      planned n (board_after front cpu memory) (book_after front cpu memory) S.sound S.follows accepted;
}
