-- Demand 3 sentence by sentence: each theorem is one clause of the demand, with the fields and numbers written out, and is drawn from `demand3`. A claim that said less
-- would be refused here. Assumes nothing.
use Rattle.std.specs.Prelude.{◌≡◌, refl, Bool, true, false, cond, ◌&&◌, List, [], ◌∷◌, ◌++◌, ℕ, ◌+◌, ◌-◌, ◌*◌, ◌≤◌, eqb, ltb, leb, Option, Some, None, option_map}
use Rattle.std.proofs.Common.{sym, ap, subst, ◌∙◌, arith, eqb-true, eq-eqb, leb-true, leb-false, le-leb}
use Rattle.std.proofs.lemmas.Bool.{false≢true, lt-leb}
use Rattle.carv_area.specs.Table.{Row, at}
use Rattle.carv_area.specs.Laws.Table.{test}
use Rattle.carv_budget.specs.declared.Account.{Account}
use Rattle.carv_objects_spec.specs.declared.kind.Kind.TheVariants as kinds
use Rattle.carv_objects_spec.specs.declared.Entry.{Entry}
use Rattle.carv_objects_spec.specs.Registry.{account_of}
use Rattle.carv_objects_spec.specs.Book as objects
use Rattle.carv_objects_spec.specs.Book.{Budget, budget_of}
use Rattle.carv_objects_spec.proofs.Laws.Sentences.{Line, SameLine, SameFigures, Live, line_told, same_line_told, same_line_shown, same_figures_told, same_figures_shown, is_live_budget, read_told, live_in_book, live_in_registry}
use Rattle.carv_scheduler_spec.specs.declared.State.{State}
use Rattle.carv_scheduler_spec.specs.declared.State.TheVariants.{Inactive, Ready, Running, Blocked, Dead}
use Rattle.carv_scheduler_spec.specs.declared.Spaces.{Spaces}
use Rattle.carv_scheduler_spec.specs.declared.Thread.{Thread}
use Rattle.carv_scheduler_spec.specs.Scheduler.{Board, BoardReply, running, is, no_switch, switch, or_fresh, opening}
use Rattle.carv_scheduler_spec.specs.Sound.{member}
use Rattle.carv_scheduler_spec.specs.Book as book
use Rattle.carv_scheduler_spec.specs.Book.{Book, Call, plan, put_back}
use Rattle.carv_scheduler_spec.specs.Runs.{run, after, numbers, write_all, book_after, AllFit}
use Rattle.carv_scheduler_spec.specs.Demand3.{time_left, NoneLeft, Planned}
use Rattle.carv_scheduler_spec.proofs.Laws.Reading.{or_true}
use Rattle.carv_scheduler_spec.proofs.Laws.History.{after_stands, opening_stands}
use Rattle.carv_scheduler_spec.proofs.Laws.Demand3.{demand3, time_direct, all_fit}

-- Lists: each call is made on the board that the one before left, and the book is written from the call and its refusal number.

pub first_made : (c : Call) (cs : List Call) (b : Board) → after (c ∷ cs) b ≡ after cs (run c b).after
first_made c cs b = refl

pub first_written : (c : Call) (cs : List Call) (b : Board) (k : Book)
    → write_all (numbers (c ∷ cs) b) k ≡ write_all (numbers cs (run c b).after) (book.write c (run c b).number k)
first_written c cs b k = refl

pub book_opened : (cs : List Call) (cpu memory : ℕ) → book_after cs cpu memory ≡ write_all (numbers cs (opening cpu memory)) (book.opening cpu memory)
book_opened cs cpu memory = refl

-- "Each live budget's line is the book's four figures", and the live budgets are the same. `Line` has the fields written out.
module _ (cs : List Call) (cpu memory : ℕ) (h : cpu ≤ 10_000_000) (fits : AllFit cs) (i : ℕ) where
  pub budget_in_book : (e : Entry) → at (after cs (opening cpu memory)).registry.rows i ≡ Some e → e.kind ≡ kinds.Budget
      → (b : Budget) × Live (after cs (opening cpu memory)).registry (book_after cs cpu memory).objects i e.account b
  budget_in_book = live_in_book (after cs (opening cpu memory)).registry (book_after cs cpu memory).objects i ((demand3 cs cpu memory h fits).live i)

  pub budget_on_board : (b : Budget) → at (book_after cs cpu memory).objects.budgets i ≡ Some b
      → (a : Account) × Live (after cs (opening cpu memory)).registry (book_after cs cpu memory).objects i a b
  budget_on_board = live_in_registry (after cs (opening cpu memory)).registry (book_after cs cpu memory).objects i ((demand3 cs cpu memory h fits).live i)

  pub line_is : {a : Account} {b : Budget} → Live (after cs (opening cpu memory)).registry (book_after cs cpu memory).objects i a b → Line a b
  line_is L =
      let r = (after cs (opening cpu memory)).registry in
      let k = (book_after cs cpu memory).objects in
      let live = is_live_budget r k i L in
      read_told r k i Line L (line_told ((demand3 cs cpu memory h fits).lines i live) ((demand3 cs cpu memory h fits).differences i live))

-- "Two lists leave a budget equal lines exactly when these figures agree."
module _ (cs : List Call) (cpu memory : ℕ) (h : cpu ≤ 10_000_000) (fits : AllFit cs) (cs' : List Call) (cpu' memory' : ℕ) (h' : cpu' ≤ 10_000_000) (fits' : AllFit cs')
    (i : ℕ) {a a' : Account} {b b' : Budget} (L : Live (after cs (opening cpu memory)).registry (book_after cs cpu memory).objects i a b)
    (L' : Live (after cs' (opening cpu' memory')).registry (book_after cs' cpu' memory').objects i a' b') where
  pub equal_told : (SameLine a a' → SameFigures b b') × (SameFigures b b' → SameLine a a')
  equal_told =
      let r = (after cs (opening cpu memory)).registry in
      let k = (book_after cs cpu memory).objects in
      let r' = (after cs' (opening cpu' memory')).registry in
      let k' = (book_after cs' cpu' memory').objects in
      let E = (demand3 cs cpu memory h fits).equal cs' cpu' memory' h' fits' i (is_live_budget r k i L) (is_live_budget r' k' i L') in
      read_told r k i (λ x y. (SameLine x a' → SameFigures y b') × (SameFigures y b' → SameLine x a')) L
      (read_told r' k' i (λ x y. (SameLine (account_of r i) x → SameFigures (budget_of k i) y) × (SameFigures (budget_of k i) y → SameLine (account_of r i) x)) L'
      (λ s. same_figures_told (E.0 (same_line_shown s)), λ s. same_line_told (E.1 (same_figures_shown s))))

-- Plannings.

-- what a budget of the book has left at a time, once it is renewed: a renewal that is due, a period of 10,000,000 after the start, leaves all that is not reserved
abbrev pub left_at : (time : ℕ) → Budget → ℕ
left_at time b =
    cond (leb (b.start + 10_000_000) time) (b.cpu_allowance - (b.carved_cpu - b.returned_cpu)) (b.cpu_allowance - b.noted_cpu - b.taken_cpu)

-- "a thread has time left: no budget, or a live one whose fourth figure is above 0"
abbrev pub budget_left : (time : ℕ) → Option Budget → Bool
budget_left time None = false
budget_left time (Some b) = ltb 0 (left_at time b)

abbrev pub id_left : (time : ℕ) → List (Row Budget) → Option ℕ → Bool
id_left time m None = true
id_left time m (Some c) = budget_left time (at m c)

-- an id without a thread, which no queue holds, reads as one without a budget
abbrev pub thread_left : (time : ℕ) → List (Row Budget) → Option book.Thread → Bool
thread_left time m None = true
thread_left time m (Some t) = id_left time m t.budget

abbrev pub has_left : (time : ℕ) → Book → ℕ → Bool
has_left time k i = thread_left time k.objects.budgets (at k.threads i)

-- "a planning puts back a running current thread other than idle"
abbrev pub queue_of : Book → List ℕ
queue_of k = cond (eqb k.current 18_446_744_073_709_551_615) k.queue (cond k.runs (k.queue ++ (k.current ∷ [])) k.queue)

renew_left : (time : ℕ) (b : Budget) → objects.cpu_left (objects.renew time b) ≡ left_at time b
renew_left time b = test (leb (b.start + 10_000_000) time)
    (λ y. let x = leb-true (b.start + 10_000_000) time y in
    rw (y, le-leb b.start time (omega arith), le-leb 10_000_000 (time - b.start) (omega arith)) (omega arith))
    (λ n. let x = leb-false (b.start + 10_000_000) time n in
    test (leb b.start time)
    (λ s. let z = leb-true b.start time s in rw (n, s, lt-leb 10_000_000 (time - b.start) (omega arith)))
    (λ s. rw (n, s)))

id_left_is : (time : ℕ) (o : objects.Book) (p : Option ℕ) → book.has_time p (book.renew_for time p o) ≡ id_left time o.budgets p
id_left_is time o None = refl
id_left_is time o (Some c) = time_direct time c o ∙ go (at o.budgets c)
  where
    go : (x : Option Budget) → (objects.is_some x && ltb 0 (objects.cpu_left (objects.renew time (objects.or_no_budget x)))) ≡ budget_left time x
    go None = refl
    go (Some b) = ap (λ (n : ℕ). ltb 0 n) (renew_left time b)

left_is : (time : ℕ) (k : Book) (i : ℕ) → time_left time k i ≡ has_left time k i
left_is time k i = go (at k.threads i)
  where
    go : (t : Option book.Thread)
        → book.has_time (book.or_none t).budget (book.renew_for time (book.or_none t).budget k.objects) ≡ thread_left time k.objects.budgets t
    go None = refl
    go (Some t) = id_left_is time k.objects t.budget

queue_is : (k : Book) → put_back k ≡ queue_of k
queue_is k = test (eqb k.current 18_446_744_073_709_551_615) (λ a. rw a) (λ a. rw a)

-- j stands in this list
in_parts : (front behind : List ℕ) (j : ℕ) → member j (front ++ (j ∷ behind)) ≡ true
in_parts [] behind j = rw (eq-eqb j j refl)
in_parts (i ∷ front) behind j = or_true (eqb i j) (in_parts front behind j)

parts_of : (q : List ℕ) (j : ℕ) → member j q ≡ true → (front : List ℕ) × (behind : List ℕ) × (q ≡ front ++ (j ∷ behind))
parts_of [] j m = absurd (false≢true m)
parts_of (i ∷ q) j m = test (eqb i j)
    (λ e. ([], q, ap (λ (x : ℕ). x ∷ q) (eqb-true i j e)))
    (λ e. let (front, behind, p) = parts_of q j (rw e at m) in (i ∷ front, behind, ap (λ (l : List ℕ). i ∷ l) p))

-- none of a list has time left at a time, by the book
abbrev pub NoneHasLeft : (time : ℕ) → Book → List ℕ → Type 0
NoneHasLeft time k q = (front behind : List ℕ) (j : ℕ) → q ≡ front ++ (j ∷ behind) → has_left time k j ≡ false

-- a planning of tick n after a list of calls
abbrev pub planning : List Call → (cpu memory n : ℕ) → BoardReply
planning cs cpu memory n = run (plan n) (after cs (opening cpu memory))

-- the current thread before it, and after it
abbrev pub old : List Call → (cpu memory : ℕ) → ℕ
old cs cpu memory = (after cs (opening cpu memory)).current

abbrev pub new : List Call → (cpu memory n : ℕ) → ℕ
new cs cpu memory n = (planning cs cpu memory n).after.current

runs_only : (x : State) → running x ≡ true → x ≡ Running
runs_only Running h = refl
runs_only Inactive h = absurd (false≢true h)
runs_only Ready h = absurd (false≢true h)
runs_only (Blocked w) h = absurd (false≢true h)
runs_only Dead h = absurd (false≢true h)

-- Wherever a list has a planning, here after `cs`, that is accepted.
module _ (cs rest : List Call) (cpu memory n : ℕ) (h : cpu ≤ 10_000_000) (fits : AllFit (cs ++ (plan n ∷ rest))) (accepted : (planning cs cpu memory n).number ≡ 0) where
  planned : Planned n (book_after cs cpu memory) (planning cs cpu memory n)
  planned = (demand3 (cs ++ (plan n ∷ rest)) cpu memory h fits).plannings cs rest n refl accepted

  same_current : old cs cpu memory ≡ (book_after cs cpu memory).current
  same_current = (after_stands cs (opening cpu memory) (book.opening cpu memory) (all_fit cs (plan n ∷ rest) fits) (opening_stands cpu memory h)).follows.current

  none_told : (q : List ℕ) → NoneLeft (time_left (n * 1_000_000) (book_after cs cpu memory)) q → NoneHasLeft (n * 1_000_000) (book_after cs cpu memory) q
  none_told q N front behind j p = sym (left_is (n * 1_000_000) (book_after cs cpu memory) j) ∙ N j (ap (member j) p ∙ in_parts front behind j)

  none_shown : (q : List ℕ) → NoneHasLeft (n * 1_000_000) (book_after cs cpu memory) q → NoneLeft (time_left (n * 1_000_000) (book_after cs cpu memory)) q
  none_shown q N j m = let (front, behind, p) = parts_of q j m in left_is (n * 1_000_000) (book_after cs cpu memory) j ∙ N front behind j p

  -- "becomes current and runs": by the book, and on the board, where it is in state Running
  pub book_runs : new cs cpu memory n ≡ (book.write (plan n) 0 (book_after cs cpu memory)).current
  book_runs = planned.chosen

  pub runs : (t : Thread) × (at (planning cs cpu memory n).after.threads (new cs cpu memory n) ≡ Some t) × (t.state ≡ Running)
  runs = go (at (planning cs cpu memory n).after.threads (new cs cpu memory n)) refl
    where
      go : (o : Option Thread) → at (planning cs cpu memory n).after.threads (new cs cpu memory n) ≡ o
          → (t : Thread) × (at (planning cs cpu memory n).after.threads (new cs cpu memory n) ≡ Some t) × (t.state ≡ Running)
      go None q = absurd (false≢true (sym (ap (λ (o : Option Thread). is running (or_fresh o)) q) ∙ planned.runs))
      go (Some t) q = (t, q, runs_only t.state (sym (ap (λ (o : Option Thread). is running (or_fresh o)) q) ∙ planned.runs))

  -- "each accepted planning runs the thread ready longest among those with time left": it stands in the queue and has time left, and none in front of it has
  pub ready_longest : (new cs cpu memory n ≡ 18_446_744_073_709_551_615 → ⊥)
      → (front : List ℕ) × (behind : List ℕ)
      × (queue_of (book_after cs cpu memory) ≡ front ++ (new cs cpu memory n ∷ behind))
      × (has_left (n * 1_000_000) (book_after cs cpu memory) (new cs cpu memory n) ≡ true)
      × NoneHasLeft (n * 1_000_000) (book_after cs cpu memory) front
  ready_longest d =
      let L = planned.longest d in (
        L.front,
        L.behind,
        sym (queue_is (book_after cs cpu memory)) ∙ L.place,
        sym (left_is (n * 1_000_000) (book_after cs cpu memory) (new cs cpu memory n)) ∙ L.has_time,
        none_told L.front L.passed_over,
      )

  -- "idle exactly when there is none"
  pub none_where_idle : new cs cpu memory n ≡ 18_446_744_073_709_551_615 → NoneHasLeft (n * 1_000_000) (book_after cs cpu memory) (queue_of (book_after cs cpu memory))
  none_where_idle q =
      subst (NoneHasLeft (n * 1_000_000) (book_after cs cpu memory)) (queue_is (book_after cs cpu memory))
      (none_told (put_back (book_after cs cpu memory)) (planned.none_left q))

  pub idle_where_none : NoneHasLeft (n * 1_000_000) (book_after cs cpu memory) (queue_of (book_after cs cpu memory)) → new cs cpu memory n ≡ 18_446_744_073_709_551_615
  idle_where_none N =
      planned.idle_runs (none_shown (put_back (book_after cs cpu memory))
      (subst (NoneHasLeft (n * 1_000_000) (book_after cs cpu memory)) (sym (queue_is (book_after cs cpu memory))) N))

  -- "answers "no switch" exactly when the one run was current already"
  pub no_switch_where_same : new cs cpu memory n ≡ old cs cpu memory → (planning cs cpu memory n).value ≡ Some no_switch
  no_switch_where_same q = planned.stays (q ∙ same_current)

  pub same_where_no_switch : (planning cs cpu memory n).value ≡ Some no_switch → new cs cpu memory n ≡ old cs cpu memory
  same_where_no_switch q = planned.stayed q ∙ sym same_current

  -- "else a switch from the old id to the new", with the new thread's root, or the kernel's where it has none
  pub else_a_switch : (new cs cpu memory n ≡ old cs cpu memory → ⊥) → (t : Thread) → at (planning cs cpu memory n).after.threads (new cs cpu memory n) ≡ Some t
      → (planning cs cpu memory n).value ≡ Some (switch (old cs cpu memory) (new cs cpu memory n) (option_map (λ (s : Spaces). s.root) t.spaces))
  else_a_switch d t here =
      planned.switches (λ q. d (q ∙ sym same_current))
      ∙ ap (λ (c : ℕ). Some (switch c (new cs cpu memory n) (root (at (planning cs cpu memory n).after.threads (new cs cpu memory n))))) (sym same_current)
      ∙ ap (λ (o : Option Thread). Some (switch (old cs cpu memory) (new cs cpu memory n) (root o))) here
    where
      root : Option Thread → Option ℕ
      root o = option_map (λ (s : Spaces). s.root) (or_fresh o).spaces
