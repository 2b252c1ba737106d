-- P3: in every history whose clock values never fall, no period is overspent. Each call keeps the invariant of carv_objects_spec/proofs/Laws/Spending.antt. Assumes nothing.
use Rattle.std.specs.Prelude.{◌≡◌, refl, Bool, true, false, cond, not, ◌&&◌, ◌||◌, List, [], ◌∷◌, ◌++◌, map, ℕ, ◌*◌, ◌≤◌, ◌<◌, eqb, ltb, length, Option, Some, None}
use Rattle.std.proofs.Common.{sym, ◌∙◌, ap, subst, arith, ne_eqb}
use Rattle.carv_area.specs.Laws.Table
use Rattle.carv_area.specs.Table.{Row, at, pick, alter}
use Rattle.carv_area.specs.Laws.Table.{test}
use Rattle.carv_budget.specs.Account as account
use Rattle.carv_budget.specs.Account.{period}
use Rattle.carv_objects_spec.proofs.Laws.Asked.{asked}
use Rattle.carv_objects_spec.specs.declared.Entry.{Entry}
use Rattle.carv_objects_spec.specs.Registry.{Registry, is_budget, account_of}
use Rattle.carv_objects_spec.specs.Book as objects
use Rattle.carv_objects_spec.proofs.Laws.History as registry_history
use Rattle.carv_objects_spec.proofs.Laws.SoundFacts as registry_facts
use Rattle.carv_objects_spec.proofs.Laws.Kept as registry_calls
use Rattle.carv_objects_spec.specs.Ledger as objects_ledger
use Rattle.carv_objects_spec.specs.Ledger.{Carved, Ledger, under, spent, NoneOverspent, NeverFall}
use Rattle.carv_objects_spec.proofs.Laws.Spending.{after_clock}
use Rattle.carv_objects_spec.proofs.Laws.Listed as spending
use Rattle.carv_objects_spec.proofs.Laws.Listed.{Falling, InOrder}
use Rattle.carv_objects_spec.proofs.Laws.LedgerWithin.{under_is_within}
use Rattle.carv_scheduler_spec.specs.declared.Results.{Results}
use Rattle.carv_scheduler_spec.specs.declared.Thread.{Thread}
use Rattle.carv_scheduler_spec.specs.Scheduler as scheduler
use Rattle.carv_scheduler_spec.specs.Scheduler.{Board, BoardReply, idle, tick_ns, inactive, running, blocked, is, is_due, results, thread, has, ticked, with_registry, with_threads, opening}
use Rattle.carv_scheduler_spec.proofs.Laws.SoundFacts.{Sound}
use Rattle.carv_scheduler_spec.proofs.Laws.Steps.{renew_for_kept}
use Rattle.carv_scheduler_spec.proofs.Laws.Reading.{neither}
use Rattle.carv_scheduler_spec.specs.Book as book
use Rattle.carv_scheduler_spec.specs.Book.{Book, Call, on_objects, create_user_thread, start, block_current, wake, is_blocked_on, kill, tick, plan, read_thread, read_current, read_switches, exit_of, write}
use Rattle.carv_scheduler_spec.specs.Runs.{run, after, Numbered, numbers, Fits, AllFit}
use Rattle.carv_scheduler_spec.proofs.Laws.Following.{FollowsBoard}
use Rattle.carv_scheduler_spec.proofs.Laws.History.{Stands, kept, write_follows, opening_stands}
use Rattle.carv_scheduler_spec.specs.Demand3.{board_after}
use Rattle.carv_scheduler_spec.specs.Ledger.{note_tick, note, note_all, ledger_after, clock, moving_clock, ClockNeverFalls, MovingClockNeverFalls, EverLive}
use Rattle.carv_scheduler_spec.proofs.Laws.Demand1.{stays_unless_12}
use Rattle.carv_scheduler_spec.proofs.Laws.Noted.{note_adds}

-- the registry that a call leaves is in order with the ledger
abbrev StaysInOrder : Ledger → (t : ℕ) → BoardReply → Type 0
StaysInOrder l t a = InOrder a.after.registry l t

-- A tick.

wake_left : (i : ℕ) (r : Results) (b : Board) → (scheduler.wake i r b).after.registry ≡ b.registry
wake_left i r b =
    asked (λ (a : BoardReply). a.after.registry ≡ b.registry) (has b.threads i) refl λ h.
    asked (λ (a : BoardReply). a.after.registry ≡ b.registry) (is blocked (thread b.threads i)) refl λ k. refl

wake_all_left : (is : List ℕ) (b : Board) → (scheduler.wake_all is b).registry ≡ b.registry
wake_all_left [] b = refl
wake_all_left (i ∷ is) b = wake_all_left is (scheduler.wake i (results 0 0 0) b).after ∙ wake_left i (results 0 0 0) b

charge_tick_in_order : (time : ℕ) (p : Option ℕ) (r : Registry) (k : objects.Book) (l : Ledger) → registry_facts.Sound r → registry_history.FollowsRegistry r k → InOrder r l time
    → InOrder (scheduler.charge_tick time p r) (note_tick time p k l) time
charge_tick_in_order time None r k l s F O = O
charge_tick_in_order time (Some p) r k l s F O = test (is_budget r p)
    (λ live. let (e, B) = registry_calls.live_budget r p live in
    let sound = subst (λ (x : Entry). account.sound x.account ≡ true) (sym B.read) (registry_calls.budget_sound s B) in
    let G = registry_history.renew_agrees (account_of r p) (objects.budget_of k p) time sound (registry_history.budget_agrees r k F p live) in
    let q : (account.renew (account_of r p) time).cpu_left ≡ objects.cpu_left (objects.renew time (objects.budget_of k p)) = omega (arith, G.left) in
    let O' = spending.charge_most_in_order r l p tick_ns time s live O in
    rw (registry_history.live_same r k F p, live, ← q) (rw live at O'))
    (λ live. rw (registry_history.live_same r k F p, live) O)

-- A planning.

renew_for_in_order : (time : ℕ) (p : Option ℕ) (r : Registry) (l : Ledger) → registry_facts.Sound r → InOrder r l time → InOrder (scheduler.renew_for time p r) l time
renew_for_in_order time None r l s O = O
renew_for_in_order time (Some p) r l s O = registry_calls.refill_cases (λ x. InOrder x.after l time) p time r (λ q h. O) λ e B. spending.renew_in_order r l p time e s B O

choose_in_order : (time : ℕ) (m : List (Row Thread)) (q : List ℕ) (r : Registry) (l : Ledger) → registry_facts.Sound r → InOrder r l time
    → InOrder (scheduler.choose time m q r).registry l time
choose_in_order time m [] r l s O = O
choose_in_order time m (i ∷ q) r l s O =
    let p = (thread m i).budget in
    let r' = scheduler.renew_for time p r in
    let O' = renew_for_in_order time p r l s O in
    test (has m i && scheduler.has_time p r')
    (λ a. rw a O')
    (λ a. rw a (choose_in_order time m q r' l (renew_for_kept time p r s) O'))

put_back_left : (b : Board) → (scheduler.put_back b).registry ≡ b.registry
put_back_left b = test (not (eqb b.current idle) && is running (thread b.threads b.current)) (λ a. rw a) (λ a. rw a)

-- Each call.

tick_in_order : (n : ℕ) (b : Board) (k : Book) (l : Ledger) (T : ℕ) → Sound b → FollowsBoard b k → T ≤ n * tick_ns → InOrder b.registry l T
    → InOrder (run (tick n) b).after.registry (note (tick n) (run (tick n) b).number k l) (n * tick_ns)
tick_in_order n b k l T s F h O =
    let time = n * tick_ns in
    let p = (thread b.threads b.current).budget in
    let O' = spending.clock_in_order b.registry l T time h O in
    asked (λ a. InOrder a.after.registry (note (tick n) a.number k l) time) (scheduler.tick_fits n) O' λ fits.
    rw (wake_all_left (pick (is_due n) b.threads) (with_registry (scheduler.charge_tick time p b.registry) (with_threads (alter b.current ticked b.threads) b.queue b)))
    (rw (← F.current, ← (F.budgets b.current s.current_here).budget) (charge_tick_in_order time p b.registry k.objects l s.registry F.objects O'))

plan_in_order : (n : ℕ) (b : Board) (l : Ledger) (T : ℕ) → Sound b → T ≤ n * tick_ns → InOrder b.registry l T → InOrder (run (plan n) b).after.registry l (n * tick_ns)
plan_in_order n b l T s h O =
    let time = n * tick_ns in
    let O' = spending.clock_in_order b.registry l T time h O in
    asked (StaysInOrder l time) (scheduler.tick_fits n) O' λ fits.
    choose_in_order time (scheduler.put_back b).threads (scheduler.put_back b).queue (scheduler.put_back b).registry l
    (subst registry_facts.Sound (sym (put_back_left b)) s.registry) (subst (λ (r : Registry). InOrder r l time) (sym (put_back_left b)) O')

pub call_in_order : (c : Call) (b : Board) (k : Book) (l : Ledger) (T : ℕ) → Sound b → FollowsBoard b k → T ≤ after_clock T (clock c) → InOrder b.registry l T
    → InOrder (run c b).after.registry (note c (run c b).number k l) (after_clock T (clock c))
call_in_order (on_objects c) b k l T s F h O = rw (← F.objects.next) (spending.call_in_order c b.registry l T s.registry h O)
call_in_order (create_user_thread i budget stack) b k l T s F h O =
    asked (StaysInOrder l T) (not (has b.threads i)) O λ h.
    asked (StaysInOrder l T) (not (eqb i 0)) O λ n.
    asked (StaysInOrder l T) (not (eqb i idle)) O λ k.
    asked (StaysInOrder l T) (ltb (length b.threads) 128) O λ room.
    asked (StaysInOrder l T) stack O λ backing. O
call_in_order (start i space cspace root context) b k l T s F h O =
    asked (StaysInOrder l T) (has b.threads i) O λ h.
    asked (StaysInOrder l T) (is inactive (thread b.threads i)) O λ k. O
call_in_order (block_current kind number) b k l T s F h O =
    asked (StaysInOrder l T) (scheduler.wait_listed kind) O λ h.
    asked (StaysInOrder l T) (is running (thread b.threads b.current)) O λ k.
    asked (StaysInOrder l T) (not (eqb b.current idle)) O λ n. O
call_in_order (wake i r) b k l T s F h O = rw (wake_left i r b) O
call_in_order (is_blocked_on i kind number) b k l T s F h O = asked (StaysInOrder l T) (scheduler.wait_listed kind) O λ h. O
call_in_order (kill i cause) b k l T s F h O =
    asked (StaysInOrder l T) (scheduler.cause_listed cause) O λ h.
    asked (StaysInOrder l T) (not (eqb i idle)) O λ k.
    asked (StaysInOrder l T) (has b.threads i) O λ n. O
call_in_order (tick n) b k l T s F h O = tick_in_order n b k l T s F h O
call_in_order (plan n) b k l T s F h O = plan_in_order n b l T s h O
call_in_order (read_thread i) b k l T s F h O = asked (StaysInOrder l T) (has b.threads i) O λ h. O
call_in_order read_current b k l T s F h O = O
call_in_order read_switches b k l T s F h O = O
call_in_order (exit_of i) b k l T s F h O = O

-- clock values that never fall, the first of them and the others
first_of : (T : ℕ) (o : Option ℕ) (ts : List (Option ℕ)) → NeverFall T (o ∷ ts) → (T ≤ after_clock T o) × NeverFall (after_clock T o) ts
first_of T None ts h = (omega arith, h)
first_of T (Some t) ts h = h

-- Lists of calls.

-- A call that is refused with another number than 12 leaves the board and the ledger as they were, whatever its clock value.

pub accepted_only : (c : Call) (number : ℕ) (k : Book) (l : Ledger) → eqb number 0 ≡ false → note c number k l ≡ l
accepted_only (on_objects c) number k l h = rw h
accepted_only (create_user_thread i budget stack) number k l h = refl
accepted_only (start i space cspace root context) number k l h = refl
accepted_only (block_current kind n) number k l h = refl
accepted_only (wake i r) number k l h = refl
accepted_only (is_blocked_on i kind n) number k l h = refl
accepted_only (kill i cause) number k l h = refl
accepted_only (tick n) number k l h = rw h
accepted_only (plan n) number k l h = refl
accepted_only (read_thread i) number k l h = refl
accepted_only read_current number k l h = refl
accepted_only read_switches number k l h = refl
accepted_only (exit_of i) number k l h = refl

-- the clock value that counts, of a call on a board
abbrev counted : Call → Board → Option ℕ
counted c b = moving_clock (record { call = c; number = (run c b).number })

-- the step of a list
module _ (c : Call) (b : Board) (k : Book) (l : Ledger) (T : ℕ) (fits : Fits c) (rise : T ≤ after_clock T (counted c b)) (S : Stands b k) (O : InOrder b.registry l T) where
  next_stands : Stands (run c b).after (write c (run c b).number k)
  next_stands = record { sound = kept c b fits S.sound; follows = write_follows c b k fits S.sound S.follows }

  next_in_order : InOrder (run c b).after.registry (note c (run c b).number k l) (after_clock T (counted c b))
  next_in_order = test (eqb (run c b).number 0 || eqb (run c b).number 12)
      (λ m. rw m (call_in_order c b k l T S.sound S.follows (rw m at rise) O))
      (λ m. let (not_0, not_12) = neither (eqb (run c b).number 0) (eqb (run c b).number 12) m in
      let stays : (run c b).after ≡ b = stays_unless_12 c b not_0 not_12 in
      rw (m, accepted_only c (run c b).number k l not_0, stays) O)

-- after a list of calls the ledger is in order, at some clock value
after_in_order : (cs : List Call) (b : Board) (k : Book) (l : Ledger) (T : ℕ) → AllFit cs → NeverFall T (map moving_clock (numbers cs b)) → Stands b k → InOrder b.registry l T
    → (t : ℕ) × InOrder (after cs b).registry (note_all (numbers cs b) k l) t
after_in_order [] b k l T fits rise S O = (T, O)
after_in_order (c ∷ cs) b k l T fits rise S O =
    let (now, later) = first_of T (counted c b) (map moving_clock (numbers cs (run c b).after)) rise in
    after_in_order cs (run c b).after (write c (run c b).number k) (note c (run c b).number k l) (after_clock T (counted c b)) fits.1 later
    (next_stands c b k l T fits.0 now S O) (next_in_order c b k l T fits.0 now S O)

-- A ledger's budgets stay in it: others come in front of them.

data Extends (m : List (Row Carved)) : List (Row Carved) → Type 0 where
  as_it_was : Extends m m
  one_more : (x : Row Carved) (m' : List (Row Carved)) → Extends m m' → Extends m (x ∷ m')

both_extend : (l m n : List (Row Carved)) → Extends l m → Extends m n → Extends l n
both_extend l m _ e as_it_was = e
both_extend l m _ e (one_more x n f) = one_more x n (both_extend l m n e f)

front_extends : (l m : List (Row Carved)) → Extends m (l ++ m)
front_extends [] m = as_it_was
front_extends (x ∷ l) m = one_more x (l ++ m) (front_extends l m)

note_extends : (c : Call) (number : ℕ) (k : Book) (l : Ledger) → Extends l.budgets (note c number k l).budgets
note_extends c number k l = let A = note_adds c number k l in rw A.budgets (front_extends A.carved l.budgets)

all_extend : (ns : List Numbered) (k : Book) (l : Ledger) → Extends l.budgets (note_all ns k l).budgets
all_extend [] k l = as_it_was
all_extend (n ∷ ns) k l =
    both_extend l.budgets (note n.call n.number k l).budgets _ (note_extends n.call n.number k l)
    (all_extend ns (write n.call n.number k) (note n.call n.number k l))

-- so a budget's row stays the first of its id, and what it is under stays
module _ (m : List (Row Carved)) (i : ℕ) (c : Carved) (here : at m i ≡ Some c) where
  still_there : (m' : List (Row Carved)) → Extends m m' → Falling m' → at m' i ≡ Some c
  still_there _ as_it_was f = here
  still_there _ (one_more x m' e) f =
      let there = still_there m' e f.1 in
      let low = Table.at_all (λ j d. j < x.id) m' f.0 i c there in
      rw (ne_eqb x.id i (λ q. omega arith)) there

  still_under : (b : ℕ) (m' : List (Row Carved)) → Extends m m' → Falling m' → under m' b i ≡ under m b i
  still_under b _ as_it_was f = refl
  still_under b _ (one_more x m' e) f =
      let low = Table.at_all (λ j d. j < x.id) m' f.0 i c (still_there m' e f.1) in
      rw (ne_eqb x.id i (λ q. omega arith)) (still_under b m' e f.1)

-- a budget that is live after the front of a list
ever_live : (front rest : List Call) (b : Board) (k : Book) (l : Ledger) (T : ℕ) → AllFit (front ++ rest) → NeverFall T (map moving_clock (numbers (front ++ rest) b)) → Stands b k
    → InOrder b.registry l T → (i : ℕ) → is_budget (after front b).registry i ≡ true → EverLive (after front b).registry (note_all (numbers (front ++ rest) b) k l) i
ever_live [] rest b k l T fits rise S O i live =
    let r = b.registry in
    let (e, B) = registry_calls.live_budget r i live in
    let final = note_all (numbers rest b) k l in
    let (t, end) = after_in_order rest b k l T fits rise S O in
    let more = all_extend (numbers rest b) k l in
    let here = O.listed i e B.here B.kind in
    let there = still_there l.budgets i _ here final.budgets more end.falling in
    record {
      allowed = λ p. subst (λ (x : Entry). spent final p i ≤ x.account.cpu_allowance) (sym B.read)
          (Table.at_all (λ j x. (p : ℕ) → spent final p j ≤ x.allowance) final.budgets end.balanced.settled i _ there p);
      listed = there ∙ ap (λ (x : Entry). Some (record { parent = x.payer; allowance = x.account.cpu_allowance })) (sym B.read);
      below = λ c. still_under l.budgets i _ here c final.budgets more end.falling
          ∙ under_is_within r S.sound.registry l.budgets O.falling O.listed c i i e (omega arith) B;
    }
ever_live (c ∷ front) rest b k l T fits rise S O i live =
    let (now, later) = first_of T (counted c b) (map moving_clock (numbers (front ++ rest) (run c b).after)) rise in
    ever_live front rest (run c b).after (write c (run c b).number k) (note c (run c b).number k l) (after_clock T (counted c b)) fits.1 later
    (next_stands c b k l T fits.0 now S O) (next_in_order c b k l T fits.0 now S O) i live

-- P3, on the definitions.

module _ (cpu memory : ℕ) (h : cpu ≤ period) where
  opened : Stands (opening cpu memory) (book.opening cpu memory)
  opened = opening_stands cpu memory h

  opened_in_order : InOrder (opening cpu memory).registry (objects_ledger.opening cpu) 0
  opened_in_order = spending.opening_in_order cpu memory

  -- of every budget of the ledger: the root and each that was carved
  pub none_overspent : (cs : List Call) → AllFit cs → MovingClockNeverFalls (numbers cs (opening cpu memory)) → NoneOverspent (ledger_after cs cpu memory)
  none_overspent cs fits rise b x here p =
      let (t, O) = after_in_order cs (opening cpu memory) (book.opening cpu memory) (objects_ledger.opening cpu) 0 fits rise opened opened_in_order in
      Table.at_all (λ b x. (p : ℕ) → spent (ledger_after cs cpu memory) p b ≤ x.allowance) (ledger_after cs cpu memory).budgets O.balanced.settled b x here p

  -- of every budget that was ever live, that is, live after the front of the history, or after all of it
  pub no_period_overspent : (front rest : List Call) → AllFit (front ++ rest) → MovingClockNeverFalls (numbers (front ++ rest) (opening cpu memory))
      → (i : ℕ) → is_budget (board_after front cpu memory).registry i ≡ true → EverLive (board_after front cpu memory).registry (ledger_after (front ++ rest) cpu memory) i
  no_period_overspent front rest fits rise = ever_live front rest (opening cpu memory) (book.opening cpu memory) (objects_ledger.opening cpu) 0 fits rise opened opened_in_order

-- 02's words: no clock value of the list falls. Then those that count don't.

earlier_clock : (T t : ℕ) (ts : List (Option ℕ)) → T ≤ t → NeverFall t ts → NeverFall T ts
earlier_clock T t [] h f = tt
earlier_clock T t (None ∷ ts) h f = earlier_clock T t ts h f
earlier_clock T t (Some x ∷ ts) h f = (omega (arith, f.0), f.1)

fewer_clocks : (T : ℕ) (ns : List Numbered) → NeverFall T (map (λ (n : Numbered). clock n.call) ns) → NeverFall T (map moving_clock ns)
fewer_clocks T [] f = tt
fewer_clocks T (n ∷ ns) f = by (clock n.call) (eqb n.number 0 || eqb n.number 12) (λ t. fewer_clocks t ns) f
  where
    by : (o : Option ℕ) (b : Bool) → ((t : ℕ) → NeverFall t (map (λ (n : Numbered). clock n.call) ns) → NeverFall t (map moving_clock ns))
        → NeverFall T (o ∷ map (λ (n : Numbered). clock n.call) ns) → NeverFall T (cond b o None ∷ map moving_clock ns)
    by None true go f = go T f
    by None false go f = go T f
    by (Some t) true go f = (f.0, go t f.1)
    by (Some t) false go f = earlier_clock T t (map moving_clock ns) f.0 (go t f.1)

pub clock_moves : (ns : List Numbered) → ClockNeverFalls ns → MovingClockNeverFalls ns
clock_moves ns = fewer_clocks 0 ns
