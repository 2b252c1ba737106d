-- The demands over exported calls, sentence by sentence: each theorem is drawn from `demand1`, `demand2` or `demand3`, with the fields written out. A claim that said less would
-- be refused here. Beside them P1's, P2's, P3's and P12's sentences, which also rest on what is proved of the definitions, or speak of any sound area. Assumes nothing.
use Rattle.std.specs.Prelude.{◌≡◌, refl, Bool, true, false, cond, not, ◌&&◌, ◌||◌, List, [], ◌∷◌, ◌++◌, map, ℕ, ◌+◌, ◌-◌, ◌%◌, ◌<◌, ◌≤◌, eqb, leb, length, get_or, Option, Some, None, Result, Ok, Err}
use Rattle.std.proofs.Common.{sym, ap, subst, ◌∙◌, arith, eqb-true, eq-eqb, ne_eqb}
use Rattle.std.proofs.lemmas.List.Edits.{sets}
use Rattle.carv_area.specs.Table.{Row, at}
use Rattle.carv_area.specs.Laws.Table.{test}
use Rattle.carv_budget.specs.Account.{due}
use Rattle.carv_budget.proofs.Laws.Account.{first}
use Rattle.carv_budget.specs.Panics.{AllPass}
use Rattle.carv_objects_spec.specs.Registry.{account_of, entry, has, is_budget, payer_of, pays_for, Registry, remove}
use Rattle.carv_objects_spec.specs.Question15.{remove_asking_15}
use Rattle.carv_objects_spec.specs.Totals as reading
use Rattle.carv_objects_spec.specs.Reply.{without_answer}
use Rattle.carv_objects_spec.specs.Kinds.{is_budget_kind}
use Rattle.carv_objects_spec.specs.Rust as objects_rust
use Rattle.carv_objects_spec.specs.Kinds.{is_budget_kind}
use Rattle.carv_objects_spec.specs.Book as objects
use Rattle.carv_objects_spec.specs.Book.{Budget, Figures, budget_of, figures, is_live}
use Rattle.carv_objects_spec.specs.BookTotals.{summed, totals_of}
use Rattle.carv_objects_spec.specs.Within as objects_within
use Rattle.carv_objects_spec.specs.Ledger.{Carved, Charge, under, spent, NeverFall}
use Rattle.carv_objects_spec.proofs.Laws.Clock.{never_falls_shown}
use Rattle.carv_objects_spec.specs.Noted.{charged_to}
use Rattle.carv_objects_spec.proofs.Laws.Noted.{timed_each}
use Rattle.carv_objects_spec.specs.Demand1 as objects_demand1
use Rattle.carv_objects_spec.proofs.Laws.SoundLaws.{sound_shown}
use Rattle.carv_objects_spec.proofs.Laws.Question15 as question_15
use Rattle.carv_objects_spec.proofs.Laws.Totals.{memory_total, cpu_total, root_total}
use Rattle.carv_objects_spec.proofs.Laws.Removal as removal
use Rattle.carv_objects_spec.proofs.Laws.Removal.{Released, Credited, budget_removed, object_removed}
use Rattle.carv_objects.specs.declared.refusal.Refusal.{Refusal}
use Rattle.carv_objects_spec.specs.Panics as panics
use Rattle.carv_objects_spec.specs.Runs.{line}
use Rattle.carv_objects.specs.Answer.{number}
use Rattle.carv_scheduler.specs.Answer.{value}
use Rattle.carv_scheduler.specs.Area.{decode, sound_area}
use Rattle.carv_scheduler.specs.Laws.AreaLaws.{area_sound}
use Rattle.carv_register_image.specs.Image.{register_image}
use Rattle.carv_scheduler.specs.Image.{Filled}
use Rattle.carv_scheduler_spec.specs.Scheduler.{Board, BoardReply, Value, opening}
use Rattle.carv_scheduler_spec.specs.Book.{Call, on_objects, create_user_thread, start, block_current, wake, is_blocked_on, kill, tick, plan, read_thread, read_current, read_switches, exit_of}
use Rattle.carv_scheduler_spec.specs.Runs.{run, Numbered}
use Rattle.carv_scheduler_spec.specs.Ledger.{ledger_from, clock, moving_clock}
use Rattle.carv_scheduler_spec.specs.Rust as rust
use Rattle.carv_scheduler_spec.specs.Panics.{NoPanics}
use Rattle.carv_scheduler_spec.specs.Demand1.{renewal_left}
use Rattle.carv_scheduler_spec.proofs.Laws.Demand1.{leaves}
use Rattle.carv_scheduler_spec.specs.Demand2.{rust_run, in_rust}
use Rattle.carv_scheduler_spec.proofs.Laws.Demand2.{compared_after}
use Rattle.carv_scheduler_spec.specs.Demand3.{Planned}
use Rattle.carv.specs.C.{itself, reported, Opens, has_image, Made, Ensures, lent}
use Rattle.carv.specs.Demands.{Ran, last, GivenAs, GivenAsRust, AsRust, NoneAdded, AllWords, told, booked}
use Rattle.carv.specs.Overspending.{noted, WithinAllowances}
use Rattle.carv.proofs.Laws.Reporting.{totals_written}
use Rattle.carv.proofs.Laws.Demand1.{demand1}
use Rattle.carv.proofs.Laws.Demand2.{demand2}
use Rattle.carv.proofs.Laws.Demand3.{demand3}
use Rattle.carv.proofs.Laws.Overspending.{no_period_overspent, no_period_overspent_by_clock, charges_noted}

-- How a call is answered: the number, the values in the answer words, the board that the area says.
pub answered_as : (e : Made) (z : BoardReply) → GivenAs e z
    → (e.returned ≡ z.number) × ((x : Result (Option Value) Refusal) × (e.returned ≡ number x) × (value itself x ≡ z.value) × (e.words' ≡ reported itself x e.words))
    × (sound_area e.left ≡ true) × (decode e.left ≡ z.after)
answered_as e z g = (g.number, (g.answer, g.returned, g.value, g.written), g.area.sound, g.area.same)

-- three words written from the first on
three_set : (l : List ℕ) (x y z : ℕ) → 3 ≤ length l
    → (get_or (sets l 0 (x ∷ y ∷ z ∷ [])) 0 0 ≡ x) × (get_or (sets l 0 (x ∷ y ∷ z ∷ [])) 1 0 ≡ y) × (get_or (sets l 0 (x ∷ y ∷ z ∷ [])) 2 0 ≡ z)
three_set [] x y z h = absurd (omega arith)
three_set (p ∷ []) x y z h = absurd (omega arith)
three_set (p ∷ q ∷ []) x y z h = absurd (omega arith)
three_set (p ∷ q ∷ r ∷ l) x y z h = (refl, refl, refl)

-- Demand 1.

module _ (a : List ℕ) (e : Made) (h : Ensures a e) where
  -- "Every call that passes the questions .. leaves exactly the state that the rules give", on a sound area and with what it needs lent
  pub rules_followed : lent e ≡ true → sound_area a ≡ true → (e.returned ≡ (run e.call (decode a)).number) × (decode e.left ≡ (run e.call (decode a)).after)
  rules_followed y s = let g = (demand1.calls a e h).served y s in (g.number, g.area.same)

  -- "Every other call, a damaged state included, returns the number .. and changes nothing"
  pub damaged_refused : sound_area a ≡ false → lent e ≡ true → (e.returned ≡ 1) × (e.left ≡ a) × (e.words' ≡ e.words) × (e.image' ≡ e.image)
  damaged_refused s y = let u = (demand1.calls a e h).damaged y s in (u.number, u.area, u.words, u.image)

  -- "Are lent areas of their length?" Answer words and image
  pub wrong_length_refused : lent e ≡ false → (e.returned ≡ 1) × (e.left ≡ a) × (e.words' ≡ e.words) × (e.image' ≡ e.image)
  wrong_length_refused y = let u = (demand1.calls a e h).lengths y in (u.number, u.area, u.words, u.image)

  -- "An accepted creation fills the lent area", and nothing else touches it
  pub image_filled : lent e ≡ true → e.image' ≡ cond (has_image e.call && eqb e.returned 0) register_image e.image
  image_filled = (demand1.calls a e h).image

  -- a sound area of bytes that says the same board is this one, byte for byte
  pub bytes_fixed : lent e ≡ true → sound_area a ≡ true → ((i : ℕ) → get_or e.left i 0 < 256) → (b : List ℕ) → ((i : ℕ) → get_or b i 0 < 256) → sound_area b ≡ true
      → decode b ≡ (run e.call (decode a)).after → b ≡ e.left
  bytes_fixed y s x b x' sound same = (demand1.calls a e h).exact y s x b x' (record { sound = sound; same = same })

  module _ (n : e.returned ≡ 0 → ⊥) (x : (i : ℕ) → get_or a i 0 < 256) (x' : (i : ℕ) → get_or e.left i 0 < 256) where
    pub refused_writes_nothing : (e.words' ≡ e.words) × (e.image' ≡ e.image)
    refused_writes_nothing = let w = (demand1.calls a e h).refused n x x' in (w.words, w.image)

    pub refused_leaves_bytes : (e.returned ≡ 12 → ⊥) → e.left ≡ a
    refused_leaves_bytes d = ((demand1.calls a e h).refused n x x').area (no_renewal e.call e.returned (decode a) d)
      where
        of_registry : (c : objects.Call) (n : ℕ) (r : Registry) → (n ≡ 12 → ⊥) → objects_demand1.renewal_left c n r ≡ None
        of_registry (objects.create kind payer backing) n r d = refl
        of_registry (objects.insert kind payer bytes) n r d = refl
        of_registry (objects.create_budget parent cpu memory time) n r d = rw (ne_eqb n 12 d)
        of_registry (objects.charge_more i bytes) n r d = refl
        of_registry (objects.uncharge i bytes) n r d = refl
        of_registry (objects.remove i time) n r d = refl
        of_registry (objects.refill i time) n r d = refl
        of_registry (objects.charge_cpu i ns time) n r d = rw (ne_eqb n 12 d)
        of_registry (objects.pays_for_anything i) n r d = refl
        of_registry (objects.read_account i) n r d = refl
        of_registry (objects.charge_of i) n r d = refl
        of_registry (objects.read_totals i) n r d = refl

        no_renewal : (c : Call) (n : ℕ) (b : Board) → (n ≡ 12 → ⊥) → renewal_left c n b ≡ None
        no_renewal (on_objects c) n b d = of_registry c n b.registry d
        no_renewal (create_user_thread i budget stack) n b d = refl
        no_renewal (start i space cspace root context) n b d = refl
        no_renewal (block_current kind number) n b d = refl
        no_renewal (wake i r) n b d = refl
        no_renewal (is_blocked_on i kind number) n b d = refl
        no_renewal (kill i cause) n b d = refl
        no_renewal (tick m) n b d = refl
        no_renewal (plan m) n b d = refl
        no_renewal (read_thread i) n b d = refl
        no_renewal read_current n b d = refl
        no_renewal read_switches n b d = refl
        no_renewal (exit_of i) n b d = refl

    -- "save that a .. CPU charge refused after a renewal leaves that renewal"
    pub refused_charge_renews : (i ns time : ℕ) → e.call ≡ on_objects (objects.charge_cpu i ns time) → e.returned ≡ 12
        → (r : Made) → r.call ≡ on_objects (objects.refill i time) → lent r ≡ true → Ensures a r → ((j : ℕ) → get_or r.left j 0 < 256) → e.left ≡ r.left
    refused_charge_renews i ns time c q = ((demand1.calls a e h).refused n x x').renewed i time (rw (c, q))

    -- P2: "A refused removal .. renews nothing": it leaves every byte, whatever the number
    pub refused_removal_leaves_bytes : (i time : ℕ) → e.call ≡ on_objects (objects.remove i time) → e.left ≡ a
    refused_removal_leaves_bytes i time c = ((demand1.calls a e h).refused n x x').area (rw c)

  -- P12: "Service staff want only codes that they can meet": no call answers 15, on any bytes
  pub never_15 : e.returned ≡ 15 → ⊥
  never_15 q = test (lent e)
      (λ y. test (sound_area a)
      (λ s. (leaves e.call (decode a)).not_15 (sym (rules_followed y s).0 ∙ q))
      (λ s. not_1 (damaged_refused s y).0))
      (λ y. not_1 (wrong_length_refused y).0)
    where
      not_1 : e.returned ≡ 1 → ⊥
      not_1 p = omega (arith, p, q)

  -- P12, of a removal: 1 aside it answers 0, 7, 9 or 10, and 0 exactly where it passes 7, 9 and 10
  module _ (i time : ℕ) (c : e.call ≡ on_objects (objects.remove i time)) (y : lent e ≡ true) (s : sound_area a ≡ true) where
    number_is : e.returned ≡ (remove i time (decode a).registry).number
    number_is = let (number, same) = rules_followed y s in rw c at number

    pub removal_answers : (eqb e.returned 0 || eqb e.returned 7 || eqb e.returned 9 || eqb e.returned 10) ≡ true
    removal_answers = subst (λ (n : ℕ). (eqb n 0 || eqb n 7 || eqb n 9 || eqb n 10) ≡ true) (sym number_is) (question_15.removal_number i time (decode a).registry)

    pub removal_accepted : eqb e.returned 0
        ≡ (has (decode a).registry i && not (eqb i 1) && not (is_budget (decode a).registry i && pays_for (decode a).registry i))
    removal_accepted = ap (λ (n : ℕ). eqb n 0) number_is ∙ question_15.accepted_exactly i time (decode a).registry

    -- it is the removal before P12, which asks question 15 too
    pub removal_as_before : (e.returned ≡ (remove_asking_15 i time (decode a).registry).number) × ((decode e.left).registry ≡ (remove_asking_15 i time (decode a).registry).after)
    removal_as_before = let (number, same) = rules_followed y s in
        rw (question_15.asking_15_changes_nothing i time (decode a).registry (sound_shown (decode a).registry (area_sound a s).registry)) (number_is, ap (λ (x : Board). x.registry) (rw c at same))

  -- P2, of an accepted removal
  module _ (i time : ℕ) (c : e.call ≡ on_objects (objects.remove i time)) (y : lent e ≡ true) (s : sound_area a ≡ true) (n : e.returned ≡ 0) where
    abbrev before : Registry
    before = (decode a).registry

    abbrev payer : ℕ
    payer = payer_of before i

    accepted : (remove i time before).number ≡ 0
    accepted = let (number, same) = rules_followed y s in sym (rw c at number) ∙ n

    left : (remove i time before).after ≡ (decode e.left).registry
    left = let (number, same) = rules_followed y s in sym (ap (λ (x : Board). x.registry) (rw c at same))

    module _ (b : is_budget before i ≡ true) where
      released : Released (account_of before payer) (account_of before i) (entry before i).charge time (account_of (decode e.left).registry payer)
      released = subst (λ (x : Registry). Released (account_of before payer) (account_of before i) (entry before i).charge time (account_of x payer)) left
          (budget_removed i time before (area_sound a s).registry b accepted)

      -- "a removed budget's payer is renewed at that time, before the child is returned": CPU left is what was not reserved with the child's share in it
      pub payer_renewed : due (account_of before payer) time ≡ true
          → ((account_of (decode e.left).registry payer).period_start ≡ time - (time - (account_of before payer).period_start) % 10_000_000)
          × ((account_of (decode e.left).registry payer).cpu_left ≡ (account_of before payer).cpu_allowance - (account_of before payer).cpu_reserved)
      payer_renewed d = (released.start_due d, released.left_due d)

      pub payer_not_due : due (account_of before payer) time ≡ false
          → ((account_of (decode e.left).registry payer).period_start ≡ (account_of before payer).period_start)
          × ((account_of (decode e.left).registry payer).cpu_left ≡ (account_of before payer).cpu_left)
      payer_not_due d = (released.start_not_due d, released.left_not_due d)

      pub child_returned : ((account_of (decode e.left).registry payer).cpu_reserved ≡ (account_of before payer).cpu_reserved - (account_of before i).cpu_allowance)
          × ((account_of (decode e.left).registry payer).memory_reserved ≡ (account_of before payer).memory_reserved - (account_of before i).memory_limit)
          × ((account_of (decode e.left).registry payer).memory_used ≡ (account_of before payer).memory_used - (entry before i).charge)
      child_returned = (released.cpu_reserved, released.memory_reserved, released.used)

    -- ".. or that of another kind, renews nothing"
    pub other_kind_renews_nothing : is_budget before i ≡ false
        → ((account_of (decode e.left).registry payer).period_start ≡ (account_of before payer).period_start)
        × ((account_of (decode e.left).registry payer).cpu_left ≡ (account_of before payer).cpu_left)
    other_kind_renews_nothing b =
        let k : Credited (account_of before payer) (entry before i).charge (account_of (decode e.left).registry payer)
        = subst (λ (x : Registry). Credited (account_of before payer) (entry before i).charge (account_of x payer)) left
        (object_removed i time before (area_sound a s).registry b accepted) in (k.start, k.left)

    -- no other entry changes
    pub others_stay : (j : ℕ) → (i ≡ j → ⊥) → (payer ≡ j → ⊥) → at (decode e.left).registry.rows j ≡ at before.rows j
    others_stay j p q = subst (λ (x : Registry). at x.rows j ≡ at before.rows j) left (removal.others_stay i time j before p q)

  -- P1, of `carv_totals` on any sound area, whatever calls led to it or none
  module _ (i : ℕ) (c : e.call ≡ on_objects (objects.read_totals i)) (y : lent e ≡ true) (s : sound_area a ≡ true) where
    abbrev registry : Registry
    registry = (decode a).registry

    given : GivenAs e (run (on_objects (objects.read_totals i)) (decode a))
    given = subst (λ (k : Call). GivenAs e (run k (decode a))) c ((demand1.calls a e h).served y s)

    -- 7 exactly where it is no live budget
    pub totals_number : e.returned ≡ cond (is_budget registry i) 0 7
    totals_number = given.number ∙ test (is_budget registry i) (λ l. rw l) (λ l. rw l)

    -- it changes nothing, accepted or refused: the area says the same board, and so has the same bytes
    pub totals_change_nothing : decode e.left ≡ decode a
    totals_change_nothing = given.area.same ∙ test (is_budget registry i) (λ l. rw l) (λ l. rw l)

    pub totals_leave_bytes : ((k : ℕ) → get_or a k 0 < 256) → ((k : ℕ) → get_or e.left k 0 < 256) → a ≡ e.left
    totals_leave_bytes x x' = (demand1.calls a e h).exact y s x' a x (record { sound = s; same = sym totals_change_nothing ∙ (rules_followed y s).1 })

    module _ (l : is_budget registry i ≡ true) where
      -- "memory used, memory free, CPU left", of the budget with everything carved from it, in the first three answer words; the others stay
      pub totals_told : e.words' ≡ sets e.words 0 (reading.over reading.used registry i ∷ reading.over reading.free registry i ∷ reading.over reading.left registry i ∷ [])
      totals_told = given.written ∙ totals_written given.answer (reading.totals registry i) e.words (given.value ∙ rw l)

      first_three : (get_or e.words' 0 0 ≡ reading.over reading.used registry i) × (get_or e.words' 1 0 ≡ reading.over reading.free registry i)
          × (get_or e.words' 2 0 ≡ reading.over reading.left registry i)
      first_three =
          let size : length e.words ≡ 20 = eqb-true (length e.words) 20 (first (eqb (length e.words) 20) (cond (has_image e.call) (eqb (length e.image) 512) true) y) in
          rw totals_told (three_set e.words (reading.over reading.used registry i) (reading.over reading.free registry i) (reading.over reading.left registry i) (omega arith))

      -- "For each budget, used plus free over it and all below must equal its memory limit": of the first two answer words
      pub used_and_free : get_or e.words' 0 0 + get_or e.words' 1 0 ≡ (account_of registry i).memory_limit
      used_and_free = omega (arith, first_three.0, first_three.1, memory_total registry (area_sound a s).registry i l)

      -- CPU left over it and all below, the third, is at most its allowance
      pub left_allowed : get_or e.words' 2 0 ≤ (account_of registry i).cpu_allowance
      left_allowed = omega (arith, first_three.2, cpu_total registry (area_sound a s).registry i l)

    -- "Root totals are the totals over all live budgets"
    pub root_totals : i ≡ 1 → e.words' ≡ sets e.words 0 (reading.over_all reading.used registry ∷ reading.over_all reading.free registry ∷ reading.over_all reading.left registry ∷ [])
    root_totals q =
        let live : is_budget registry i ≡ true = rw q (ap is_budget_kind (area_sound a s).registry.root) in
        let S = (area_sound a s).registry in
        totals_told live ∙ rw (q, root_total registry S reading.used, root_total registry S reading.free, root_total registry S reading.left)

-- P12, demand 2: on no sound area does the Rust's removal come to `InvalidMethod`, which would be told as 15, nor does carv-os' own
pub rust_returns : (a : List ℕ) → sound_area a ≡ true → (i time : ℕ)
    → ((objects_rust.remove i time (decode a).registry).result ≡ Err objects_rust.invalid_method → ⊥)
    × ((objects_rust.remove_unrenewed i (decode a).registry).result ≡ Err objects_rust.invalid_method → ⊥)
rust_returns a s i time = question_15.rust_returns i time (decode a).registry (sound_shown (decode a).registry (area_sound a s).registry)

-- P12: "from every sound state a removal that reaches question 15 passes it, and .. its payer is live": of any sound area, whatever calls led to it or none
module _ (a : List ℕ) (s : sound_area a ≡ true) (i : ℕ) (there : has (decode a).registry i ≡ true) (not_root : i ≡ 1 → ⊥)
    (pays_nothing : is_budget (decode a).registry i ≡ true → pays_for (decode a).registry i ≡ false) where
  abbrev here : Registry
  here = (decode a).registry

  pub payer_live : (has here (payer_of here i) ≡ true) × (is_budget here (payer_of here i) ≡ true) × (payer_of here i ≡ i → ⊥)
  payer_live = question_15.payer_live i here there not_root pays_nothing (sound_shown here (area_sound a s).registry)

  pub child_returnable : is_budget here i ≡ true
      → ((account_of here i).memory_used ≡ 0) × ((account_of here i).memory_reserved ≡ 0) × ((account_of here i).cpu_reserved ≡ 0)
      × ((account_of here i).memory_limit ≤ (account_of here (payer_of here i)).memory_reserved)
      × ((account_of here i).cpu_allowance ≤ (account_of here (payer_of here i)).cpu_reserved)
  child_returnable = question_15.child_returnable i here there not_root pays_nothing (sound_shown here (area_sound a s).registry)

  -- the Rust's removal goes through there, at any time, and so does carv-os' own
  pub rust_goes_through : (time : ℕ) → ((objects_rust.remove i time here).result ≡ Ok tt) × ((objects_rust.remove_unrenewed i here).result ≡ Ok tt)
  rust_goes_through time =
      question_15.rust_goes_through i time here (sound_shown here (area_sound a s).registry) (question_15.reached i here there not_root pays_nothing)

-- the opening: 1 for a length, 2 for the share, which leave every byte; else the opened board, written in one way, over whatever the bytes were
module _ (cpu memory : ℕ) (a out : List ℕ) (r : ℕ) (a' out' : List ℕ) (o : Opens cpu memory a out r a' out') where
  pub opening_number : r ≡ cond (eqb (length out) 20 && eqb (length a) 68_144) (cond (leb cpu 10_000_000) 0 2) 1
  opening_number = (demand1.opens cpu memory a out r a' out' o).number

  pub opening_refused : (r ≡ 0 → ⊥) → (a' ≡ a) × (out' ≡ out)
  opening_refused n = let u = demand1.opens cpu memory a out r a' out' o in (u.refused n, u.words)

  pub opening_accepted : r ≡ 0 → (sound_area a' ≡ true) × (decode a' ≡ opening cpu memory) × (out' ≡ out)
  opening_accepted n = let u = demand1.opens cpu memory a out r a' out' o in ((u.opened n).sound, (u.opened n).same, u.words)

  pub opening_bytes_fixed : r ≡ 0 → ((i : ℕ) → get_or a' i 0 < 256) → (b : List ℕ) → ((i : ℕ) → get_or b i 0 < 256) → sound_area b ≡ true → decode b ≡ opening cpu memory → b ≡ a'
  opening_bytes_fixed n x b x' sound same = (demand1.opens cpu memory a out r a' out' o).exact n x b x' (record { sound = sound; same = same })

-- the register image, in 512 bytes and in no others
pub image_answered : (m : List ℕ) (r : ℕ) (m' : List ℕ) → Filled m r m' → (r ≡ cond (eqb (length m) 512) 0 1) × (m' ≡ cond (eqb r 0) register_image m)
image_answered m r m' f = let u = demand1.image m r m' f in (u.number, u.image)

-- `carv_is_sound` answers question 1 of every call
pub question_1 : (a : List ℕ) (r : Bool) → r ≡ sound_area a → (e : Made) → Ensures a e → (r ≡ false → e.returned ≡ 1) × (r ≡ true → lent e ≡ true → e.returned ≡ 1 → ⊥)
question_1 a r q e h = let u = demand1.is_sound a r q in (λ no. u.no no e h, λ yes. u.yes yes e h)

-- Demand 2, from an accepted opening: the opened board is the Rust's, and so is, in a list without an added refusal, the answer to each call that the Rust has and the board
-- that each leaves.

-- the Rust's board after a list of calls
abbrev pub rust_board : List Made → Board → Board
rust_board [] b = b
rust_board (e ∷ es) b = rust_board es (rust_run e.call b).after

placed : (front rest : List Made) (e : Made) (b : Board) → AsRust (front ++ (e ∷ rest)) b → GivenAsRust e (rust_run e.call (rust_board front b))
placed [] rest e b h = h.0
placed (x ∷ front) rest e b h = placed front rest e (rust_run x.call b).after h.1

module _ (cpu memory : ℕ) (a₀ a out out' : List ℕ) (o : Opens cpu memory a₀ out 0 a out') where
  pub opened_as_rust : decode a ≡ rust.new cpu memory
  opened_as_rust = (demand2 cpu memory a₀ a out out' o [] tt tt).opened.same

  pub each_as_rust : (front rest : List Made) (e : Made) → Ran (front ++ (e ∷ rest)) a → NoneAdded (front ++ (e ∷ rest))
      → (in_rust e.call ≡ true → GivenAs e (rust_run e.call (rust_board front (rust.new cpu memory))))
      × (decode e.left ≡ (rust_run e.call (rust_board front (rust.new cpu memory))).after)
  each_as_rust front rest e h n =
      let g = placed front rest e (rust.new cpu memory) (demand2 cpu memory a₀ a out out' o (front ++ (e ∷ rest)) h n).answers in (
        λ i. subst (GivenAs e) (sym (ap (λ (t : Bool). cond t g.reply (without_answer g.reply)) i) ∙ g.same) g.given,
        g.given.area.same ∙ sym (compared_after e.call g.reply) ∙ ap (λ (x : BoardReply). x.after) g.same,
      )

  -- .. and the Rust doesn't panic on the way
  pub rust_panics_not : (es : List Made) → Ran es a → NoneAdded es → memory < 18_446_744_073_709_551_616 → AllWords es
      → AllPass (panics.new 1 cpu memory) × NoPanics (map (λ (e : Made). e.call) es) 2 (rust.new cpu memory)
  rust_panics_not es h n = (demand2 cpu memory a₀ a out out' o es h n).no_panics

  -- P1 and demand 3: an accepted `carv_totals` answers the totals of the book's figures
  pub totals_by_book : (front rest : List Made) (e : Made) (i : ℕ) → Ran (front ++ (e ∷ rest)) a → AllWords (front ++ (e ∷ rest)) → e.call ≡ on_objects (objects.read_totals i)
      → e.returned ≡ 0 → e.words' ≡ sets e.words 0 (summed objects.memory_used (booked front cpu memory).objects i ∷ summed objects.free (booked front cpu memory).objects i
      ∷ summed objects.cpu_left (booked front cpu memory).objects i ∷ [])
  totals_by_book front rest e i h f c r =
      let g = (demand3 cpu memory a₀ a out out' o (front ++ (e ∷ rest)) h f).totals front rest e i refl c r in
      g.written ∙ totals_written g.answer (totals_of (booked front cpu memory).objects i) e.words g.value

  -- .. and leaves the board
  pub totals_leave_board : (front rest : List Made) (e : Made) (i : ℕ) → Ran (front ++ (e ∷ rest)) a → AllWords (front ++ (e ∷ rest)) → e.call ≡ on_objects (objects.read_totals i)
      → e.returned ≡ 0 → decode e.left ≡ decode (last front a)
  totals_leave_board front rest e i h f c r = ((demand3 cpu memory a₀ a out out' o (front ++ (e ∷ rest)) h f).totals front rest e i refl c r).area.same

  -- Demand 3: "two lists leave a budget equal lines exactly when these agree"
  pub equal_lines : (es : List Made) → Ran es a → AllWords es → (es' : List Made) (b₀ b w w' : List ℕ) (cpu' memory' : ℕ) → Opens cpu' memory' b₀ w 0 b w'
      → Ran es' b → AllWords es' → (i : ℕ) → is_budget (decode (last es a)).registry i ≡ true → is_budget (decode (last es' b)).registry i ≡ true
      → (line (account_of (decode (last es a)).registry i) ≡ line (account_of (decode (last es' b)).registry i)
      → figures (budget_of (booked es cpu memory).objects i) ≡ figures (budget_of (booked es' cpu' memory').objects i))
      × (figures (budget_of (booked es cpu memory).objects i) ≡ figures (budget_of (booked es' cpu' memory').objects i)
      → line (account_of (decode (last es a)).registry i) ≡ line (account_of (decode (last es' b)).registry i))
  equal_lines es h f es' b₀ b w w' cpu' memory' = (demand3 cpu memory a₀ a out out' o es h f).equal es' b₀ b w w' cpu' memory'

  -- a live budget's line, field by field
  module _ (es : List Made) (h : Ran es a) (f : AllWords es) (i : ℕ) (l : is_budget (decode (last es a)).registry i ≡ true) where
    abbrev budget : Budget
    budget = budget_of (booked es cpu memory).objects i

    pub live_in_book : is_live (booked es cpu memory).objects i ≡ true
    live_in_book = (demand3 cpu memory a₀ a out out' o es h f).live i ∙ l

    pub used_is : (account_of (decode (last es a)).registry i).memory_used ≡ budget.charged - budget.credited
    used_is = ap (λ (g : Figures). g.memory_used) ((demand3 cpu memory a₀ a out out' o es h f).lines i l)

    pub memory_reserved_is : (account_of (decode (last es a)).registry i).memory_reserved ≡ budget.carved_memory - budget.returned_memory
    memory_reserved_is = ap (λ (g : Figures). g.memory_reserved) ((demand3 cpu memory a₀ a out out' o es h f).lines i l)

    pub cpu_reserved_is : (account_of (decode (last es a)).registry i).cpu_reserved ≡ budget.carved_cpu - budget.returned_cpu
    cpu_reserved_is = ap (λ (g : Figures). g.cpu_reserved) ((demand3 cpu memory a₀ a out out' o es h f).lines i l)

    pub cpu_left_is : (account_of (decode (last es a)).registry i).cpu_left ≡ budget.cpu_allowance - budget.noted_cpu - budget.taken_cpu
    cpu_left_is = ap (λ (g : Figures). g.cpu_left) ((demand3 cpu memory a₀ a out out' o es h f).lines i l)

    pub differences_are : (budget.credited ≤ budget.charged) × (budget.returned_memory ≤ budget.carved_memory) × (budget.returned_cpu ≤ budget.carved_cpu)
        × (budget.noted_cpu + budget.taken_cpu ≤ budget.cpu_allowance)
    differences_are = let d = (demand3 cpu memory a₀ a out out' o es h f).differences i l in (d.credited_charged, d.memory_returned_carved, d.cpu_returned_carved, d.cpu_gone_allowed)

  -- each accepted planning: the thread that runs, by the book before it, is the area's current one (`Planned`: carv_scheduler_spec/proofs/Laws/Sentences.antt)
  pub planned : (front rest : List Made) (e : Made) (n : ℕ) → Ran (front ++ (e ∷ rest)) a → AllWords (front ++ (e ∷ rest)) → e.call ≡ plan n → e.returned ≡ 0
      → (z : BoardReply) × ((decode e.left ≡ z.after) × Planned n (booked front cpu memory) z)
  planned front rest e n h f c r =
      let (z, u) = (demand3 cpu memory a₀ a out out' o (front ++ (e ∷ rest)) h f).plannings front rest e n refl c r in (z, (u.0.area.same, u.1))

-- P3, by demand 3's lists of calls on one board from an accepted opening.

map_told : (g : Numbered → Option ℕ) (es : List Made) → map (λ (e : Made). g (record { call = e.call; number = e.returned })) es ≡ map g (told es)
map_told g [] = refl
map_told g (e ∷ es) = ap (λ (l : List (Option ℕ)). g (record { call = e.call; number = e.returned }) ∷ l) (map_told g es)

module _ (cpu memory : ℕ) (a₀ a out out' : List ℕ) (o : Opens cpu memory a₀ out 0 a out') (es : List Made) (h : Ran es a) (f : AllWords es) where
  -- "Take clock values that never fall over the whole history, and periods of 10 ms counted from time 0. In each, the CPU charged to a budget and to all below it, those removed
  -- meanwhile included, is at most that budget's allowance. This is to be shown for every budget in every history": for every budget that is live after the first calls of the
  -- history, front, however many these are
  pub overspends_no_period : ((front mid rest : List (Option ℕ)) (t u : ℕ) → map (λ (e : Made). clock e.call) es ≡ front ++ (Some t ∷ (mid ++ (Some u ∷ rest))) → t ≤ u) → (front rest : List Made) → es ≡ front ++ rest
      → (i : ℕ) → is_budget (decode (last front a)).registry i ≡ true
      → (p : ℕ) → spent (ledger_from (told es) cpu memory) p i ≤ (account_of (decode (last front a)).registry i).cpu_allowance
  overspends_no_period rise front rest q i live =
      ((no_period_overspent_by_clock cpu memory a₀ a out out' o es h f (subst (NeverFall 0) (map_told (λ (n : Numbered). clock n.call) es) (never_falls_shown (map (λ (e : Made). clock e.call) es) rise))
      ).live front rest q i live).allowed

  module _ (rise : (front mid rest : List (Option ℕ)) (t u : ℕ) → map (λ (e : Made). cond (eqb e.returned 0 || eqb e.returned 12) (clock e.call) None) es ≡ front ++ (Some t ∷ (mid ++ (Some u ∷ rest))) → t ≤ u) where
    -- for every list of calls whose clock values, of calls accepted or refused with 12, are such that of any two the later one is not below the earlier one
    allowances : WithinAllowances es a cpu memory
    allowances = no_period_overspent cpu memory a₀ a out out' o es h f (subst (NeverFall 0) (map_told moving_clock es) (never_falls_shown (map (λ (e : Made). cond (eqb e.returned 0 || eqb e.returned 12) (clock e.call) None) es) rise))

    -- the same, where only calls that are accepted or refused with 12 are asked for their clock values
    pub overspends_no_period_moving : (front rest : List Made) → es ≡ front ++ rest → (i : ℕ) → is_budget (decode (last front a)).registry i ≡ true
        → (p : ℕ) → spent (ledger_from (told es) cpu memory) p i ≤ (account_of (decode (last front a)).registry i).cpu_allowance
    overspends_no_period_moving front rest q i live = (allowances.live front rest q i live).allowed

    -- every budget of the ledger, removed or not
    pub none_carved_overspends : (b : ℕ) (x : Carved) → at (ledger_from (told es) cpu memory).budgets b ≡ Some x → (p : ℕ) → spent (ledger_from (told es) cpu memory) p b ≤ x.allowance
    none_carved_overspends = allowances.carved

    -- those that were live are in it, as they were on the board, and "below" is P1's, removed since or not
    pub live_in_ledger : (front rest : List Made) → es ≡ front ++ rest → (i : ℕ) → is_budget (decode (last front a)).registry i ≡ true
        → (at (ledger_from (told es) cpu memory).budgets i
        ≡ Some (record { parent = payer_of (decode (last front a)).registry i; allowance = (account_of (decode (last front a)).registry i).cpu_allowance }))
        × ((b : ℕ) → under (ledger_from (told es) cpu memory).budgets b i ≡ objects_within.within (decode (last front a)).registry b i)
    live_in_ledger front rest q i live = let E = allowances.live front rest q i live in (E.listed, E.below)

  -- nothing is struck out of the ledger, budgets and charges; and each charge that a call adds is noted at its clock value
  pub nothing_struck_out : (e : Made) → ((bs : List (Row Carved)) × ((ledger_from (told (es ++ (e ∷ []))) cpu memory).budgets ≡ bs ++ (ledger_from (told es) cpu memory).budgets))
      × ((xs : List Charge) × ((ledger_from (told (es ++ (e ∷ []))) cpu memory).charges ≡ xs ++ (ledger_from (told es) cpu memory).charges)
      × ((front rest : List Charge) (x : Charge) → xs ≡ front ++ (x ∷ rest) → clock e.call ≡ Some x.time))
  nothing_struck_out e =
      let A = (charges_noted cpu memory a₀ a out out' o es h f e).adds in
      ((A.carved, A.budgets), (A.charged, A.charges, λ front rest x q. timed_each (clock e.call) A.charged front rest x A.timed q))

  -- what the ledger notes, the book takes: of a budget with the same start before and after a call, and of one that the call renewed
  pub taken_and_noted : (e : Made) (i : ℕ) (x y : Budget) → at (booked es cpu memory).objects.budgets i ≡ Some x → at (booked (es ++ (e ∷ [])) cpu memory).objects.budgets i ≡ Some y
      → (y.start ≡ x.start → y.taken_cpu + charged_to (noted es cpu memory).charges i + x.carved_cpu
      ≡ x.taken_cpu + charged_to (noted (es ++ (e ∷ [])) cpu memory).charges i + y.carved_cpu)
      × ((y.start ≡ x.start → ⊥) → (x.start < y.start) × (y.taken_cpu + charged_to (noted es cpu memory).charges i + x.carved_cpu
      ≡ charged_to (noted (es ++ (e ∷ [])) cpu memory).charges i + y.carved_cpu))
  taken_and_noted e i x y u v =
      let B = (charges_noted cpu memory a₀ a out out' o es h f e).taken i x y u v in
      let with_test : Bool → ℕ = λ b. cond b x.taken_cpu 0 + charged_to (noted (es ++ (e ∷ [])) cpu memory).charges i + y.carved_cpu in (
        λ q. B.taken ∙ ap with_test (eq-eqb y.start x.start q),
        λ q. (above x.start y.start B.later q, B.taken ∙ ap with_test (ne_eqb y.start x.start q) ∙ omega arith),
      )
    where
      above : (x y : ℕ) → x ≤ y → (y ≡ x → ⊥) → x < y
      above x y h d = omega arith
