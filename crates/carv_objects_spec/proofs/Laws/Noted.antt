-- The ledger notes what the book takes: each call takes from a budget's CPU time what it notes as charged to that budget, and what it carves out of it, and nothing else; and it
-- strikes nothing out. Assumes nothing.
use Rattle.std.specs.Prelude.{◌≡◌, refl, Bool, true, false, cond, List, [], ◌∷◌, ◌++◌, ℕ, ◌+◌, ◌-◌, ◌%◌, ◌≤◌, ◌<◌, eqb, leb, Option, Some, None}
use Rattle.std.proofs.Common.{sym, ◌∙◌, ap, subst, arith, eqb-true, eq-eqb, ne_eqb, leb-true}
use Rattle.std.proofs.lemmas.Bool.{eqb-false}
use Rattle.carv_area.specs.Table.{Row, at, alter, erase, Rising}
use Rattle.carv_area.specs.Laws.Table
use Rattle.carv_area.specs.Laws.Table.{test}
use Rattle.carv_budget.specs.Account.{period}
use Rattle.carv_budget.proofs.Laws.Account.{first, second}
use Rattle.carv_objects_spec.specs.Kinds.{kind_of, bytes_of}
use Rattle.carv_objects_spec.specs.Book.{Book, Budget, Call, create, insert, create_budget, charge_more, uncharge, remove, refill, charge_cpu, pays_for_anything, read_account, charge_of, read_totals, object_of, budget_of, is_live, new_budget, due, renew, renew_if, take_cpu, carve, charge, credit, return, free, on_budget, remove_object, write, accepted, refused_12}
use Rattle.carv_objects_spec.specs.Ledger as ledger
use Rattle.carv_objects_spec.specs.Ledger.{Charge, Ledger, note_charge, note, clock}
use Rattle.carv_objects_spec.specs.Noted.{Timed, Adds, charged_to, Booked, Accounted}

-- a start that a renewal moves is a later one
moved : (s t : ℕ) → s ≤ t → period ≤ t - s → s < t - (t - s) % period
moved s t h k = omega arith

-- renewed or not
pub record Renews (x y : Budget) : Type 0 where
  pub later : x.start ≤ y.start
  pub taken : y.taken_cpu ≡ cond (eqb y.start x.start) x.taken_cpu 0
  pub carved : y.carved_cpu ≡ x.carved_cpu

pub renews : (t : ℕ) (x : Budget) → Renews x (renew t x)
renews t x = test (due t x)
    (λ d. let low = leb-true x.start t (first (leb x.start t) (leb period (t - x.start)) d) in
    let long = leb-true period (t - x.start) (second (leb x.start t) (leb period (t - x.start)) d) in
    let m = moved x.start t low long in
    rw d (record { later = omega arith; taken = rw (ne_eqb (t - (t - x.start) % period) x.start (λ q. omega arith)); carved = refl }))
    (λ d. rw d (record { later = omega arith; taken = rw (eq-eqb x.start x.start refl); carved = refl }))

-- a renewal, with what doesn't show in it
pub renews_so : (x w y : Budget) → Renews x w → y.start ≡ w.start → y.taken_cpu ≡ w.taken_cpu → y.carved_cpu ≡ w.carved_cpu → Renews x y
renews_so x w y R s k v = record { later = omega (arith, R.later); taken = rw s (k ∙ R.taken); carved = v ∙ R.carved }

pub renews_not : (x : Budget) → Renews x x
renews_not x = record { later = omega arith; taken = rw (eq-eqb x.start x.start refl); carved = refl }

pub renews_if : (b : Bool) (t : ℕ) (x : Budget) → Renews x (renew_if b t x)
renews_if true t x = renews t x
renews_if false t x = renews_not x

-- two renewals after one another
pub renews_again : (x y z : Budget) → Renews x y → Renews y z → Renews x z
renews_again x y z f g = test (eqb z.start y.start)
    (λ a. let k : z.taken_cpu ≡ y.taken_cpu = g.taken ∙ ap (λ (b : Bool). cond b y.taken_cpu 0) a in
    record { later = omega (arith, f.later, g.later); taken = k ∙ f.taken ∙ ap (λ (s : ℕ). cond (eqb s x.start) x.taken_cpu 0) (sym (eqb-true z.start y.start a)); carved = g.carved ∙ f.carved })
    (λ a. let k : z.taken_cpu ≡ 0 = g.taken ∙ ap (λ (b : Bool). cond b y.taken_cpu 0) a in
    let apart = eqb-false z.start y.start a in
    let other = ne_eqb z.start x.start (λ q. apart (between x.start y.start z.start f.later g.later q)) in
    record { later = omega (arith, f.later, g.later); taken = k ∙ sym (ap (λ (b : Bool). cond b x.taken_cpu 0) other); carved = g.carved ∙ f.carved })
  where
    between : (x y z : ℕ) → x ≤ y → y ≤ z → z ≡ x → z ≡ y
    between x y z h k q = omega arith

-- renewed or not, then n carved out of it, and m charged to it
pub booked : (x w y : Budget) (n m c d : ℕ) → d ≡ m + c → Renews x w → y.start ≡ w.start → y.taken_cpu ≡ w.taken_cpu + n + m → y.carved_cpu ≡ w.carved_cpu + n → Booked x y c d
booked x w y n m c d q R s k v = record { later = omega (arith, R.later); taken = rw s (omega (arith, R.taken, R.carved)) }

-- nothing carved or charged
pub nothing_booked : (x y : Budget) (c : ℕ) → Renews x y → Booked x y c c
nothing_booked x y c R = record { later = R.later; taken = omega (arith, R.taken, R.carved) }

-- Tables.

pub altered_row : {A : Type 0} (m : List (Row A)) (j i : ℕ) (f : A → A) (x y : A) → at m i ≡ Some x → at (alter j f m) i ≡ Some y → cond (eqb j i) (f x) x ≡ y
altered_row m j i f x y h k = test (eqb j i)
    (λ a. let e = eqb-true j i a in
    let z : at (alter j f m) i ≡ Some (f x) = rw e (Table.at_alter m i f x h) in
    rw a (some_same (f x) y (sym z ∙ k)))
    (λ a. rw a (some_same x y (sym h ∙ sym (Table.at_alter_other m j i f (eqb-false j i a)) ∙ k)))
  where
    some_same : {A : Type 0} (a b : A) → Some a ≡ Some b → a ≡ b
    some_same a b h = cc

-- Each call.

module _ (k : Book) (i : ℕ) (c : ℕ) where
  pub unmoved : Accounted k k c c i
  unmoved x y h g = let z : x ≡ y = cc in rw z (nothing_booked y y c (renews_not y))

  -- a change of a budget that carves and charges nothing
  changed : (j : ℕ) (f : Budget → Budget) (k' : Book) → k'.budgets ≡ alter j f k.budgets → ((x : Budget) → Renews x (f x)) → Accounted k k' c c i
  changed j f k' e R x y h g =
      let z = altered_row k.budgets j i f x y h (ap (λ (m : List (Row Budget)). at m i) (sym e) ∙ g) in
      rw (← z) (nothing_booked x (cond (eqb j i) (f x) x) c (test (eqb j i) (λ a. rw a (R x)) (λ a. rw a (renews_not x))))

  -- one that carves n out of a renewed budget, and charges m to it
  spent_of : (j t n m : ℕ) (f : Budget → Budget) (k' : Book) (d : ℕ) → k'.budgets ≡ alter j f k.budgets → d ≡ cond (eqb j i) m 0 + c
      → ((x : Budget) → (f x).start ≡ (renew t x).start) → ((x : Budget) → (f x).taken_cpu ≡ (renew t x).taken_cpu + n + m) → ((x : Budget) → (f x).carved_cpu ≡ x.carved_cpu + n)
      → Accounted k k' c d i
  spent_of j t n m f k' d e q s u v x y h g =
      let z = altered_row k.budgets j i f x y h (ap (λ (m : List (Row Budget)). at m i) (sym e) ∙ g) in
      test (eqb j i)
      (λ a. let z' : f x ≡ y = rw a at z in rw (← z') (booked x (renew t x) (f x) n m c d (rw a at q) (renews t x) (s x) (u x) (v x)))
      (λ a. let z' : x ≡ y = rw a at z in let q' : d ≡ 0 + c = rw a at q in rw (← z') (booked x x x 0 0 c d q' (renews_not x) refl (omega arith) (omega arith)))

-- a budget that is live before and after a row is added behind the others
behind : (m : List (Row Budget)) (n i : ℕ) (b x : Budget) → at m i ≡ Some x → at (m ++ (record { id = n; it = b } ∷ [])) i ≡ at m i
behind [] n i b x h = let z : ◌≡◌ {A = ℕ} 0 1 = cc in absurd (omega arith)
behind (r ∷ m) n i b x h = test (eqb r.id i) (λ a. rw a) (λ a. rw a (behind m n i b x (rw a at h)))

-- an alteration finds what is there
missing_still : (m : List (Row Budget)) (j i : ℕ) (f : Budget → Budget) → at m i ≡ None → at (alter j f m) i ≡ None
missing_still m j i f h = test (eqb j i)
    (λ a. rw (eqb-true j i a) (alter_missing m i f h))
    (λ a. Table.at_alter_other m j i f (eqb-false j i a) ∙ h)
  where
    alter_missing : (m : List (Row Budget)) (i : ℕ) (f : Budget → Budget) → at m i ≡ None → at (alter i f m) i ≡ None
    alter_missing [] i f h = refl
    alter_missing (r ∷ m) i f h = test (eqb r.id i)
        (λ a. let z : Some r.it ≡ None = rw a at h in let w : ◌≡◌ {A = ℕ} 0 1 = cc in absurd (omega arith))
        (λ a. rw (a, a) (alter_missing m i f (rw a at h)))

accepted_noted : (c : Call) (k : Book) (l : Ledger) (i : ℕ) → Rising 1 k.next k.budgets
    → Accounted k (accepted c k) (charged_to l.charges i) (charged_to (ledger.accepted c k.next l).charges i) i
accepted_noted (create kind payer backing) k l i up =
    changed k i _ payer (charge (bytes_of (kind_of kind))) (accepted (create kind payer backing) k) refl (λ x. renews_so x x (charge (bytes_of (kind_of kind)) x) (renews_not x) refl refl refl)
accepted_noted (insert kind payer bytes) k l i up =
    changed k i _ payer (charge bytes) (accepted (insert kind payer bytes) k) refl (λ x. renews_so x x (charge bytes x) (renews_not x) refl refl refl)
accepted_noted (create_budget parent cpu memory time) k l i up = λ x y h g.
    let f : Budget → Budget = λ b. carve cpu memory (charge 128 (renew time b)) in
    let there : at (alter parent f k.budgets) i ≡ Some y =
    test (eqb parent i)
    (λ a. let s = Table.at_alter k.budgets i f x h in
    sym (behind (alter parent f k.budgets) k.next i (new_budget cpu memory (renew time (budget_of k parent)).start) (f x) (rw (eqb-true parent i a) s)) ∙ g)
    (λ a. let s = Table.at_alter_other k.budgets parent i f (eqb-false parent i a) ∙ h in
    sym (behind (alter parent f k.budgets) k.next i (new_budget cpu memory (renew time (budget_of k parent)).start) x s) ∙ g) in
    spent_of k i (charged_to l.charges i) parent time cpu 0 f (on_budget parent f k) (charged_to l.charges i) refl
    (test (eqb parent i) (λ a. rw a (omega arith)) (λ a. rw a (omega arith)))
    (λ x. refl) (λ x. omega arith) (λ x. refl) x y h there
accepted_noted (charge_more j bytes) k l i up =
    changed k i _ (object_of k j).payer (charge bytes) (accepted (charge_more j bytes) k) refl (λ x. renews_so x x (charge bytes x) (renews_not x) refl refl refl)
accepted_noted (uncharge j bytes) k l i up =
    changed k i _ (object_of k j).payer (credit bytes) (accepted (uncharge j bytes) k) refl (λ x. renews_so x x (credit bytes x) (renews_not x) refl refl refl)
accepted_noted (remove j time) k l i up = λ x y h g. test (eqb j i)
    (λ a. let q = eqb-true j i a in
    let gone : at (alter (object_of k j).payer f (erase j k.budgets)) i ≡ None =
    missing_still (erase j k.budgets) (object_of k j).payer i f (rw (← q) (Table.at_erase k.budgets 1 k.next j up)) in
    let z : ◌≡◌ {A = ℕ} 0 1 = cc in absurd (omega arith))
    (λ a. let still : at (remove_object j k).budgets i ≡ Some x = Table.at_erase_other k.budgets j i (eqb-false j i a) ∙ h in
    changed (remove_object j k) i (charged_to l.charges i) (object_of k j).payer f (accepted (remove j time) k) refl
    (λ b. renews_so b (renew_if (is_live k j) time b) (f b) (renews_if (is_live k j) time b) refl refl refl) x y still g)
  where
    f : Budget → Budget
    f b = credit (object_of k j).charge (return (budget_of k j) (renew_if (is_live k j) time b))
accepted_noted (refill j time) k l i up = changed k i _ j (renew time) (accepted (refill j time) k) refl (renews time)
accepted_noted (charge_cpu j ns time) k l i up =
    spent_of k i (charged_to l.charges i) j time 0 ns (λ b. take_cpu ns (renew time b)) (accepted (charge_cpu j ns time) k) _ refl refl
    (λ x. refl) (λ x. omega arith) (λ x. omega arith)
accepted_noted (pays_for_anything j) k l i up = unmoved k i _
accepted_noted (read_account j) k l i up = unmoved k i _
accepted_noted (charge_of j) k l i up = unmoved k i _
accepted_noted (read_totals j) k l i up = unmoved k i _

refused_noted : (c : Call) (k : Book) (i n : ℕ) → Accounted k (refused_12 c k) n n i
refused_noted (create kind payer backing) k i n = unmoved k i n
refused_noted (insert kind payer bytes) k i n = unmoved k i n
refused_noted (create_budget parent cpu memory time) k i n = test (leb 128 (free (budget_of k parent)))
    (λ a. rw a (changed k i n parent (renew time) (on_budget parent (renew time) k) refl (renews time))) (λ a. rw a (unmoved k i n))
refused_noted (charge_more j bytes) k i n = unmoved k i n
refused_noted (uncharge j bytes) k i n = unmoved k i n
refused_noted (remove j time) k i n = unmoved k i n
refused_noted (refill j time) k i n = unmoved k i n
refused_noted (charge_cpu j ns time) k i n = changed k i n j (renew time) (on_budget j (renew time) k) refl (renews time)
refused_noted (pays_for_anything j) k i n = unmoved k i n
refused_noted (read_account j) k i n = unmoved k i n
refused_noted (charge_of j) k i n = unmoved k i n
refused_noted (read_totals j) k i n = unmoved k i n

pub call_noted : (c : Call) (n : ℕ) (k : Book) (l : Ledger) (i : ℕ) → Rising 1 k.next k.budgets
    → Accounted k (write c n k) (charged_to l.charges i) (charged_to (note c n k.next l).charges i) i
call_noted c n k l i up = test (eqb n 0)
    (λ a. rw a (accepted_noted c k l i up))
    (λ a. rw a (test (eqb n 12) (λ b. rw b (refused_noted c k i (charged_to l.charges i))) (λ b. rw b (unmoved k i (charged_to l.charges i)))))

-- Nothing is struck out.

-- each of these charges is of this time
pub timed_each : (time : Option ℕ) (xs front rest : List Charge) (x : Charge) → Timed time xs → xs ≡ front ++ (x ∷ rest) → time ≡ Some x.time
timed_each time xs front rest x T q = each front (subst (Timed time) q T)
  where
    each : (front : List Charge) → Timed time (front ++ (x ∷ rest)) → time ≡ Some x.time
    each [] T = T.0
    each (y ∷ front) T = each front T.1

pub adds_nothing : (time : Option ℕ) (l : Ledger) → Adds time l l
adds_nothing time l = record { carved = []; budgets = refl; charged = []; charges = refl; timed = tt }

pub adds_charge : (i ns time : ℕ) (l : Ledger) → Adds (Some time) l (note_charge i ns time l)
adds_charge i ns time l = record { carved = []; budgets = refl; charged = record { budget = i; ns = ns; time = time } ∷ []; charges = refl; timed = (refl, tt) }

accepted_adds : (c : Call) (next : ℕ) (l : Ledger) → Adds (clock c) l (ledger.accepted c next l)
accepted_adds (create kind payer backing) next l = adds_nothing None l
accepted_adds (insert kind payer bytes) next l = adds_nothing None l
accepted_adds (create_budget parent cpu memory time) next l =
    record { carved = record { id = next; it = record { parent = parent; allowance = cpu } } ∷ []; budgets = refl; charged = []; charges = refl; timed = tt }
accepted_adds (charge_more i bytes) next l = adds_nothing None l
accepted_adds (uncharge i bytes) next l = adds_nothing None l
accepted_adds (remove i time) next l = adds_nothing (Some time) l
accepted_adds (refill i time) next l = adds_nothing (Some time) l
accepted_adds (charge_cpu i ns time) next l = adds_charge i ns time l
accepted_adds (pays_for_anything i) next l = adds_nothing None l
accepted_adds (read_account i) next l = adds_nothing None l
accepted_adds (charge_of i) next l = adds_nothing None l
accepted_adds (read_totals i) next l = adds_nothing None l

pub note_adds : (c : Call) (n next : ℕ) (l : Ledger) → Adds (clock c) l (note c n next l)
note_adds c n next l = test (eqb n 0) (λ a. rw a (accepted_adds c next l)) (λ a. rw a (adds_nothing (clock c) l))
