-- Demand 3 for the registry's calls: after every list of calls from an accepted opening, each live budget's line is the book's four figures. Assumes nothing.
use Rattle.std.specs.Prelude.{◌≡◌, refl, Bool, true, false, List, [], ◌∷◌, ◌++◌, ℕ, suc, ◌+◌, ◌-◌, ◌≤◌, eqb, Option, Some, None}
use Rattle.std.proofs.Common.{sym, ◌∙◌, ap, subst, arith, eqb-true}
use Rattle.std.proofs.lemmas.Bool.{eqb-false}
use Rattle.carv_area.specs.Laws.Table
use Rattle.carv_area.specs.Table.{Row, at, alter, erase, Rising}
use Rattle.carv_area.specs.Laws.Table.{test}
use Rattle.carv_budget.specs.declared.Account.{Account}
use Rattle.carv_budget.specs.Account as account
use Rattle.carv_budget.specs.Account.{period, renew, due}
use Rattle.carv_budget.proofs.Laws.Account as account_laws
use Rattle.carv_objects_spec.specs.declared.kind.Kind.{Kind}
use Rattle.carv_objects_spec.specs.Kinds.{kind_of, bytes_of, is_budget_kind}
use Rattle.carv_objects_spec.proofs.Laws.Kinds.{kind_shown, kind_apart}
use Rattle.carv_objects_spec.specs.declared.Entry.{Entry}
use Rattle.carv_objects_spec.proofs.Laws.Asked.{asked}
use Rattle.carv_objects_spec.specs.Registry as registry
use Rattle.carv_objects_spec.specs.Registry.{Registry, RegistryReply, or_missing, is_budget, account_of, has, on_account, budget, renew_if, object, add, drop, plain, carved}
use Rattle.carv_objects_spec.proofs.Laws.SoundFacts.{Sound}
use Rattle.carv_objects_spec.proofs.Laws.Steps.{BudgetEntry, ObjectEntry, at_on_account, added}
use Rattle.carv_objects_spec.proofs.Laws.Kept as calls
use Rattle.carv_objects_spec.proofs.Laws.Kept.{LimitsWithin, live_budget, limits_within, charge_within, carve, release}
use Rattle.carv_objects_spec.specs.Runs.{run, after, numbers, write_all, book_after, line}
use Rattle.carv_objects_spec.specs.Book as book
use Rattle.carv_objects_spec.specs.Book.{Book, Object, Budget, Differences, figures, object_of, budget_of, is_live, Call, create, insert, create_budget, charge_more, uncharge, remove, refill, charge_cpu, pays_for_anything, read_account, charge_of, read_totals, write}

-- Registry and book.

-- an account and its budget in the book
pub record Agrees (a : Account) (b : Budget) : Type 0 where
  pub allowance : a.cpu_allowance ≡ b.cpu_allowance
  pub limit : a.memory_limit ≡ b.memory_limit
  pub start : a.period_start ≡ b.start
  pub used : a.memory_used + b.credited ≡ b.charged
  pub memory_reserved : a.memory_reserved + b.returned_memory ≡ b.carved_memory
  pub cpu_reserved : a.cpu_reserved + b.returned_cpu ≡ b.carved_cpu
  pub left : a.cpu_left + b.taken_cpu + b.noted_cpu ≡ b.cpu_allowance

-- an entry and its object in the book
pub record SameObject (e : Entry) (o : Object) : Type 0 where
  pub payer : e.payer ≡ o.payer
  pub charge : e.charge ≡ o.charge

pub record SameBudget (e : Entry) (b : Budget) : Type 0 where
  pub kind : is_budget_kind e.kind ≡ true
  pub account : Agrees e.account b

-- what stands under one id in two tables; L where only the first has something
abbrev pub Match : {B : Type 0} (M : Entry → B → Type 0) (L : Entry → Type 0) → Option Entry → Option B → Type 0
Match M L None None = Unit {0}
Match M L None (Some b) = ⊥
Match M L (Some e) None = L e
Match M L (Some e) (Some b) = M e b

-- every entry has its object
abbrev pub ObjectMatch : Option Entry → Option Object → Type 0
ObjectMatch = Match SameObject (λ e. ⊥)

-- every budget, and no other entry, has its budget
abbrev pub BudgetMatch : Option Entry → Option Budget → Type 0
BudgetMatch = Match SameBudget (λ e. is_budget_kind e.kind ≡ false)

pub record FollowsRegistry (r : Registry) (k : Book) : Type 0 where
  pub next : r.next ≡ k.next
  pub objects_rising : Rising 1 k.next k.objects
  pub budgets_rising : Rising 1 k.next k.budgets
  pub object : (i : ℕ) → ObjectMatch (at r.rows i) (at k.objects i)
  pub budget : (i : ℕ) → BudgetMatch (at r.rows i) (at k.budgets i)

-- Looking up.

pub object_page : (r : Registry) (k : Book) → FollowsRegistry r k → (i : ℕ) (e : Entry) → at r.rows i ≡ Some e
    → (o : Object) × (at k.objects i ≡ Some o) × SameObject e o
object_page r k F i e h = go (at k.objects i) refl
  where
    go : (o : Option Object) → at k.objects i ≡ o → (o : Object) × (at k.objects i ≡ Some o) × SameObject e o
    go None q = absurd (rw (h, q) at (F.object i))
    go (Some o) q = (o, q, rw (h, q) at (F.object i))

pub budget_page : (r : Registry) (k : Book) → FollowsRegistry r k → (i : ℕ) (e : Entry) → BudgetEntry r i e
    → (b : Budget) × (at k.budgets i ≡ Some b) × Agrees e.account b
budget_page r k F i e B = go (at k.budgets i) refl
  where
    go : (o : Option Budget) → at k.budgets i ≡ o → (b : Budget) × (at k.budgets i ≡ Some b) × Agrees e.account b
    go None q = let h : is_budget_kind e.kind ≡ false = rw (B.here, q) at (F.budget i) in absurd (kind_apart e.kind h B.kind)
    go (Some b) q = let m : SameBudget e b = rw (B.here, q) at (F.budget i) in (b, q, m.account)

-- the budgets live by the book are the registry's
pub live_same : (r : Registry) (k : Book) → FollowsRegistry r k → (i : ℕ) → is_live k i ≡ is_budget r i
live_same r k F i = go (at r.rows i) (at k.budgets i) refl refl (F.budget i)
  where
    go : (o : Option Entry) (p : Option Budget) → at r.rows i ≡ o → at k.budgets i ≡ p → BudgetMatch o p → is_live k i ≡ is_budget r i
    go None None x y m = rw (ap or_missing x, ap book.is_some y)
    go None (Some b) x y m = absurd m
    go (Some e) None x y m = rw (ap or_missing x, ap book.is_some y, m)
    go (Some e) (Some b) x y m = rw (ap or_missing x, ap book.is_some y, m.kind)

-- a live budget, as it reads
pub budget_agrees : (r : Registry) (k : Book) → FollowsRegistry r k → (i : ℕ) → is_budget r i ≡ true → Agrees (account_of r i) (budget_of k i)
budget_agrees r k F i live =
    let (e, B) = live_budget r i live in
    let (b, there, g) = budget_page r k F i e B in
    subst (λ (x : Entry). Agrees x.account (budget_of k i)) (sym B.read)
    (subst (λ (x : Budget). Agrees e.account x) (sym (ap book.or_no_budget there)) g)

-- Each step of an account is that of its budget in the book.

pub renew_agrees : (a : Account) (b : Budget) (t : ℕ) → account.sound a ≡ true → Agrees a b → Agrees (renew a t) (book.renew t b)
unfolding renew due
renew_agrees a b t h g =
    let s = account_laws.sound_told h in
    let q : book.due t b ≡ due a t = rw (← g.start) in
    rw q (test (due a t)
    (λ d. rw d (record {
      allowance = g.allowance;
      limit = g.limit;
      start = rw (← g.start);
      used = g.used;
      memory_reserved = g.memory_reserved;
      cpu_reserved = g.cpu_reserved;
      left = omega (arith, g.cpu_reserved, g.allowance, s.cpu);
    }))
    (λ d. rw d (record {
      allowance = g.allowance;
      limit = g.limit;
      start = g.start;
      used = g.used;
      memory_reserved = g.memory_reserved;
      cpu_reserved = g.cpu_reserved;
      left = g.left;
    })))

pub renew_if_agrees : (c : Bool) (a : Account) (b : Budget) (t : ℕ) → account.sound a ≡ true → Agrees a b → Agrees (renew_if c t a) (book.renew_if c t b)
renew_if_agrees true a b t h g = renew_agrees a b t h g
renew_if_agrees false a b t h g = g

pub charge_agrees : (a : Account) (b : Budget) (n : ℕ) → Agrees a b → Agrees (account.charge a n) (book.charge n b)
charge_agrees a b n g = record {
  allowance = g.allowance;
  limit = g.limit;
  start = g.start;
  used = omega arith;
  memory_reserved = g.memory_reserved;
  cpu_reserved = g.cpu_reserved;
  left = g.left;
}

pub credit_agrees : (a : Account) (b : Budget) (n : ℕ) → n ≤ a.memory_used → Agrees a b → Agrees (account.credit a n) (book.credit n b)
credit_agrees a b n h g = record {
  allowance = g.allowance;
  limit = g.limit;
  start = g.start;
  used = omega arith;
  memory_reserved = g.memory_reserved;
  cpu_reserved = g.cpu_reserved;
  left = g.left;
}

pub spend_agrees : (a : Account) (b : Budget) (ns : ℕ) → ns ≤ a.cpu_left → Agrees a b → Agrees (account.spend a ns) (book.take_cpu ns b)
spend_agrees a b ns h g = record {
  allowance = g.allowance;
  limit = g.limit;
  start = g.start;
  used = g.used;
  memory_reserved = g.memory_reserved;
  cpu_reserved = g.cpu_reserved;
  left = omega arith;
}

pub reserve_agrees : (a : Account) (b : Budget) (cpu memory : ℕ) → cpu ≤ a.cpu_left → Agrees a b
    → Agrees (account.reserve a cpu memory) (book.carve cpu memory b)
reserve_agrees a b cpu memory h g = record {
  allowance = g.allowance;
  limit = g.limit;
  start = g.start;
  used = g.used;
  memory_reserved = omega arith;
  cpu_reserved = omega arith;
  left = omega arith;
}

-- the limits of an account and of a budget in the book
pub record SameLimits (a : Account) (b : Budget) : Type 0 where
  pub cpu : a.cpu_allowance ≡ b.cpu_allowance
  pub memory : a.memory_limit ≡ b.memory_limit

pub return_agrees : (a child : Account) (b c : Budget) → LimitsWithin child a → SameLimits child c → Agrees a b
    → Agrees (account.return a child) (book.return c b)
return_agrees a child b c w l g = record {
  allowance = g.allowance;
  limit = g.limit;
  start = g.start;
  used = g.used;
  memory_reserved = omega arith;
  cpu_reserved = omega arith;
  left = g.left;
}

pub fresh_agrees : (cpu memory start start' : ℕ) → start ≡ start' → Agrees (account.fresh cpu memory start) (book.new_budget cpu memory start')
fresh_agrees cpu memory start start' h =
    record { allowance = refl; limit = refl; start = h; used = refl; memory_reserved = refl; cpu_reserved = refl; left = omega arith }

-- Two tables that match, where both, or the first alone, are written.

module _ {B : Type 0} (M : Entry → B → Type 0) (L : Entry → Type 0) (m : List (Row Entry)) (n : List (Row B))
    (each : (j : ℕ) → Match M L (at m j) (at n j)) where
  match_alter : (i : ℕ) (f : Entry → Entry) (g : B → B) (e : Entry) (b : B) → at m i ≡ Some e → at n i ≡ Some b → M (f e) (g b)
      → (j : ℕ) → Match M L (at (alter i f m) j) (at (alter i g n) j)
  match_alter i f g e b here there it j = test (eqb i j)
      (λ a. rw (← eqb-true i j a) (rw (Table.at_alter m i f e here, Table.at_alter n i g b there) it))
      (λ a. rw (Table.at_alter_other m i j f (eqb-false i j a), Table.at_alter_other n i j g (eqb-false i j a)) (each j))

  match_first : (i : ℕ) (f : Entry → Entry) (e : Entry) → at m i ≡ Some e → ((b : Option B) → Match M L (Some e) b → Match M L (Some (f e)) b)
      → (j : ℕ) → Match M L (at (alter i f m) j) (at n j)
  match_first i f e here it j = test (eqb i j)
      (λ a. rw (← eqb-true i j a) (rw (Table.at_alter m i f e here) (it (at n i) (rw here at (each i)))))
      (λ a. rw (Table.at_alter_other m i j f (eqb-false i j a)) (each j))

  match_add : (i : ℕ) (e : Entry) (b : B) → at m i ≡ None → at n i ≡ None → M e b
      → (j : ℕ) → Match M L (at (m ++ (record { id = i; it = e } ∷ [])) j) (at (n ++ (record { id = i; it = b } ∷ [])) j)
  match_add i e b here there it j = test (eqb i j)
      (λ a. rw (← eqb-true i j a) (rw (Table.at_snoc m i 0 e here, Table.at_snoc n i 0 b there) it))
      (λ a. rw (Table.at_snoc_other m i j e (eqb-false i j a), Table.at_snoc_other n i j b (eqb-false i j a)) (each j))

  match_add_first : (i : ℕ) (e : Entry) → at m i ≡ None → at n i ≡ None → L e → (j : ℕ) → Match M L (at (m ++ (record { id = i; it = e } ∷ [])) j) (at n j)
  match_add_first i e here there it j = test (eqb i j)
      (λ a. rw (← eqb-true i j a) (rw (Table.at_snoc m i 0 e here, there) it))
      (λ a. rw (Table.at_snoc_other m i j e (eqb-false i j a)) (each j))

  match_erase : (i l o p : ℕ) → Rising l o m → Rising l p n → (j : ℕ) → Match M L (at (erase i m) j) (at (erase i n) j)
  match_erase i l o p up up' j = test (eqb i j)
      (λ a. rw (← eqb-true i j a) (rw (Table.at_erase m l o i up, Table.at_erase n l p i up') tt))
      (λ a. rw (Table.at_erase_other m i j (eqb-false i j a), Table.at_erase_other n i j (eqb-false i j a)) (each j))

rising_more : {A : Type 0} (m : List (Row A)) (l n : ℕ) → Rising l n m → Rising l (suc n) m
rising_more [] l n u = omega arith
rising_more (r ∷ m) l n u = (u.0, rising_more m (suc r.id) n u.1)

-- Each step of the registry is that of the book.

pub follow_account : (r : Registry) (k : Book) → FollowsRegistry r k → (i : ℕ) (e : Entry) → BudgetEntry r i e
    → (f : Account → Account) (g : Budget → Budget) → ((b : Budget) → Agrees e.account b → Agrees (f e.account) (g b))
    → FollowsRegistry (budget i f r) (book.on_budget i g k)
follow_account r k F i e B f g step =
    let (b, there, agrees) = budget_page r k F i e B in
    record {
      next = F.next;
      objects_rising = F.objects_rising;
      budgets_rising = Table.rising_alter k.budgets 1 k.next i g F.budgets_rising;
      object = match_first SameObject (λ e. ⊥) r.rows k.objects F.object i (on_account f) e B.here same;
      budget = match_alter SameBudget (λ e. is_budget_kind e.kind ≡ false) r.rows k.budgets F.budget i (on_account f) g e b B.here there
          (record { kind = kind_shown e.kind B.kind; account = step b agrees });
    }
  where
    same : (o : Option Object) → ObjectMatch (Some e) o → ObjectMatch (Some (on_account f e)) o
    same None m = m
    same (Some o) m = record { payer = m.payer; charge = m.charge }

follow_charge : (r : Registry) (k : Book) → FollowsRegistry r k → (i : ℕ) (e : Entry) → at r.rows i ≡ Some e → (g : ℕ → ℕ)
    → FollowsRegistry (object i g r) (book.on_charge i g k)
follow_charge r k F i e here g =
    let (o, there, m) = object_page r k F i e here in
    record {
      next = F.next;
      objects_rising = Table.rising_alter k.objects 1 k.next i (λ o. record { payer = o.payer; charge = g o.charge }) F.objects_rising;
      budgets_rising = F.budgets_rising;
      object = match_alter SameObject (λ e. ⊥) r.rows k.objects F.object i (registry.on_charge g)
          (λ o. record { payer = o.payer; charge = g o.charge }) e o here there (record { payer = m.payer; charge = ap g m.charge });
      budget = match_first SameBudget (λ e. is_budget_kind e.kind ≡ false) r.rows k.budgets F.budget i (registry.on_charge g) e here same;
    }
  where
    same : (b : Option Budget) → BudgetMatch (Some e) b → BudgetMatch (Some (registry.on_charge g e)) b
    same None m = m
    same (Some b) m = record { kind = m.kind; account = m.account }

-- the next id is free in the three tables
module _ (r : Registry) (k : Book) (F : FollowsRegistry r k) (up : Rising 1 r.next r.rows) where
  no_entry : at r.rows r.next ≡ None
  no_entry = Table.at_above r.rows 1 r.next r.next up (omega arith)

  no_object : at k.objects r.next ≡ None
  no_object = Table.at_above k.objects 1 k.next r.next F.objects_rising (omega (arith, F.next))

  no_budget : at k.budgets r.next ≡ None
  no_budget = Table.at_above k.budgets 1 k.next r.next F.budgets_rising (omega (arith, F.next))

  add_objects : (x : Entry) → (i : ℕ) → ObjectMatch (at (add x r).rows i) (at (book.add_object x.payer x.charge k).objects i)
  add_objects x = rw (← F.next) (match_add SameObject (λ e. ⊥) r.rows k.objects F.object r.next x
      (record { payer = x.payer; charge = x.charge }) no_entry no_object (record { payer = refl; charge = refl }))

  follow_add : (x : Entry) → is_budget_kind x.kind ≡ false → FollowsRegistry (add x r) (book.add_object x.payer x.charge k)
  follow_add x h = record {
    next = ap suc F.next;
    objects_rising = Table.rising_snoc k.objects 1 k.next (record { payer = x.payer; charge = x.charge }) F.objects_rising;
    budgets_rising = rising_more k.budgets 1 k.next F.budgets_rising;
    object = add_objects x;
    budget = match_add_first SameBudget (λ e. is_budget_kind e.kind ≡ false) r.rows k.budgets F.budget r.next x no_entry no_budget h;
  }

  follow_add_budget : (x : Entry) (b : Budget) → is_budget_kind x.kind ≡ true → Agrees x.account b
      → FollowsRegistry (add x r) (book.add_object x.payer x.charge (book.add_budget b k))
  follow_add_budget x b h g = record {
    next = ap suc F.next;
    objects_rising = Table.rising_snoc k.objects 1 k.next (record { payer = x.payer; charge = x.charge }) F.objects_rising;
    budgets_rising = Table.rising_snoc k.budgets 1 k.next b F.budgets_rising;
    object = add_objects x;
    budget = rw (← F.next) (match_add SameBudget (λ e. is_budget_kind e.kind ≡ false) r.rows k.budgets F.budget r.next x b no_entry no_budget
        (record { kind = h; account = g }));
  }

  follow_remove : (i : ℕ) → FollowsRegistry (drop i r) (book.remove_object i k)
  follow_remove i = record {
    next = F.next;
    objects_rising = Table.rising_erase k.objects 1 k.next i F.objects_rising;
    budgets_rising = Table.rising_erase k.budgets 1 k.next i F.budgets_rising;
    object = match_erase SameObject (λ e. ⊥) r.rows k.objects F.object i 1 r.next k.next up F.objects_rising;
    budget = match_erase SameBudget (λ e. is_budget_kind e.kind ≡ false) r.rows k.budgets F.budget i 1 r.next k.next up F.budgets_rising;
  }

-- One call: what it leaves is followed by what the book writes.

abbrev Written : Call → Book → RegistryReply → Type 0
Written c k a = FollowsRegistry a.after (write c a.number k)

plain_follows : (r : Registry) (k : Book) (kind : Kind) (payer n : ℕ) (e : Entry) → Sound r → FollowsRegistry r k → BudgetEntry r payer e → is_budget_kind kind ≡ false
    → FollowsRegistry (added r (λ a. account.charge a n) (plain kind payer n)) (book.add_object payer n (book.on_budget payer (book.charge n) k))
plain_follows r k kind payer n e s F B other =
    follow_add (budget payer (λ a. account.charge a n) r) (book.on_budget payer (book.charge n) k)
    (follow_account r k F payer e B (λ a. account.charge a n) (book.charge n) (λ b g. charge_agrees e.account b n g))
    (Table.rising_alter r.rows 1 r.next payer (on_account (λ a. account.charge a n)) s.rising) (plain kind payer n) other

pub renew_follows : (r : Registry) (k : Book) (i t : ℕ) (e : Entry) → Sound r → FollowsRegistry r k → BudgetEntry r i e
    → FollowsRegistry (budget i (λ a. renew a t) r) (book.on_budget i (book.renew t) k)
renew_follows r k i t e s F B = follow_account r k F i e B (λ a. renew a t) (book.renew t) (λ b g. renew_agrees e.account b t (calls.budget_sound s B) g)

-- the limits of an entry, budget or not, are those that the book reads
limits_same : (r : Registry) (k : Book) → Sound r → FollowsRegistry r k → (i : ℕ) (e : Entry) → at r.rows i ≡ Some e → SameLimits e.account (budget_of k i)
limits_same r k s F i e here = go (at k.budgets i) refl
  where
    go : (o : Option Budget) → at k.budgets i ≡ o → SameLimits e.account (budget_of k i)
    go None q =
        let p = (s.each i e here).plain (rw (here, q) at (F.budget i)) in
        rw (p, ap book.or_no_budget q) (record { cpu = refl; memory = refl })
    go (Some b) q =
        let m : SameBudget e b = rw (here, q) at (F.budget i) in
        rw (ap book.or_no_budget q) (record { cpu = m.account.allowance; memory = m.account.limit })

same_free : (a : Account) (b : Budget) → Agrees a b → account.free a ≡ book.free b
same_free a b g = omega arith

module _ (r : Registry) (k : Book) (s : Sound r) (F : FollowsRegistry r k) where
  insert_follows : (kind payer n : ℕ) → Written (insert kind payer n) k (run (insert kind payer n) r)
  insert_follows kind payer n =
      calls.insert_cases (Written (insert kind payer n) k) kind payer n r (λ q h. rw h (test (eqb q 12) (λ a. rw a F) (λ a. rw a F)))
      λ e B code other room covers. plain_follows r k (kind_of kind) payer n e s F B other

  create_follows : (kind payer : ℕ) (backing : Bool) → Written (create kind payer backing) k (run (create kind payer backing) r)
  create_follows kind payer backing =
      calls.create_cases (Written (create kind payer backing) k) kind payer backing r (λ q h. rw h (test (eqb q 12) (λ a. rw a F) (λ a. rw a F)))
      λ e B code other room covers. plain_follows r k (kind_of kind) payer (bytes_of (kind_of kind)) e s F B other

  refill_follows : (i t : ℕ) → Written (refill i t) k (run (refill i t) r)
  refill_follows i t =
      calls.refill_cases (Written (refill i t) k) i t r (λ q h. rw h (test (eqb q 12) (λ a. rw a F) (λ a. rw a F)))
      λ e B. renew_follows r k i t e s F B

  charge_cpu_follows : (i ns t : ℕ) → Written (charge_cpu i ns t) k (run (charge_cpu i ns t) r)
  charge_cpu_follows i ns t =
      calls.charge_cpu_cases (Written (charge_cpu i ns t) k) i ns t r (λ q h h'. rw (h, h') F) (λ e B. renew_follows r k i t e s F B)
      λ e B covers.
      follow_account r k F i e B (λ a. account.spend (renew a t) ns) (λ b. book.take_cpu ns (book.renew t b)) λ b g.
      spend_agrees (renew e.account t) (book.renew t b) ns covers (renew_agrees e.account b t (calls.budget_sound s B) g)

  create_budget_follows : (parent cpu memory t : ℕ) → Written (create_budget parent cpu memory t) k (run (create_budget parent cpu memory t) r)
  create_budget_follows parent cpu memory t =
      calls.create_budget_cases (Written (create_budget parent cpu memory t) k) parent cpu memory t r (λ q h h'. rw (h, h') F)
      (λ e B poor. let (b, there, g) = budget_page r k F parent e B in
      rw (ap book.or_no_budget there, ← same_free e.account b g, poor) F)
      (λ e B rich. let (b, there, g) = budget_page r k F parent e B in
      rw (ap book.or_no_budget there, ← same_free e.account b g, rich) (renew_follows r k parent t e s F B))
      λ e B few C.
      let (b, there, g) = budget_page r k F parent e B in
      let renewed : (b : Budget) → Agrees e.account b → Agrees (renew e.account t) (book.renew t b) =
      λ b g. renew_agrees e.account b t (calls.budget_sound s B) g in
      rw (ap book.or_no_budget there)
      (follow_add_budget (budget parent (carve cpu memory t) r) (book.on_budget parent (λ b. book.carve cpu memory (book.charge 128 (book.renew t b))) k)
      (follow_account r k F parent e B (carve cpu memory t) (λ b. book.carve cpu memory (book.charge 128 (book.renew t b))) λ b g.
      reserve_agrees (account.charge (renew e.account t) 128) (book.charge 128 (book.renew t b)) cpu memory C.cpu_left
      (charge_agrees (renew e.account t) (book.renew t b) 128 (renewed b g)))
      (Table.rising_alter r.rows 1 r.next parent (on_account (carve cpu memory t)) s.rising)
      (carved parent cpu memory (renew e.account t)) (book.new_budget cpu memory (book.renew t b).start) refl
      (fresh_agrees cpu memory (renew e.account t).period_start (book.renew t b).start (renewed b g).start))

  -- the charge of an object and its payer's budget
  both_follow : (i : ℕ) (e y : Entry) → ObjectEntry r i e y → (f : Account → Account) (g : Budget → Budget) (h : ℕ → ℕ)
      → ((b : Budget) → Agrees y.account b → Agrees (f y.account) (g b))
      → FollowsRegistry (object i h (budget e.payer f r)) (book.on_charge i h (book.on_budget (object_of k i).payer g k))
  both_follow i e y O f g h step =
      let (o, there, m) = object_page r k F i e O.here in
      let (d, at_d, payer, charge) = at_on_account r.rows e.payer i f e O.here in
      rw (ap book.or_no_object there, ← m.payer)
      (follow_charge (budget e.payer f r) (book.on_budget e.payer g k) (follow_account r k F e.payer y O.payer f g step) i d at_d h)

  charge_more_follows : (i n : ℕ) → Written (charge_more i n) k (run (charge_more i n) r)
  charge_more_follows i n =
      calls.charge_more_cases (Written (charge_more i n) k) i n r s (λ q h. rw h (test (eqb q 12) (λ a. rw a F) (λ a. rw a F)))
      λ e y O covers. both_follow i e y O (λ a. account.charge a n) (book.charge n) (λ c. c + n) (λ b g. charge_agrees y.account b n g)

  uncharge_follows : (i n : ℕ) → Written (uncharge i n) k (run (uncharge i n) r)
  uncharge_follows i n =
      calls.uncharge_cases (Written (uncharge i n) k) i n r s (λ q h. rw h (test (eqb q 12) (λ a. rw a F) (λ a. rw a F)))
      λ e y O covers.
      let within = charge_within r i e y s O in
      both_follow i e y O (λ a. account.credit a n) (book.credit n) (λ c. c - n) (λ b g. credit_agrees y.account b n (omega arith) g)

  remove_follows : (i t : ℕ) → Written (remove i t) k (run (remove i t) r)
  remove_follows i t =
      calls.remove_cases (Written (remove i t) k) i t r s (λ q h. rw h (test (eqb q 12) (λ a. rw a F) (λ a. rw a F)))
      λ e y O not_root u.
      let (o, there, m) = object_page r k F i e O.here in
      let low = (s.each i e O.here).lower not_root in
      let still = Table.at_erase_other r.rows i e.payer (λ q. omega arith) ∙ O.payer.here in
      let live : is_live k i ≡ is_budget_kind e.kind = live_same r k F i ∙ ap (λ (x : Entry). is_budget_kind x.kind) O.read in
      let b = is_budget_kind e.kind in
      let y_sound = calls.budget_sound s O.payer in
      let renewed = calls.renew_if_moves b y.account t y_sound in
      let within = limits_within r i e y s O not_root in
      let charged = charge_within r i e y s O in
      rw (ap book.or_no_object there, ← m.payer, ← m.charge, live)
      (follow_account (drop i r) (book.remove_object i k) (follow_remove r k F s.rising i) e.payer y
      (record { here = still; kind = O.payer.kind; read = ap or_missing still })
      (release e t) (λ x. book.credit e.charge (book.return (budget_of k i) (book.renew_if b t x))) λ x g.
      credit_agrees (account.return (renew_if b t y.account) e.account) (book.return (budget_of k i) (book.renew_if b t x)) e.charge
      (omega (arith, renewed.used))
      (return_agrees (renew_if b t y.account) e.account (book.renew_if b t x) (budget_of k i)
      (record { memory = omega (arith, renewed.memory_reserved, within.memory); cpu = omega (arith, renewed.cpu_reserved, within.cpu) })
      (limits_same r k s F i e O.here) (renew_if_agrees b y.account x t y_sound g)))

pub write_follows : (c : Call) (r : Registry) (k : Book) → Sound r → FollowsRegistry r k → FollowsRegistry (run c r).after (write c (run c r).number k)
write_follows (create kind payer backing) r k s F = create_follows r k s F kind payer backing
write_follows (insert kind payer n) r k s F = insert_follows r k s F kind payer n
write_follows (create_budget parent cpu memory t) r k s F = create_budget_follows r k s F parent cpu memory t
write_follows (charge_more i n) r k s F = charge_more_follows r k s F i n
write_follows (uncharge i n) r k s F = uncharge_follows r k s F i n
write_follows (remove i t) r k s F = remove_follows r k s F i t
write_follows (refill i t) r k s F = refill_follows r k s F i t
write_follows (charge_cpu i ns t) r k s F = charge_cpu_follows r k s F i ns t
write_follows (pays_for_anything i) r k s F = F
write_follows (read_account i) r k s F = asked (Written (read_account i) k) (is_budget r i) F (λ h. F)
write_follows (charge_of i) r k s F = asked (Written (charge_of i) k) (has r i) F (λ h. F)
write_follows (read_totals i) r k s F = asked (Written (read_totals i) k) (is_budget r i) F (λ h. F)

pub kept : (c : Call) (r : Registry) → Sound r → Sound (run c r).after
kept (create kind payer backing) r s = calls.create_kept kind payer backing r s
kept (insert kind payer n) r s = calls.insert_kept kind payer n r s
kept (create_budget parent cpu memory t) r s = calls.create_budget_kept parent cpu memory t r s
kept (charge_more i n) r s = calls.charge_more_kept i n r s
kept (uncharge i n) r s = calls.uncharge_kept i n r s
kept (remove i t) r s = calls.remove_kept i t r s
kept (refill i t) r s = calls.refill_kept i t r s
kept (charge_cpu i ns t) r s = calls.charge_cpu_kept i ns t r s
kept (pays_for_anything i) r s = s
kept (read_account i) r s = asked (λ a. Sound a.after) (is_budget r i) s (λ h. s)
kept (charge_of i) r s = asked (λ a. Sound a.after) (has r i) s (λ h. s)
kept (read_totals i) r s = asked (λ a. Sound a.after) (is_budget r i) s (λ h. s)

-- Lists of calls.

-- the registry is sound, and the book follows it
pub record Stands (r : Registry) (k : Book) : Type 0 where
  pub sound : Sound r
  pub follows : FollowsRegistry r k

pub after_stands : (cs : List Call) (r : Registry) (k : Book) → Stands r k → Stands (after cs r) (write_all (numbers cs r) k)
after_stands [] r k h = h
after_stands (c ∷ cs) r k h =
    after_stands cs (run c r).after (write c (run c r).number k)
    (record { sound = kept c r h.sound; follows = write_follows c r k h.sound h.follows })

pub opening_follows : (cpu memory : ℕ) → FollowsRegistry (registry.opening cpu memory) (book.opening cpu memory)
opening_follows cpu memory = record {
  next = refl;
  objects_rising = (omega arith, omega arith);
  budgets_rising = (omega arith, omega arith);
  object = λ i. test (eqb 1 i) (λ a. rw a (record { payer = refl; charge = refl })) (λ a. rw a tt);
  budget = λ i. test (eqb 1 i) (λ a. rw a (record { kind = refl; account = fresh_agrees cpu memory 0 0 refl })) (λ a. rw a tt);
}

pub opening_stands : (cpu memory : ℕ) → cpu ≤ period → Stands (registry.opening cpu memory) (book.opening cpu memory)
opening_stands cpu memory h = record { sound = calls.opening_sound cpu memory h; follows = opening_follows cpu memory }

-- an account that agrees with its budget in the book has the book's figures
pub agrees_differences : (a : Account) (b : Budget) → Agrees a b → Differences b
agrees_differences a b g = record {
  credited_charged = omega (arith, g.used);
  memory_returned_carved = omega (arith, g.memory_reserved);
  cpu_returned_carved = omega (arith, g.cpu_reserved);
  cpu_gone_allowed = omega (arith, g.left);
}

pub agrees_line : (a : Account) (b : Budget) → Agrees a b → line a ≡ figures b
agrees_line a b g =
    let used : a.memory_used ≡ book.memory_used b = omega arith in
    let memory : a.memory_reserved ≡ book.memory_reserved b = omega arith in
    let cpu : a.cpu_reserved ≡ book.cpu_reserved b = omega arith in
    let left : a.cpu_left ≡ book.cpu_left b = omega arith in
    λ j. record { memory_used = used j; memory_reserved = memory j; cpu_reserved = cpu j; cpu_left = left j }

-- Demand 3 for the registry's calls.
pub lines_are_figures : (cpu memory : ℕ) → cpu ≤ period → (cs : List Call) (i : ℕ) → is_budget (after cs (registry.opening cpu memory)) i ≡ true
    → line (account_of (after cs (registry.opening cpu memory)) i) ≡ figures (budget_of (book_after cs cpu memory) i)
lines_are_figures cpu memory h cs i live =
    let S = after_stands cs (registry.opening cpu memory) (book.opening cpu memory) (opening_stands cpu memory h) in
    agrees_line _ _ (budget_agrees (after cs (registry.opening cpu memory)) (book_after cs cpu memory) S.follows i live)

-- the budgets live by the book are exactly the registry's live budgets
pub live_are_budgets : (cpu memory : ℕ) → cpu ≤ period → (cs : List Call) (i : ℕ)
    → is_live (book_after cs cpu memory) i ≡ is_budget (after cs (registry.opening cpu memory)) i
live_are_budgets cpu memory h cs i =
    let S = after_stands cs (registry.opening cpu memory) (book.opening cpu memory) (opening_stands cpu memory h) in
    live_same (after cs (registry.opening cpu memory)) (book_after cs cpu memory) S.follows i

-- after two lists of calls, the lines of a budget that is live after both are equal exactly where the book's figures are
pub equal_lines : (cpu memory : ℕ) → cpu ≤ period → (cs : List Call) → (cpu' memory' : ℕ) → cpu' ≤ period → (cs' : List Call) → (i : ℕ)
    → is_budget (after cs (registry.opening cpu memory)) i ≡ true → is_budget (after cs' (registry.opening cpu' memory')) i ≡ true
    → (line (account_of (after cs (registry.opening cpu memory)) i) ≡ line (account_of (after cs' (registry.opening cpu' memory')) i)
    → figures (budget_of (book_after cs cpu memory) i) ≡ figures (budget_of (book_after cs' cpu' memory') i))
    × (figures (budget_of (book_after cs cpu memory) i) ≡ figures (budget_of (book_after cs' cpu' memory') i)
    → line (account_of (after cs (registry.opening cpu memory)) i) ≡ line (account_of (after cs' (registry.opening cpu' memory')) i))
equal_lines cpu memory h cs cpu' memory' h' cs' i live live' =
    let e = lines_are_figures cpu memory h cs i live in
    let e' = lines_are_figures cpu' memory' h' cs' i live' in
    (λ q. sym e ∙ q ∙ e', λ q. e ∙ q ∙ sym e')
