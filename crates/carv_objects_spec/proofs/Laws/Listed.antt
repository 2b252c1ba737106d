-- P3 for the registry's calls: beside the invariant, the ledger has every live budget, with its payer and its allowance. Assumes nothing.
use Rattle.std.specs.Prelude.{◌≡◌, refl, true, false, List, [], ◌∷◌, ℕ, ◌+◌, ◌-◌, ◌≤◌, ◌<◌, min, eqb, Some, None}
use Rattle.std.proofs.Common.{sym, ◌∙◌, arith, eq-eqb, ne_eqb}
use Rattle.carv_area.specs.Laws.Table
use Rattle.carv_area.specs.Table.{Row, at}
use Rattle.carv_area.specs.Laws.Table.{All, test}
use Rattle.carv_budget.specs.declared.Account.{Account}
use Rattle.carv_budget.specs.Account as account
use Rattle.carv_budget.specs.Account.{renew, spend}
use Rattle.carv_budget.proofs.Laws.Account as account_laws
use Rattle.carv_objects_spec.specs.declared.kind.Kind.{Kind}
use Rattle.carv_objects_spec.specs.declared.kind.Kind.TheVariants.{Budget}
use Rattle.carv_objects_spec.specs.Kinds.{kind_of, bytes_of, is_budget_kind}
use Rattle.carv_objects_spec.proofs.Laws.Kinds.{kind_apart}
use Rattle.carv_objects_spec.specs.declared.Entry.{Entry}
use Rattle.carv_objects_spec.proofs.Laws.Asked.{asked}
use Rattle.carv_objects_spec.specs.Registry as registry
use Rattle.carv_objects_spec.specs.Registry.{Registry, RegistryReply, is_budget, has, account_of, on_account, on_charge, budget, plain, carved, charge_most}
use Rattle.carv_objects_spec.proofs.Laws.SoundFacts.{Sound}
use Rattle.carv_objects_spec.proofs.Laws.Steps.{BudgetEntry, ObjectEntry, at_on_account, added, charged, removed}
use Rattle.carv_objects_spec.proofs.Laws.Kept as calls
use Rattle.carv_objects_spec.proofs.Laws.Kept.{live_budget, carve, release}
use Rattle.carv_objects_spec.specs.Book.{Call, create, insert, create_budget, charge_more, uncharge, remove, refill, charge_cpu, pays_for_anything, read_account, charge_of, read_totals}
use Rattle.carv_objects_spec.specs.Runs.{run}
use Rattle.carv_objects_spec.specs.Ledger.{Carved, Ledger, accepted, note_charge, note, clock}
use Rattle.carv_objects_spec.specs.Ledger as ledger
use Rattle.carv_objects_spec.proofs.Laws.Spending.{after_clock, InLedger, Balanced, clock_step, KeepsShare, altered, alter_at, add_at, erase_at}
use Rattle.carv_objects_spec.proofs.Laws.Overspending.{keeps_account, keeps_charge, renew_keeps, release_keeps, renew_balanced, call_balanced, charge_most_balanced, opening_balanced}

-- what the ledger says of a live budget
abbrev pub row_of : Entry → Carved
row_of e = record { parent = e.payer; allowance = e.account.cpu_allowance }

abbrev pub Listed : Registry → List (Row Carved) → Type 0
Listed r m = (i : ℕ) (e : Entry) → at r.rows i ≡ Some e → e.kind ≡ Budget → at m i ≡ Some (row_of e)

alter_listed : (r : Registry) (m : List (Row Carved)) (i : ℕ) (y : Entry) (g : Entry → Entry) → at r.rows i ≡ Some y → KeepsShare g → Listed r m → Listed (altered i g r) m
alter_listed r m i y g here k L =
    alter_at r i y g here k (λ j d. d.kind ≡ Budget → at m j ≡ Some (row_of d))
    (λ q. rw (k.payer y, k.allowance y) (L i y here (sym (k.kind y) ∙ q)))
    (λ j d apart h. L j d h)

-- an entry that is no budget is added
plain_listed : (r : Registry) (m : List (Row Carved)) (kind : Kind) (payer n : ℕ) (e : Entry) → Sound r → BudgetEntry r payer e → is_budget_kind kind ≡ false → Listed r m
    → Listed (added r (λ a. account.charge a n) (plain kind payer n)) m
plain_listed r m kind payer n e s B other L =
    let f : Account → Account = λ a. account.charge a n in
    add_at (budget payer f r) (plain kind payer n) (Table.rising_alter r.rows 1 r.next payer (on_account f) s.rising) (λ j d. d.kind ≡ Budget → at m j ≡ Some (row_of d))
    (λ q. absurd (kind_apart kind other q)) (alter_listed r m payer e (on_account f) B.here (keeps_account f (λ a. refl)) L)

-- a budget is added
carve_listed : (r : Registry) (m : List (Row Carved)) (parent cpu memory t : ℕ) (e : Entry) → Sound r → BudgetEntry r parent e → Listed r m
    → Listed (added r (carve cpu memory t) (carved parent cpu memory (renew e.account t))) (record { id = r.next; it = record { parent = parent; allowance = cpu } } ∷ m)
carve_listed r m parent cpu memory t e s B L =
    let f = carve cpu memory t in
    let L₁ = alter_listed r m parent e (on_account f) B.here (keeps_account f (λ a. (account_laws.renewal a t).cpu_allowance)) L in
    let up = Table.rising_alter r.rows 1 r.next parent (on_account f) s.rising in
    add_at (budget parent f r) (carved parent cpu memory (renew e.account t)) up
    (λ j d. d.kind ≡ Budget → at (record { id = r.next; it = record { parent = parent; allowance = cpu } } ∷ m) j ≡ Some (row_of d))
    (λ q. rw (eq-eqb r.next r.next refl))
    (λ j d h q. rw (ne_eqb r.next j (λ z. absurd_at (budget parent f r).rows j d (rw z at (Table.at_above (budget parent f r).rows 1 r.next r.next up (omega arith))) h)) (L₁ j d h q))
  where
    absurd_at : (rows : List (Row Entry)) (j : ℕ) (d : Entry) → at rows j ≡ None → at rows j ≡ Some d → ⊥
    absurd_at rows j d h k = let z : ◌≡◌ {A = ℕ} 0 1 = cc in omega arith

-- the charge of an entry and its payer's account
charged_listed : (r : Registry) (m : List (Row Carved)) (i : ℕ) (e y : Entry) (used : Account → ℕ) (g : ℕ → ℕ) → ObjectEntry r i e y → Listed r m
    → Listed (charged r i e (λ a. account.with_memory a (used a) a.memory_reserved) g) m
charged_listed r m i e y used g O L =
    let f : Account → Account = λ a. account.with_memory a (used a) a.memory_reserved in
    let (d, at_d, payer, charge) = at_on_account r.rows e.payer i f e O.here in
    alter_listed (budget e.payer f r) m i d (on_charge g) at_d (keeps_charge g)
    (alter_listed r m e.payer y (on_account f) O.payer.here (keeps_account f (λ a. refl)) L)

-- an entry goes
removed_listed : (r : Registry) (m : List (Row Carved)) (i t : ℕ) (e y : Entry) → Sound r → ObjectEntry r i e y → (i ≡ 1 → ⊥) → Listed r m → Listed (removed r i e (release e t)) m
removed_listed r m i t e y s O not_root L =
    let f = release e t in
    let low = (s.each i e O.here).lower not_root in
    let L₁ = alter_listed r m e.payer y (on_account f) O.payer.here (release_keeps e t) L in
    rw (← Table.erase_alter r.rows i e.payer (on_account f) (λ q. omega arith))
    (λ j d h. L₁ j d (erase_at (budget e.payer f r) i (Table.rising_alter r.rows 1 r.next e.payer (on_account f) s.rising) j d h))

renew_listed : (r : Registry) (m : List (Row Carved)) (i t : ℕ) (e : Entry) → BudgetEntry r i e → Listed r m → Listed (budget i (λ a. renew a t) r) m
renew_listed r m i t e B L = alter_listed r m i e (on_account (λ a. renew a t)) B.here (renew_keeps t) L

spend_listed : (r : Registry) (m : List (Row Carved)) (i t : ℕ) (e : Entry) (ns : Account → ℕ) → BudgetEntry r i e → Listed r m → Listed (budget i (λ a. spend (renew a t) (ns a)) r) m
spend_listed r m i t e ns B L =
    alter_listed r m i e (on_account (λ a. spend (renew a t) (ns a))) B.here (keeps_account (λ a. spend (renew a t) (ns a)) (λ a. (account_laws.renewal a t).cpu_allowance)) L

-- Each call.

abbrev Lists : Call → Registry → Ledger → RegistryReply → Type 0
Lists c r l a = Listed a.after (note c a.number r.next l).budgets

call_listed : (c : Call) (r : Registry) (l : Ledger) → Sound r → Listed r l.budgets → Listed (run c r).after (note c (run c r).number r.next l).budgets
call_listed (create kind payer backing) r l s L =
    calls.create_cases (Lists (create kind payer backing) r l) kind payer backing r (λ q h. rw h L)
    λ e B code other room covers. plain_listed r l.budgets (kind_of kind) payer (bytes_of (kind_of kind)) e s B other L
call_listed (insert kind payer n) r l s L =
    calls.insert_cases (Lists (insert kind payer n) r l) kind payer n r (λ q h. rw h L) λ e B code other room covers. plain_listed r l.budgets (kind_of kind) payer n e s B other L
call_listed (create_budget parent cpu memory t) r l s L =
    calls.create_budget_cases (Lists (create_budget parent cpu memory t) r l) parent cpu memory t r (λ q h k. rw h L) (λ e B poor. L)
    (λ e B rich. renew_listed r l.budgets parent t e B L) λ e B room C. carve_listed r l.budgets parent cpu memory t e s B L
call_listed (charge_more i n) r l s L =
    calls.charge_more_cases (Lists (charge_more i n) r l) i n r s (λ q h. rw h L)
    λ e y O covers. charged_listed r l.budgets i e y (λ a. a.memory_used + n) (λ c. c + n) O L
call_listed (uncharge i n) r l s L =
    calls.uncharge_cases (Lists (uncharge i n) r l) i n r s (λ q h. rw h L)
    λ e y O covers. charged_listed r l.budgets i e y (λ a. a.memory_used - n) (λ c. c - n) O L
call_listed (remove i t) r l s L =
    calls.remove_cases (Lists (remove i t) r l) i t r s (λ q h. rw h L) λ e y O not_root u. removed_listed r l.budgets i t e y s O not_root L
call_listed (refill i t) r l s L = calls.refill_cases (Lists (refill i t) r l) i t r (λ q h. rw h L) λ e B. renew_listed r l.budgets i t e B L
call_listed (charge_cpu i ns t) r l s L =
    calls.charge_cpu_cases (Lists (charge_cpu i ns t) r l) i ns t r (λ q h k. rw h L) (λ e B. renew_listed r l.budgets i t e B L)
    λ e B covers. spend_listed r l.budgets i t e (λ a. ns) B L
call_listed (pays_for_anything i) r l s L = L
call_listed (read_account i) r l s L = asked (Lists (read_account i) r l) (is_budget r i) L (λ k. L)
call_listed (charge_of i) r l s L = asked (Lists (charge_of i) r l) (has r i) L (λ k. L)
call_listed (read_totals i) r l s L = asked (Lists (read_totals i) r l) (is_budget r i) L (λ k. L)

charge_most_listed : (r : Registry) (m : List (Row Carved)) (i ns t : ℕ) → Listed r m → Listed (charge_most i ns t r) m
charge_most_listed r m i ns t L = test (is_budget r i)
    (λ a. rw a (let (e, B) = live_budget r i a in spend_listed r m i t e (λ x. min ns (renew x t).cpu_left) B L))
    (λ a. rw a L)

opening_listed : (cpu memory : ℕ) → Listed (registry.opening cpu memory) (ledger.opening cpu).budgets
opening_listed cpu memory =
    Table.at_all (λ i e. e.kind ≡ Budget → at (ledger.opening cpu).budgets i ≡ Some (row_of e)) (registry.opening cpu memory).rows (λ q. refl, tt)

-- The latest budget stands first.

-- each id is above those behind it
abbrev pub Falling : List (Row Carved) → Type 0
Falling [] = Unit {0}
Falling (x ∷ m) = All (λ j c. j < x.id) m × Falling m

taken : (r : Registry) (m : List (Row Carved)) → All (InLedger r) m → All (λ j c. j < r.next) m
taken r [] a = tt
taken r (x ∷ m) a = (a.0.taken, taken r m a.1)

-- a call writes at most the next id, in front
pub note_falling : (c : Call) (number : ℕ) (r : Registry) (l : Ledger) → All (InLedger r) l.budgets → Falling l.budgets → Falling (note c number r.next l).budgets
note_falling c number r l a f = test (eqb number 0) (λ h. rw h (accepted_falling c)) (λ h. rw h f)
  where
    accepted_falling : (c : Call) → Falling (accepted c r.next l).budgets
    accepted_falling (create kind payer backing) = f
    accepted_falling (insert kind payer bytes) = f
    accepted_falling (create_budget parent cpu memory time) = (taken r l.budgets a, f)
    accepted_falling (charge_more i bytes) = f
    accepted_falling (uncharge i bytes) = f
    accepted_falling (remove i time) = f
    accepted_falling (refill i time) = f
    accepted_falling (charge_cpu i ns time) = f
    accepted_falling (pays_for_anything i) = f
    accepted_falling (read_account i) = f
    accepted_falling (charge_of i) = f
    accepted_falling (read_totals i) = f

-- All three: the ledger is in order.

pub record InOrder (r : Registry) (l : Ledger) (clock : ℕ) : Type 0 where
  pub balanced : Balanced r l clock
  pub listed : Listed r l.budgets
  pub falling : Falling l.budgets

pub clock_in_order : (r : Registry) (l : Ledger) (T t : ℕ) → T ≤ t → InOrder r l T → InOrder r l t
clock_in_order r l T t h O = record { balanced = clock_step r l T t h O.balanced; listed = O.listed; falling = O.falling }

pub call_in_order : (c : Call) (r : Registry) (l : Ledger) (T : ℕ) → Sound r → T ≤ after_clock T (clock c) → InOrder r l T
    → InOrder (run c r).after (note c (run c r).number r.next l) (after_clock T (clock c))
call_in_order c r l T s h O = record {
  balanced = call_balanced c r l T s h O.balanced;
  listed = call_listed c r l s O.listed;
  falling = note_falling c (run c r).number r l O.balanced.budgets O.falling;
}

pub renew_in_order : (r : Registry) (l : Ledger) (i t : ℕ) (e : Entry) → Sound r → BudgetEntry r i e → InOrder r l t → InOrder (budget i (λ a. renew a t) r) l t
renew_in_order r l i t e s B O =
    record { balanced = renew_balanced r s l i t e B O.balanced; listed = renew_listed r l.budgets i t e B O.listed; falling = O.falling }

pub charge_most_in_order : (r : Registry) (l : Ledger) (i ns t : ℕ) → Sound r → is_budget r i ≡ true → InOrder r l t
    → InOrder (charge_most i ns t r) (note_charge i (min ns (renew (account_of r i) t).cpu_left) t l) t
charge_most_in_order r l i ns t s live O = record {
  balanced = charge_most_balanced r l i ns t s live O.balanced;
  listed = charge_most_listed r l.budgets i ns t O.listed;
  falling = O.falling;
}

pub opening_in_order : (cpu memory : ℕ) → InOrder (registry.opening cpu memory) (ledger.opening cpu) 0
opening_in_order cpu memory = record { balanced = opening_balanced cpu memory; listed = opening_listed cpu memory; falling = (tt, tt) }
