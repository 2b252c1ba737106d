-- P3 for the registry's calls: each keeps the invariant of Spending.antt. Assumes nothing.
use Rattle.std.specs.Prelude.{◌≡◌, refl, Bool, true, false, ℕ, ◌+◌, ◌-◌, ◌*◌, ◌/◌, ◌≤◌, min, eqb, Some}
use Rattle.std.proofs.Common.{sym, ◌∙◌, ap, subst, arith}
use Rattle.std.proofs.Math.Nat.{sub-zero}
use Rattle.carv_area.specs.Laws.Table
use Rattle.carv_area.specs.Table.{at}
use Rattle.carv_area.specs.Laws.Table.{test}
use Rattle.carv_budget.specs.declared.Account.{Account}
use Rattle.carv_budget.specs.Account as account
use Rattle.carv_budget.specs.Account.{period, renew, spend}
use Rattle.carv_budget.proofs.Laws.Account as account_laws
use Rattle.carv_objects_spec.specs.declared.kind.Kind.{Kind}
use Rattle.carv_objects_spec.specs.declared.kind.Kind.TheVariants.{Budget}
use Rattle.carv_objects_spec.specs.Kinds.{kind_of, bytes_of, is_budget_kind}
use Rattle.carv_objects_spec.specs.declared.Entry.{Entry}
use Rattle.carv_objects_spec.proofs.Laws.Asked.{asked}
use Rattle.carv_objects_spec.specs.Registry as registry
use Rattle.carv_objects_spec.specs.Registry.{Registry, RegistryReply, is_budget, has, account_of, on_account, on_charge, renew_if, budget, plain, carved, charge_most}
use Rattle.carv_objects_spec.proofs.Laws.SoundFacts.{Sound}
use Rattle.carv_objects_spec.proofs.Laws.Steps.{BudgetEntry, ObjectEntry, at_on_account, below_next, added, charged, removed}
use Rattle.carv_objects_spec.proofs.Laws.Kept as calls
use Rattle.carv_objects_spec.proofs.Laws.Kept.{budget_sound, live_budget, limits_within, carve, release, Carves}
use Rattle.carv_objects_spec.specs.Book.{Call, create, insert, create_budget, charge_more, uncharge, remove, refill, charge_cpu, pays_for_anything, read_account, charge_of, read_totals}
use Rattle.carv_objects_spec.specs.Runs.{run}
use Rattle.carv_objects_spec.specs.Ledger.{Ledger, spent, note_charge, note, clock}
use Rattle.carv_objects_spec.specs.Ledger as ledger
use Rattle.carv_objects_spec.proofs.Laws.Spending.{after_clock, held, held_now, Start, Renewed, renewed, renewed_start, Line, bounded, Balanced, clock_step, KeepsShare, alter_children, alter_step, add_step, note_step, erase_step, charge_step}

-- Accounts' steps.

pub keeps_account : (f : Account → Account) → ((a : Account) → (f a).cpu_allowance ≡ a.cpu_allowance) → KeepsShare (on_account f)
keeps_account f h = record { kind = λ e. refl; payer = λ e. refl; allowance = λ e. h e.account }

pub keeps_charge : (g : ℕ → ℕ) → KeepsShare (on_charge g)
keeps_charge g = record { kind = λ e. refl; payer = λ e. refl; allowance = λ e. refl }

pub renew_keeps : (t : ℕ) → KeepsShare (on_account (λ a. renew a t))
renew_keeps t = keeps_account (λ a. renew a t) (λ a. (account_laws.renewal a t).cpu_allowance)

pub release_keeps : (e : Entry) (t : ℕ) → KeepsShare (on_account (release e t))
release_keeps e t =
    keeps_account (release e t) (λ a. test (is_budget_kind e.kind) (λ h. rw h (account_laws.renewal a t).cpu_allowance) (λ h. rw h))

module _ (r : Registry) (s : Sound r) (l : Ledger) (i t : ℕ) (e : Entry) (B : BudgetEntry r i e) (W : Balanced r l t) where
  now : Renewed e.account (renew e.account t) t
  now = renewed e.account t (budget_sound s B) (W.starts i e B.here)

  now_start : Start t (renew e.account t)
  now_start = renewed_start e.account t (budget_sound s B) (W.starts i e B.here)

  pub renew_balanced : Balanced (budget i (λ a. renew a t) r) l t
  renew_balanced = alter_step r i e (on_account (λ a. renew a t)) B.here (renew_keeps t) l t now_start (omega (arith, now.held)) W

  -- so much of CPU left is charged
  pub spend_balanced : (ns : Account → ℕ) → ns e.account ≤ (renew e.account t).cpu_left
      → Balanced (budget i (λ a. spend (renew a t) (ns a)) r) (note_charge i (ns e.account) t l) t
  spend_balanced ns h =
      let a = e.account in
      let k = keeps_account (λ a. spend (renew a t) (ns a)) (λ a. (account_laws.renewal a t).cpu_allowance) in
      charge_step r s l i (ns a) t e B (λ a. spend (renew a t) (ns a)) k (record { whole = now_start.whole; before = now_start.before })
      (omega (arith, now.held, held_now (t / period) (renew a t) now.start, held_now (t / period) (spend (renew a t) (ns a)) now.start))
      (calls.spend_kept r i t e ns s B) W

-- a memory charge or credit of a budget
memory_balanced : (r : Registry) (l : Ledger) (i t : ℕ) (y : Entry) (used : Account → ℕ) → at r.rows i ≡ Some y → Balanced r l t
    → Balanced (budget i (λ a. account.with_memory a (used a) a.memory_reserved) r) l t
memory_balanced r l i t y used here W =
    alter_step r i y (on_account (λ a. account.with_memory a (used a) a.memory_reserved)) here (keeps_account _ (λ a. refl)) l t
    (record { whole = (W.starts i y here).whole; before = (W.starts i y here).before }) (omega arith) W

-- The calls' steps.

-- an account of zeros holds nothing
held_blank : (p : ℕ) → held p account.blank ≤ 0
held_blank p = test (eqb 0 (p * period)) (λ a. rw a (omega arith)) (λ a. rw a (omega arith))

plain_balanced : (r : Registry) (l : Ledger) (kind : Kind) (payer n t : ℕ) (e : Entry) → Sound r → BudgetEntry r payer e → Balanced r l t
    → Balanced (added r (λ a. account.charge a n) (plain kind payer n)) l t
plain_balanced r l kind payer n t e s B W =
    add_step (budget payer (λ a. account.charge a n) r) (plain kind payer n) l t
    (Table.rising_alter r.rows 1 r.next payer (on_account (λ a. account.charge a n)) s.rising)
    (record { whole = refl; before = omega arith }) (held_blank (t / period)) (memory_balanced r l payer t e (λ a. a.memory_used + n) B.here W)

carve_balanced : (r : Registry) (l : Ledger) (parent cpu memory t : ℕ) (e : Entry) → Sound r → BudgetEntry r parent e → Carves e.account cpu memory t → Balanced r l t
    → Balanced (added r (carve cpu memory t) (carved parent cpu memory (renew e.account t))) (ledger.note_budget r.next parent cpu l) t
carve_balanced r l parent cpu memory t e s B C W =
    let a = e.account in
    let N = now r s l parent t e B W in
    let S = now_start r s l parent t e B W in
    let p = t / period in
    let x = carved parent cpu memory (renew a t) in
    let up = Table.rising_alter r.rows 1 r.next parent (on_account (carve cpu memory t)) s.rising in
    let W₁ : Balanced (budget parent (carve cpu memory t) r) l t =
    alter_step r parent e (on_account (carve cpu memory t)) B.here (keeps_account (carve cpu memory t) (λ a. (account_laws.renewal a t).cpu_allowance)) l t
    (record { whole = S.whole; before = S.before })
    (omega (arith, N.held, held_now p (renew a t) N.start, held_now p (carve cpu memory t a) N.start, C.cpu_left)) W in
    let W₂ : Balanced (added r (carve cpu memory t) x) l t =
    add_step (budget parent (carve cpu memory t) r) x l t up (record { whole = S.whole; before = S.before })
    (omega (arith, held_now p x.account N.start)) W₁ in
    note_step (budget parent (carve cpu memory t) r) x l t up (below_next r s parent e B.here) W₁ W₂

object_balanced : (r : Registry) (l : Ledger) (i t : ℕ) (e y : Entry) (used : Account → ℕ) (g : ℕ → ℕ) → ObjectEntry r i e y → Balanced r l t
    → Balanced (charged r i e (λ a. account.with_memory a (used a) a.memory_reserved) g) l t
object_balanced r l i t e y used g O W =
    let f : Account → Account = λ a. account.with_memory a (used a) a.memory_reserved in
    let W₁ = memory_balanced r l e.payer t y used O.payer.here W in
    let (d, at_d, payer, charge) = at_on_account r.rows e.payer i f e O.here in
    alter_step (budget e.payer f r) i d (on_charge g) at_d (keeps_charge g) l t
    (record { whole = (W₁.starts i d at_d).whole; before = (W₁.starts i d at_d).before }) (omega arith) W₁

-- the payer of a removed entry gives up what the entry could have
release_held : (a : Account) (e : Entry) (t : ℕ) (b : Bool) → account.sound a ≡ true → Start t a → e.account.cpu_allowance ≤ a.cpu_reserved → (b ≡ false → e.account ≡ account.blank)
    → Start t (account.credit (account.return (renew_if b t a) e.account) e.charge)
    × (held (t / period) (account.credit (account.return (renew_if b t a) e.account) e.charge) + e.account.cpu_allowance ≤ held (t / period) a)
release_held a e t true h S within empty =
    let N = renewed a t h S in
    let S' = renewed_start a t h S in
    let x = account.credit (account.return (renew a t) e.account) e.charge in (
      record { whole = S'.whole; before = S'.before },
      omega (arith, N.held, held_now (t / period) (renew a t) N.start, held_now (t / period) x N.start, (account_laws.renewal a t).cpu_reserved),
    )
release_held a e t false h S within empty = rw (empty refl, sub-zero a.cpu_reserved) (record { whole = S.whole; before = S.before }, omega arith)

remove_balanced : (r : Registry) (l : Ledger) (i t : ℕ) (e y : Entry) → Sound r → ObjectEntry r i e y → (i ≡ 1 → ⊥) → Balanced r l t → Balanced (removed r i e (release e t)) l t
remove_balanced r l i t e y s O not_root W =
    let p = t / period in
    let f = release e t in
    let r₁ = budget e.payer f r in
    let low = (s.each i e O.here).lower not_root in
    let (start, less) = release_held y.account e t (is_budget_kind e.kind) (budget_sound s O.payer) (W.starts e.payer y O.payer.here)
    (limits_within r i e y s O not_root).cpu (s.each i e O.here).plain in
    let k = release_keeps e t in
    let W₁ : Balanced r₁ l t = alter_step r e.payer y (on_account f) O.payer.here k l t start (omega arith) W in
    let most = bounded r s (spent l p) p W.lines r.next i e (omega arith) O.here in
    let e_here : at r₁.rows i ≡ Some e = Table.at_alter_other r.rows e.payer i (on_account f) (λ q. omega arith) ∙ O.here in
    rw (← Table.erase_alter r.rows i e.payer (on_account f) (λ q. omega arith))
    (erase_step r₁ i e l t (Table.rising_alter r.rows 1 r.next e.payer (on_account f) s.rising) e_here
    (λ z there. let q : on_account f y ≡ z = cc (Table.at_alter r.rows e.payer (on_account f) y O.payer.here) in
    rw (← q) (omega (arith, W.lines e.payer y O.payer.here, alter_children r e.payer y (on_account f) O.payer.here k (spent l p) e.payer, k.allowance y)))
    W₁)

-- Each call.

-- what a call leaves is balanced with what the ledger notes of it
abbrev StaysBalanced : Call → Registry → Ledger → (t : ℕ) → RegistryReply → Type 0
StaysBalanced c r l t a = Balanced a.after (note c a.number r.next l) t

module _ (r : Registry) (s : Sound r) (l : Ledger) (t : ℕ) (W : Balanced r l t) where
  insert_balanced : (kind payer n : ℕ) → StaysBalanced (insert kind payer n) r l t (run (insert kind payer n) r)
  insert_balanced kind payer n =
      calls.insert_cases (StaysBalanced (insert kind payer n) r l t) kind payer n r (λ q h. rw h W) λ e B code other room covers. plain_balanced r l (kind_of kind) payer n t e s B W

  create_balanced : (kind payer : ℕ) (backing : Bool) → StaysBalanced (create kind payer backing) r l t (run (create kind payer backing) r)
  create_balanced kind payer backing =
      calls.create_cases (StaysBalanced (create kind payer backing) r l t) kind payer backing r (λ q h. rw h W)
      λ e B code other room covers. plain_balanced r l (kind_of kind) payer (bytes_of (kind_of kind)) t e s B W

  create_budget_balanced : (parent cpu memory : ℕ) → StaysBalanced (create_budget parent cpu memory t) r l t (run (create_budget parent cpu memory t) r)
  create_budget_balanced parent cpu memory =
      calls.create_budget_cases (StaysBalanced (create_budget parent cpu memory t) r l t) parent cpu memory t r (λ q h k. rw h W) (λ e B poor. W)
      (λ e B rich. renew_balanced r s l parent t e B W) λ e B room C. carve_balanced r l parent cpu memory t e s B C W

  charge_more_balanced : (i n : ℕ) → StaysBalanced (charge_more i n) r l t (run (charge_more i n) r)
  charge_more_balanced i n =
      calls.charge_more_cases (StaysBalanced (charge_more i n) r l t) i n r s (λ q h. rw h W)
      λ e y O covers. object_balanced r l i t e y (λ a. a.memory_used + n) (λ c. c + n) O W

  uncharge_balanced : (i n : ℕ) → StaysBalanced (uncharge i n) r l t (run (uncharge i n) r)
  uncharge_balanced i n =
      calls.uncharge_cases (StaysBalanced (uncharge i n) r l t) i n r s (λ q h. rw h W)
      λ e y O covers. object_balanced r l i t e y (λ a. a.memory_used - n) (λ c. c - n) O W

  removal_balanced : (i : ℕ) → StaysBalanced (remove i t) r l t (run (remove i t) r)
  removal_balanced i =
      calls.remove_cases (StaysBalanced (remove i t) r l t) i t r s (λ q h. rw h W) λ e y O not_root u. remove_balanced r l i t e y s O not_root W

  refill_balanced : (i : ℕ) → StaysBalanced (refill i t) r l t (run (refill i t) r)
  refill_balanced i = calls.refill_cases (StaysBalanced (refill i t) r l t) i t r (λ q h. rw h W) λ e B. renew_balanced r s l i t e B W

  charge_cpu_balanced : (i ns : ℕ) → StaysBalanced (charge_cpu i ns t) r l t (run (charge_cpu i ns t) r)
  charge_cpu_balanced i ns =
      calls.charge_cpu_cases (StaysBalanced (charge_cpu i ns t) r l t) i ns t r (λ q h k. rw h W) (λ e B. renew_balanced r s l i t e B W)
      λ e B covers. spend_balanced r s l i t e B W (λ a. ns) covers

-- every call, on a clock that does not fall
pub call_balanced : (c : Call) (r : Registry) (l : Ledger) (T : ℕ) → Sound r → T ≤ after_clock T (clock c) → Balanced r l T
    → Balanced (run c r).after (note c (run c r).number r.next l) (after_clock T (clock c))
call_balanced (create kind payer backing) r l T s h W = create_balanced r s l T W kind payer backing
call_balanced (insert kind payer n) r l T s h W = insert_balanced r s l T W kind payer n
call_balanced (create_budget parent cpu memory t) r l T s h W = create_budget_balanced r s l t (clock_step r l T t h W) parent cpu memory
call_balanced (charge_more i n) r l T s h W = charge_more_balanced r s l T W i n
call_balanced (uncharge i n) r l T s h W = uncharge_balanced r s l T W i n
call_balanced (remove i t) r l T s h W = removal_balanced r s l t (clock_step r l T t h W) i
call_balanced (refill i t) r l T s h W = refill_balanced r s l t (clock_step r l T t h W) i
call_balanced (charge_cpu i ns t) r l T s h W = charge_cpu_balanced r s l t (clock_step r l T t h W) i ns
call_balanced (pays_for_anything i) r l T s h W = W
call_balanced (read_account i) r l T s h W = asked (StaysBalanced (read_account i) r l T) (is_budget r i) W (λ k. W)
call_balanced (charge_of i) r l T s h W = asked (StaysBalanced (charge_of i) r l T) (has r i) W (λ k. W)
call_balanced (read_totals i) r l T s h W = asked (StaysBalanced (read_totals i) r l T) (is_budget r i) W (λ k. W)

-- a tick's charge
pub charge_most_balanced : (r : Registry) (l : Ledger) (i ns t : ℕ) → Sound r → is_budget r i ≡ true → Balanced r l t
    → Balanced (charge_most i ns t r) (note_charge i (min ns (renew (account_of r i) t).cpu_left) t l) t
charge_most_balanced r l i ns t s a W =
    let (e, B) = live_budget r i a in
    rw a (subst (λ (x : Entry). Balanced (budget i (λ a. spend (renew a t) (min ns (renew a t).cpu_left)) r) (note_charge i (min ns (renew x.account t).cpu_left) t l) t)
    (sym B.read) (spend_balanced r s l i t e B W (λ a. min ns (renew a t).cpu_left) (omega arith)))

-- an opening
pub opening_balanced : (cpu memory : ℕ) → Balanced (registry.opening cpu memory) (ledger.opening cpu) 0
opening_balanced cpu memory =
    let r = registry.opening cpu memory in
    record {
      budgets = (
        record {
          taken = omega arith;
          lower = omega arith;
          payer = λ e here kind. (let z : record { kind = Budget; payer = 1; charge = 0; account = account.fresh cpu memory 0 } ≡ e = cc in ap (λ (d : Entry). d.payer) z);
          allowance = λ e here kind. (let z : record { kind = Budget; payer = 1; charge = 0; account = account.fresh cpu memory 0 } ≡ e = cc in ap (λ (d : Entry). d.account.cpu_allowance) z);
        },
        tt,
      );
      past = tt;
      starts = Table.at_all (λ i e. Start 0 e.account) r.rows (record { whole = refl; before = omega arith }, tt);
      lines = Table.at_all (λ i e. Line (spent (ledger.opening cpu) (0 / period)) (0 / period) r.rows i e.account) r.rows (omega arith, tt);
      settled = (λ p. omega arith, tt);
    }
