-- Each call of the registry by its outcomes, and that each keeps a sound registry sound; for these, what soundness says of the entries that a call finds, as that a budget which
-- pays for nothing can be returned to its payer (`removal_passes`). Assumes nothing.
use Rattle.std.specs.Prelude.{◌≡◌, refl, Bool, true, false, cond, not, ◌&&◌, ◌||◌, List, [], ◌∷◌, ℕ, ◌+◌, ◌-◌, ◌≤◌, ◌<◌, min, eqb, leb, length, Option, Some, None}
use Rattle.std.proofs.Common.{sym, ◌∙◌, ap, subst, arith, eqb-true, eq-eqb, ne_eqb, leb-true, le-leb, ltb-true}
use Rattle.std.proofs.lemmas.Bool.{false≢true, eqb-false, not-true}
use Rattle.carv_area.specs.Laws.Table
use Rattle.carv_area.specs.Table.{Row, at}
use Rattle.carv_area.specs.Laws.Table.{test}
use Rattle.carv_budget.specs.declared.Account.{Account}
use Rattle.carv_budget.specs.Account.{period, free, renew, due, spend, charge, credit, reserve, return, returnable}
use Rattle.carv_budget.specs.Account as account
use Rattle.carv_budget.proofs.Laws.Account as account_laws
use Rattle.carv_budget.proofs.Laws.Account.{Returnable}
use Rattle.carv_objects_spec.specs.declared.kind.Kind.{Kind}
use Rattle.carv_objects_spec.specs.Kinds.{listed, kind_of, bytes_of, creatable, needs_backing, is_budget_kind}
use Rattle.carv_objects_spec.proofs.Laws.Kinds.{kind_told, kind_shown, kind_apart}
use Rattle.carv_objects_spec.specs.declared.Entry.{Entry}
use Rattle.carv_objects_spec.specs.Reply.{refuse, accept, id, renewed}
use Rattle.carv_objects_spec.proofs.Laws.Asked.{asked}
use Rattle.carv_objects_spec.specs.Registry.{Registry, RegistryReply, or_missing, entry, has, is_budget, account_of, payer_of, pays_in, pays_for, budget, renew_if, has_place, has_next, plain, carved, opening, create, insert, create_budget, charge_more, uncharge, remove, refill, charge_cpu, charge_most}
use Rattle.carv_objects_spec.specs.Question15.{Passed}
use Rattle.carv_objects_spec.specs.Sound.{kind_at, charge_by, memory_by, cpu_by}
use Rattle.carv_objects_spec.proofs.Laws.SoundFacts.{SoundEntry, Sound}
use Rattle.carv_objects_spec.proofs.Laws.SoundLaws.{account_sound}
use Rattle.carv_objects_spec.proofs.Laws.Steps.{BudgetEntry, budget_entry, ObjectEntry, Unpaid, unpaid_weight, zeros, bytes, AccountMoves, account_step, added, add_step, charged, charge_step, removed, remove_step}

-- refused, with the state as it was
abbrev pub Stays : (RegistryReply → Type 0) → Registry → Type 0
Stays P r = (q : ℕ) → eqb q 0 ≡ false → P (refuse q r)

-- the same, for any number but n
abbrev pub StaysBut : ℕ → (RegistryReply → Type 0) → Registry → Type 0
StaysBut n P r = (q : ℕ) → eqb q 0 ≡ false → eqb q n ≡ false → P (refuse q r)

-- Looking up.

pub live_budget : (r : Registry) (i : ℕ) → is_budget r i ≡ true → (e : Entry) × BudgetEntry r i e
live_budget r i h = budget_entry r i (kind_told (entry r i).kind h)

pub live_object : (r : Registry) (i : ℕ) → Sound r → has r i ≡ true → (e : Entry) × (y : Entry) × ObjectEntry r i e y
live_object r i s h = go (at r.rows i) refl
  where
    go : (o : Option Entry) → at r.rows i ≡ o → (e : Entry) × (y : Entry) × ObjectEntry r i e y
    go None q = let z : false ≡ true = rw q at h in let b : ◌≡◌ {A = ℕ} 0 1 = cc in absurd (omega arith)
    go (Some e) q = let (y, B) = budget_entry r e.payer (s.each i e q).paid in (e, y, record { here = q; read = ap or_missing q; payer = B })

-- a live budget's account is sound
pub budget_sound : {r : Registry} {i : ℕ} {e : Entry} → Sound r → BudgetEntry r i e → account.sound e.account ≡ true
budget_sound {r} {i} {e} s B = account_sound (s.each i e B.here)

-- what an object is charged, its payer has used
pub charge_within : (r : Registry) (i : ℕ) (e y : Entry) → Sound r → ObjectEntry r i e y → e.charge ≤ y.account.memory_used
charge_within r i e y s O =
    let h = rw (eq-eqb e.payer e.payer refl) at (Table.total_at (charge_by e.payer) r.rows i e O.here) in
    omega (arith, (s.each e.payer y O.payer.here).used)

-- the limits of a child are within its payer's reservations
pub record LimitsWithin (child a : Account) : Type 0 where
  pub memory : child.memory_limit ≤ a.memory_reserved
  pub cpu : child.cpu_allowance ≤ a.cpu_reserved

pub limits_within : (r : Registry) (i : ℕ) (e y : Entry) → Sound r → ObjectEntry r i e y → (i ≡ 1 → ⊥) → LimitsWithin e.account y.account
limits_within r i e y s O not_root =
    let on = eq-eqb e.payer e.payer refl in
    let low = (s.each i e O.here).lower not_root in
    let off = ne_eqb i e.payer (λ q. omega arith) in
    let h = rw (on, off) at (Table.total_at (memory_by e.payer) r.rows i e O.here) in
    let k = rw (on, off) at (Table.total_at (cpu_by e.payer) r.rows i e O.here) in
    let F = s.each e.payer y O.payer.here in
    record { memory = omega (arith, F.memory_reserved); cpu = omega (arith, F.cpu_reserved) }

-- The accounts' moves.

abbrev pub carve : (cpu memory time : ℕ) → Account → Account
carve cpu memory time a = reserve (charge (renew a time) 128) cpu memory

abbrev pub release : Entry → (time : ℕ) → Account → Account
release e time a = credit (return (renew_if (is_budget_kind e.kind) time a) e.account) e.charge

renew_moves : (a : Account) (t : ℕ) → account.sound a ≡ true → AccountMoves (λ a. renew a t) a zeros zeros
renew_moves a t h =
    let n = account_laws.renewal a t in
    record {
      allowance = λ b. (account_laws.renewal b t).cpu_allowance;
      limit = λ b. (account_laws.renewal b t).memory_limit;
      used = omega arith;
      memory_reserved = omega arith;
      cpu_reserved = omega arith;
      sound = account_laws.renew_sound a t h;
    }

-- the same where the test holds
pub renew_if_moves : (b : Bool) (a : Account) (t : ℕ) → account.sound a ≡ true → AccountMoves (renew_if b t) a zeros zeros
renew_if_moves true a t h = renew_moves a t h
renew_if_moves false a t h = record { allowance = λ b. refl; limit = λ b. refl; used = refl; memory_reserved = refl; cpu_reserved = refl; sound = h }

-- CPU time, by what the account has
spend_moves : (a : Account) (ns : Account → ℕ) (t : ℕ) → account.sound a ≡ true → AccountMoves (λ a. spend (renew a t) (ns a)) a zeros zeros
spend_moves a ns t h =
    let m = renew_moves a t h in
    record {
      allowance = m.allowance;
      limit = m.limit;
      used = m.used;
      memory_reserved = m.memory_reserved;
      cpu_reserved = m.cpu_reserved;
      sound = account_laws.spend_sound (renew a t) (ns a) m.sound;
    }

-- n bytes charged to the payer of an entry whose charge goes from c to d
charge_moves : (a : Account) (c d n : ℕ) → d ≡ c + n → account.sound a ≡ true → n ≤ free a → AccountMoves (λ a. charge a n) a (bytes c) (bytes d)
charge_moves a c d n q h covers = record {
  allowance = λ b. refl;
  limit = λ b. refl;
  used = omega arith;
  memory_reserved = refl;
  cpu_reserved = refl;
  sound = account_laws.charge_sound a n h covers;
}

-- what a carve-out passes
pub record Carves (a : Account) (cpu memory t : ℕ) : Type 0 where
  pub object : 128 ≤ free a
  pub cpu_left : cpu ≤ (renew a t).cpu_left
  pub memory_free : memory ≤ free (charge a 128)

carve_moves : (a : Account) (cpu memory t : ℕ) → account.sound a ≡ true → Carves a cpu memory t
    → AccountMoves (carve cpu memory t) a zeros (record { charge = 128; memory = memory; cpu = cpu })
carve_moves a cpu memory t h c =
    let n = account_laws.renewal a t in
    let m = renew_moves a t h in
    let charged = account_laws.charge_sound (renew a t) 128 m.sound (omega (arith, c.object)) in
    record {
      allowance = m.allowance;
      limit = m.limit;
      used = omega arith;
      memory_reserved = omega arith;
      cpu_reserved = omega arith;
      sound = account_laws.reserve_sound (charge (renew a t) 128) cpu memory charged c.cpu_left (omega (arith, c.memory_free));
    }

-- The calls.

pub insert_cases : (P : RegistryReply → Type 0) (kind payer n : ℕ) (r : Registry) → Stays P r
    → ((e : Entry) → BudgetEntry r payer e → listed kind ≡ true → is_budget_kind (kind_of kind) ≡ false → length r.rows < 512 → n ≤ free e.account
    → P (accept (Some (id r.next)) (added r (λ a. charge a n) (plain (kind_of kind) payer n))))
    → P (insert kind payer n r)
insert_cases P kind payer n r stay go =
    asked P (listed kind) (stay 4 refl) λ a.
    asked P (not (is_budget_kind (kind_of kind))) (stay 4 refl) λ b.
    asked P (has_place r) (stay 6 refl) λ c.
    asked P (has_next r) (stay 6 refl) λ d.
    asked P (is_budget r payer) (stay 7 refl) λ f.
    asked P (leb n (free (account_of r payer))) (stay 12 refl) λ g.
    let (e, B) = live_budget r payer f in
    go e B a (not-true (is_budget_kind (kind_of kind)) b) (ltb-true (length r.rows) 512 c) (leb-true n (free e.account) (rw (B.read, account_of) at g))

creatable_kind : (k : Kind) → creatable k ≡ true → is_budget_kind k ≡ false
creatable_kind k h = test (is_budget_kind k) (λ a. let z : false ≡ true = rw (kind_told k a) at h in absurd (false≢true z)) (λ a. a)

pub create_cases : (P : RegistryReply → Type 0) (kind payer : ℕ) (backing : Bool) (r : Registry) → Stays P r
    → ((e : Entry) → BudgetEntry r payer e → listed kind ≡ true → is_budget_kind (kind_of kind) ≡ false → length r.rows < 512 → bytes_of (kind_of kind) ≤ free e.account
    → P (accept (Some (id r.next)) (added r (λ a. charge a (bytes_of (kind_of kind))) (plain (kind_of kind) payer (bytes_of (kind_of kind))))))
    → P (create kind payer backing r)
create_cases P kind payer backing r stay go =
    asked P (listed kind) (stay 4 refl) λ a.
    asked P (has_place r) (stay 6 refl) λ c.
    asked P (has_next r) (stay 6 refl) λ d.
    asked P (is_budget r payer) (stay 7 refl) λ f.
    asked P (leb (bytes_of (kind_of kind)) (free (account_of r payer))) (stay 12 refl) λ g.
    asked P (creatable (kind_of kind)) (stay 13 refl) λ h.
    asked P (not (needs_backing (kind_of kind)) || backing) (stay 14 refl) λ i.
    let (e, B) = live_budget r payer f in
    go e B a (creatable_kind (kind_of kind) h) (ltb-true (length r.rows) 512 c) (leb-true (bytes_of (kind_of kind)) (free e.account) (rw (B.read, account_of) at g))

-- an entry that is no budget, which its payer can cover
plain_kept : (r : Registry) (kind : Kind) (payer n : ℕ) (e : Entry) → Sound r → BudgetEntry r payer e → is_budget_kind kind ≡ false
    → length r.rows < 512 → n ≤ free e.account → Sound (added r (λ a. charge a n) (plain kind payer n))
plain_kept r kind payer n e s B other few covers =
    add_step r e (λ a. charge a n) (plain kind payer n) s B (charge_moves e.account 0 n n (omega arith) (budget_sound s B) covers)
    (record {
      few = few;
      plain = λ h. refl;
      used = refl;
      memory_reserved = refl;
      cpu_reserved = refl;
      sound = account_laws.fresh_sound 0 0 0 (omega arith);
    })

pub insert_kept : (kind payer n : ℕ) (r : Registry) → Sound r → Sound (insert kind payer n r).after
insert_kept kind payer n r s = insert_cases (λ a. Sound a.after) kind payer n r (λ q h. s) λ e B code. plain_kept r (kind_of kind) payer n e s B

pub create_kept : (kind payer : ℕ) (backing : Bool) (r : Registry) → Sound r → Sound (create kind payer backing r).after
create_kept kind payer backing r s =
    create_cases (λ a. Sound a.after) kind payer backing r (λ q h. s) λ e B code. plain_kept r (kind_of kind) payer (bytes_of (kind_of kind)) e s B

pub renew_kept : (r : Registry) (i t : ℕ) (e : Entry) → Sound r → BudgetEntry r i e → Sound (budget i (λ a. renew a t) r)
renew_kept r i t e s B = account_step r i e (λ a. renew a t) s B (renew_moves e.account t (budget_sound s B))

pub spend_kept : (r : Registry) (i t : ℕ) (e : Entry) (ns : Account → ℕ) → Sound r → BudgetEntry r i e → Sound (budget i (λ a. spend (renew a t) (ns a)) r)
spend_kept r i t e ns s B = account_step r i e (λ a. spend (renew a t) (ns a)) s B (spend_moves e.account ns t (budget_sound s B))

pub refill_cases : (P : RegistryReply → Type 0) (i t : ℕ) (r : Registry) → Stays P r
    → ((e : Entry) → BudgetEntry r i e → P (accept (Some (renewed (due e.account t))) (budget i (λ a. renew a t) r)))
    → P (refill i t r)
refill_cases P i t r stay go =
    asked P (is_budget r i) (stay 7 refl) λ a.
    let (e, B) = live_budget r i a in
    rw (B.read, account_of) (go e B)

pub refill_kept : (i t : ℕ) (r : Registry) → Sound r → Sound (refill i t r).after
refill_kept i t r s = refill_cases (λ a. Sound a.after) i t r (λ q h. s) λ e B. renew_kept r i t e s B

pub charge_cpu_cases : (P : RegistryReply → Type 0) (i ns t : ℕ) (r : Registry) → StaysBut 12 P r
    → ((e : Entry) → BudgetEntry r i e → P (refuse 12 (budget i (λ a. renew a t) r)))
    → ((e : Entry) → BudgetEntry r i e → ns ≤ (renew e.account t).cpu_left → P (accept None (budget i (λ a. spend (renew a t) ns) r)))
    → P (charge_cpu i ns t r)
charge_cpu_cases P i ns t r stay renews go =
    asked P (is_budget r i) (stay 7 refl refl) λ a.
    let (e, B) = live_budget r i a in
    asked P (leb ns (renew (account_of r i) t).cpu_left) (renews e B) λ b.
    go e B (leb-true ns (renew e.account t).cpu_left (rw (B.read, account_of) at b))

pub charge_cpu_kept : (i ns t : ℕ) (r : Registry) → Sound r → Sound (charge_cpu i ns t r).after
charge_cpu_kept i ns t r s =
    charge_cpu_cases (λ a. Sound a.after) i ns t r (λ q h k. s) (λ e B. renew_kept r i t e s B)
    λ e B covers. spend_kept r i t e (λ a. ns) s B

pub charge_most_kept : (i ns t : ℕ) (r : Registry) → Sound r → Sound (charge_most i ns t r)
charge_most_kept i ns t r s = test (is_budget r i)
    (λ a. rw a (let (e, B) = live_budget r i a in spend_kept r i t e (λ x. min ns (renew x t).cpu_left) s B))
    (λ a. rw a s)

pub create_budget_cases : (P : RegistryReply → Type 0) (parent cpu memory t : ℕ) (r : Registry) → StaysBut 12 P r
    → ((e : Entry) → BudgetEntry r parent e → leb 128 (free e.account) ≡ false → P (refuse 12 r))
    → ((e : Entry) → BudgetEntry r parent e → leb 128 (free e.account) ≡ true → P (refuse 12 (budget parent (λ a. renew a t) r)))
    → ((e : Entry) → BudgetEntry r parent e → length r.rows < 512 → Carves e.account cpu memory t
    → P (accept (Some (id r.next)) (added r (carve cpu memory t) (carved parent cpu memory (renew e.account t)))))
    → P (create_budget parent cpu memory t r)
create_budget_cases P parent cpu memory t r stay poor renews go =
    asked P (has_place r) (stay 6 refl refl) λ a.
    asked P (has_next r) (stay 6 refl refl) λ b.
    asked P (is_budget r parent) (stay 7 refl refl) λ c.
    let (e, B) = live_budget r parent c in
    subst (λ (x : Entry). P (cond (leb 128 (free x.account))
    (cond (leb cpu (renew x.account t).cpu_left)
    (cond (leb memory (free (charge x.account 128)))
    (accept (Some (id r.next)) (added r (carve cpu memory t) (carved parent cpu memory (renew x.account t))))
    (refuse 12 (budget parent (λ a. renew a t) r)))
    (refuse 12 (budget parent (λ a. renew a t) r)))
    (refuse 12 r))) (sym B.read)
    (test (leb 128 (free e.account))
    (λ d. rw d (asked P (leb cpu (renew e.account t).cpu_left) (renews e B d) λ f.
    asked P (leb memory (free (charge e.account 128))) (renews e B d) λ g.
    go e B (ltb-true (length r.rows) 512 a) (record {
      object = leb-true 128 (free e.account) d;
      cpu_left = leb-true cpu (renew e.account t).cpu_left f;
      memory_free = leb-true memory (free (charge e.account 128)) g;
    })))
    (λ d. rw d (poor e B d)))

pub create_budget_kept : (parent cpu memory t : ℕ) (r : Registry) → Sound r → Sound (create_budget parent cpu memory t r).after
create_budget_kept parent cpu memory t r s =
    create_budget_cases (λ a. Sound a.after) parent cpu memory t r (λ q h k. s) (λ e B d. s) (λ e B d. renew_kept r parent t e s B)
    λ e B few C.
    add_step r e (carve cpu memory t) (carved parent cpu memory (renew e.account t)) s B (carve_moves e.account cpu memory t (budget_sound s B) C)
    (record {
      few = few;
      plain = λ h. (let z : true ≡ false = h in cc);
      used = refl;
      memory_reserved = refl;
      cpu_reserved = refl;
      sound = account_laws.carved_child_sound (renew e.account t) cpu memory
          (account_laws.renew_sound e.account t (budget_sound s B)) C.cpu_left;
    })

pub charge_more_cases : (P : RegistryReply → Type 0) (i n : ℕ) (r : Registry) → Sound r → Stays P r
    → ((e y : Entry) → ObjectEntry r i e y → n ≤ free y.account → P (accept None (charged r i e (λ a. charge a n) (λ c. c + n))))
    → P (charge_more i n r)
charge_more_cases P i n r s stay go =
    asked P (has r i) (stay 7 refl) λ a.
    asked P (leb n (free (account_of r (payer_of r i)))) (stay 12 refl) λ b.
    let (e, y, O) = live_object r i s a in
    let b' = rw (O.payer.read, account_of) at (rw (O.read, payer_of) at b) in
    rw (O.read, payer_of) (go e y O (leb-true n (free y.account) b'))

pub charge_more_kept : (i n : ℕ) (r : Registry) → Sound r → Sound (charge_more i n r).after
charge_more_kept i n r s =
    charge_more_cases (λ a. Sound a.after) i n r s (λ q h. s) λ e y O covers.
    charge_step r i e y (λ a. charge a n) (λ c. c + n) s O (charge_moves y.account e.charge (e.charge + n) n refl (budget_sound s O.payer) covers)

pub uncharge_cases : (P : RegistryReply → Type 0) (i n : ℕ) (r : Registry) → Sound r → Stays P r
    → ((e y : Entry) → ObjectEntry r i e y → n ≤ e.charge → P (accept None (charged r i e (λ a. credit a n) (λ c. c - n))))
    → P (uncharge i n r)
uncharge_cases P i n r s stay go =
    asked P (has r i) (stay 7 refl) λ a.
    asked P (leb n (entry r i).charge) (stay 11 refl) λ b.
    let (e, y, O) = live_object r i s a in
    rw (O.read, payer_of) (go e y O (leb-true n e.charge (rw O.read at b)))

pub uncharge_kept : (i n : ℕ) (r : Registry) → Sound r → Sound (uncharge i n r).after
uncharge_kept i n r s =
    uncharge_cases (λ a. Sound a.after) i n r s (λ q h. s) λ e y O covers.
    let k = charge_within r i e y s O in
    charge_step r i e y (λ a. credit a n) (λ c. c - n) s O (record {
      allowance = λ b. refl;
      limit = λ b. refl;
      used = omega arith;
      memory_reserved = refl;
      cpu_reserved = refl;
      sound = account_laws.credit_sound y.account n (budget_sound s O.payer);
    })

-- Removal.

-- an id that `pays_for` denies is no other entry's payer
not_paying : (m : List (Row Entry)) (i : ℕ) → pays_in m i ≡ false → (j : ℕ) (d : Entry) → (i ≡ j → ⊥) → at m j ≡ Some d → i ≡ d.payer → ⊥
not_paying [] i h j d apart at_j q = let z : ◌≡◌ {A = ℕ} 0 1 = cc in omega arith
not_paying (r ∷ m) i h j d apart at_j q = test (eqb r.id j)
    (λ a. let at_j' : Some r.it ≡ Some d = rw a at at_j in let x : r.it ≡ d = cc in
    let off = ne_eqb r.id i (λ p. apart (sym p ∙ eqb-true r.id j a)) in
    let on = eq-eqb r.it.payer i (ap (λ (k : Entry). k.payer) x ∙ sym q) in
    let z : true ≡ false = rw (off, on) at h in let y : ◌≡◌ {A = ℕ} 0 1 = cc in omega arith)
    (λ a. not_paying m i (rest (not (eqb r.id i) && eqb r.it.payer i) (pays_in m i) h) j d apart (rw a at at_j) q)
  where
    rest : (b c : Bool) → (b || c) ≡ false → c ≡ false
    rest true c h = let z : true ≡ false = h in cc
    rest false c h = h

-- an id other than the root's that passes question 10 is no entry's payer
unpaid : (r : Registry) (i : ℕ) → Sound r → (i ≡ 1 → ⊥) → (is_budget r i && pays_for r i) ≡ false → Unpaid r i
unpaid r i s not_root h j d at_j q = test (is_budget r i)
    (λ a. test (eqb i j)
    (λ b. let e = eqb-true i j b in let low = (s.each j d at_j).lower (λ z. not_root (e ∙ z)) in omega arith)
    (λ b. not_paying r.rows i (rw a at h) j d (eqb-false i j b) at_j q))
    (λ a. kind_apart (kind_at r.rows i) a (rw q (s.each j d at_j).paid))

-- a budget that is no entry's payer can be returned
unpaid_returnable : (r : Registry) (i : ℕ) (e y : Entry) → Sound r → ObjectEntry r i e y → (i ≡ 1 → ⊥) → Unpaid r i → Returnable y.account e.account
unpaid_returnable r i e y s O not_root u =
    let F = s.each i e O.here in
    let w = limits_within r i e y s O not_root in
    let z = unpaid_weight r i s u in
    record {
      no_cpu = F.cpu_reserved ∙ z.cpu;
      no_memory = F.memory_reserved ∙ z.memory;
      no_use = F.used ∙ z.charge;
      cpu = w.cpu;
      memory = w.memory;
    }

returnable_shown : {a child : Account} → Returnable a child → returnable a child ≡ true
unfolding returnable
returnable_shown h = search (account_laws.both, le-leb, eq-eqb)

-- so a removal that passes questions 7, 9 and 10 passes question 15, and credits a live budget
pub removal_passes : (i : ℕ) (r : Registry) → Sound r → has r i ≡ true → (i ≡ 1 → ⊥) → (is_budget r i && pays_for r i) ≡ false → Passed i r
removal_passes i r s a not_root idle =
    let (e, y, O) = live_object r i s a in
    let low = (s.each i e O.here).lower not_root in
    let payer : payer_of r i ≡ e.payer = ap (λ (x : Entry). x.payer) O.read in
    let read : entry r (payer_of r i) ≡ y = ap (λ (p : ℕ). entry r p) payer ∙ O.payer.read in
    let returns : Returnable (account_of r (payer_of r i)) (account_of r i)
    = subst (λ (x : Entry). Returnable x.account (account_of r i)) (sym read)
    (subst (λ (x : Entry). Returnable y.account x.account) (sym O.read) (unpaid_returnable r i e y s O not_root (unpaid r i s not_root idle))) in
    record {
      payer_live = rw (payer, O.payer.here);
      payer_budget = kind_shown (entry r (payer_of r i)).kind (ap (λ (x : Entry). x.kind) read ∙ O.payer.kind);
      payer_other = λ q. omega (arith, payer, q);
      passed = test (is_budget r i) (λ b. rw (b, returnable_shown returns)) (λ b. rw b);
      no_use = λ _. returns.no_use;
      no_memory_reserved = λ _. returns.no_memory;
      no_cpu_reserved = λ _. returns.no_cpu;
      memory_within = λ _. returns.memory;
      cpu_within = λ _. returns.cpu;
    }

pub removal_returnable : (r : Registry) (i : ℕ) → Sound r → has r i ≡ true → (i ≡ 1 → ⊥) → is_budget r i ≡ true → pays_for r i ≡ false
    → returnable (account_of r (payer_of r i)) (account_of r i) ≡ true
removal_returnable r i s a not_root b d = rw b at (removal_passes i r s a not_root (rw (b, d))).passed

-- `remove` goes through, or is refused with 7, 9 or 10
pub remove_cases : (P : RegistryReply → Type 0) (i t : ℕ) (r : Registry) → Sound r → Stays P r
    → ((e y : Entry) → ObjectEntry r i e y → (i ≡ 1 → ⊥) → Unpaid r i → P (accept None (removed r i e (release e t))))
    → P (remove i t r)
remove_cases P i t r s stay go =
    asked P (has r i) (stay 7 refl) λ a.
    asked P (not (eqb i 1)) (stay 9 refl) λ b.
    asked P (not (is_budget r i && pays_for r i)) (stay 10 refl) λ c.
    let not_root = eqb-false i 1 (not-true (eqb i 1) b) in
    let idle = not-true (is_budget r i && pays_for r i) c in
    let (e, y, O) = live_object r i s a in
    subst (λ (x : Entry). P (accept None (removed r i x (release x t)))) (sym O.read) (go e y O not_root (unpaid r i s not_root idle))

pub remove_kept : (i t : ℕ) (r : Registry) → Sound r → Sound (remove i t r).after
remove_kept i t r s =
    remove_cases (λ a. Sound a.after) i t r s (λ q h. s) λ e y O not_root u.
    let k = charge_within r i e y s O in
    let w = limits_within r i e y s O not_root in
    let m = renew_if_moves (is_budget_kind e.kind) y.account t (budget_sound s O.payer) in
    remove_step r i e y (release e t) s O not_root u (record {
      allowance = m.allowance;
      limit = m.limit;
      used = omega (arith, m.used);
      memory_reserved = omega (arith, m.memory_reserved);
      cpu_reserved = omega (arith, m.cpu_reserved);
      sound = account_laws.credit_sound (return (renew_if (is_budget_kind e.kind) t y.account) e.account) e.charge
          (account_laws.return_sound (renew_if (is_budget_kind e.kind) t y.account) e.account m.sound);
    })

pub opening_sound : (cpu memory : ℕ) → cpu ≤ period → Sound (opening cpu memory)
opening_sound cpu memory h =
    let r = opening cpu memory in
    record {
      few = omega arith;
      rising = (omega arith, omega arith);
      root = refl;
      each = Table.at_all (SoundEntry r.rows) r.rows (
        record {
          plain = λ q. (let z : true ≡ false = q in cc);
          root = λ q. (refl, refl);
          lower = λ q. absurd (q refl);
          paid = refl;
          used = refl;
          memory_reserved = refl;
          cpu_reserved = refl;
          memory = omega arith;
          cpu = omega arith;
          share = h;
        },
        tt,
      );
    }
