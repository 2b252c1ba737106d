-- The Rust's registry doesn't panic: on a sound registry with a 64-bit root, no call whose answer is no added refusal leaves 64 bits or meets an `expect` that fails, and
-- so for every list of calls from an opening. Of the arguments nothing need be said. Assumes nothing.
use Rattle.std.specs.Prelude.{◌≡◌, refl, Bool, true, false, cond, not, ◌&&◌, List, [], ◌∷◌, ◌++◌, ℕ, zero, suc, ◌+◌, ◌-◌, ◌^◌, ◌≤◌, ◌<◌, eqb, leb, Option, Some, None}
use Rattle.std.proofs.Common.{◌∙◌, ap, subst, arith, add-sub_cancel}
use Rattle.std.proofs.lemmas.Bool.{false≢true}
use borrow.Author.Tests.{eqb-true, eqb-false, leb-true, le-leb, ltb-true, le-ltb}
use Rattle.carv_area.specs.Laws.Table
use Rattle.carv_area.specs.Table.{Row, at, alter}
use Rattle.carv_area.specs.Laws.Table.{test}
use Rattle.carv_budget.specs.declared.Account.{Account}
use Rattle.carv_budget.specs.Account as account
use Rattle.carv_budget.specs.Account.{period, free, charge, renew}
use Rattle.carv_budget.proofs.Laws.Account as account_laws
use Rattle.carv_budget.proofs.Laws.Account.{picks}
use Rattle.carv_budget.specs.Rust as budget
use Rattle.carv_budget.specs.Panics as budget_panics
use Rattle.carv_budget.specs.Panics.{Check, sum, AllPass}
use Rattle.carv_budget.proofs.Laws.Panics as budget_laws
use Rattle.carv_budget.proofs.Laws.Panics.{both_pass}
use Rattle.carv_budget.proofs.Laws.Refines.{charge_memory_by, release_memory_by}
use Rattle.carv_objects_spec.specs.declared.kind.Kind.{Kind}
use Rattle.carv_objects_spec.specs.Kinds.{listed, kind_of, is_budget_kind}
use Rattle.carv_objects_spec.proofs.Laws.Kinds.{kind_told}
use Rattle.carv_objects_spec.specs.declared.Entry.{Entry}
use Rattle.carv_objects_spec.specs.Registry as r01
use Rattle.carv_objects_spec.specs.Registry.{Registry, RegistryReply, or_missing, account_of, has_place, has_next, on_account, on_charge}
use Rattle.carv_objects_spec.specs.Refused.{added}
use Rattle.carv_objects_spec.specs.Rust as rust
use Rattle.carv_objects_spec.specs.Panics as panics
use Rattle.carv_objects_spec.specs.Panics.{is_some, if_some, if_ok, checks, NoPanics}
use Rattle.carv_objects_spec.proofs.Laws.Asked.{asked}
use Rattle.carv_objects_spec.proofs.Laws.SoundFacts.{Sound}
use Rattle.carv_objects_spec.proofs.Laws.SoundLaws.{account_sound}
use Rattle.carv_objects_spec.proofs.Laws.Steps as steps
use Rattle.carv_objects_spec.proofs.Laws.Steps.{BudgetEntry, budget_entry, below_next, ObjectEntry, at_on_account}
use Rattle.carv_objects_spec.proofs.Laws.Kept as calls
use Rattle.carv_objects_spec.proofs.Laws.Kept.{limits_within, charge_within}
use Rattle.carv_objects_spec.proofs.Laws.Refines as refines
use Rattle.carv_objects_spec.proofs.Laws.History.{kept}
use Rattle.carv_objects_spec.proofs.Laws.Demand2.{after_rust}
use Rattle.carv_objects_spec.specs.Book.{Call, create, insert, create_budget, charge_more, uncharge, remove, refill, charge_cpu, pays_for_anything, read_account, charge_of, read_totals}
use Rattle.carv_objects_spec.specs.Runs.{run}
use Rattle.carv_objects_spec.specs.Demand2.{is_added, NoneAdded}

-- What is asked of the state besides soundness: the root's memory limit is a 64-bit number, and the counter is not ahead of the next id, as both rise with
-- each budget.
pub record Fits (ids : ℕ) (r : Registry) : Type 0 where
  pub limit : (account_of r 1).memory_limit < 2 ^ 64
  pub counter : ids ≤ r.next

-- No limit is above the root's: a child's is within its payer's reservations, and payers have lower ids.
pub limit_below_root : (r : Registry) → Sound r → (n i : ℕ) (e : Entry) → i < n → at r.rows i ≡ Some e → e.account.memory_limit ≤ (account_of r 1).memory_limit
limit_below_root r s zero i e h q = absurd (omega arith)
limit_below_root r s (suc n) i e h q = test (eqb i 1)
    (λ d. let q' : at r.rows 1 ≡ Some e = rw (eqb-true i 1 d) at q in rw (ap or_missing q', account_of) (omega arith))
    (λ d. let not_root = eqb-false i 1 d in
    let (y, B) = budget_entry r e.payer (s.each i e q).paid in
    let O : ObjectEntry r i e y = record { here = q; read = ap or_missing q; payer = B } in
    let low = (s.each i e q).lower not_root in
    let ih = limit_below_root r s n e.payer y (omega arith) B.here in
    omega (arith, (limits_within r i e y s O not_root).memory, (s.each e.payer y B.here).memory))

-- what stands under an id, and behind `budget_mut`
pub look : {A C : Type 0} (o : Option A) → (o ≡ None → C) → ((a : A) → o ≡ Some a → C) → C
look None f g = f refl
look (Some a) f g = g a refl

record Behind (o : Option Entry) (a : Account) (e : Entry) : Type 0 where
  here : o ≡ Some e
  kind : is_budget_kind e.kind ≡ true
  account : e.account ≡ a

behind : (o : Option Entry) (a : Account) → rust.budget_of o ≡ Some a → (e : Entry) × Behind o a e
behind None a h = let z : ◌≡◌ {A = ℕ} 0 1 = cc in absurd (omega arith)
behind (Some e) a h = test (is_budget_kind e.kind)
    (λ k. let h' : Some e.account ≡ Some a = rw k at h in (e, record { here = refl; kind = k; account = cc }))
    (λ k. let h' : None ≡ Some a = rw k at h in let z : ◌≡◌ {A = ℕ} 0 1 = cc in absurd (omega arith))

-- the account of a budget of a sound registry with a 64-bit root
record Good (a : Account) : Type 0 where
  sound : account.sound a ≡ true
  limit : a.memory_limit < 2 ^ 64

pub budget_sound : (p : ℕ) (r : Registry) (a : Account) → Sound r → rust.budget_mut p r ≡ Some a → account.sound a ≡ true
budget_sound p r a s q =
    let (e, B) = behind (at r.rows p) a q in
    subst (λ (x : Account). account.sound x ≡ true) B.account (account_sound (s.each p e B.here))

good : (p : ℕ) (r : Registry) (a : Account) → Sound r → (account_of r 1).memory_limit < 2 ^ 64 → rust.budget_mut p r ≡ Some a → Good a
good p r a s w q =
    let (e, B) = behind (at r.rows p) a q in
    record {
      sound = budget_sound p r a s q;
      limit = subst (λ (x : Account). x.memory_limit < 2 ^ 64) B.account (omega (arith, limit_below_root r s (suc p) p e (omega arith) B.here));
    }

-- what is written through `budget_mut`
written : (p : ℕ) (r : Registry) (a x : Account) → rust.budget_mut p r ≡ Some a → rust.budget_mut p (rust.write_budget p x r) ≡ Some x
written p r a x q = let (e, B) = behind (at r.rows p) a q in rw (Table.at_alter r.rows p (on_account (λ _. x)) e B.here, B.kind)

-- a refill leaves a sound registry
pub refilled_sound : (i now : ℕ) (r : Registry) (a : Account) → Sound r → rust.budget_mut i r ≡ Some a → Sound (rust.write_budget i (budget.refill a now).self r)
refilled_sound i now r a s q = rw q at (subst (λ (x : RegistryReply). Sound x.after) (refines.refill_rust i now r) (calls.refill_kept i now r s))

-- Lists of checks.

pub some_pass : {A : Type 0} (o : Option A) (cs : A → List Check) → ((a : A) → o ≡ Some a → AllPass (cs a)) → AllPass (if_some o cs)
some_pass None cs h = tt
some_pass (Some a) cs h = h a refl

credit_passes : (p n : ℕ) (r : Registry) → AllPass (panics.credit p n r)
unfolding panics.credit
credit_passes p n r = some_pass (rust.budget_mut p r) _ λ a _. budget_laws.release_memory_passes a n

-- the payer's account, if there is one, is good
abbrev Payer : (p : ℕ) → Registry → Type 0
Payer p r = (a : Account) → rust.budget_mut p r ≡ Some a → Good a

charge_passes : (p n : ℕ) (r : Registry) → Payer p r → AllPass (panics.charge p n r)
unfolding panics.charge
charge_passes p n r g = some_pass (rust.budget_mut p r) _ λ a q. budget_laws.charge_memory_passes a n (g a q).sound (g a q).limit

-- behind an accepted charge
charged_passes : (p n : ℕ) (r : Registry) (cs : Registry → List Check)
    → ((a : Account) → rust.budget_mut p r ≡ Some a → n ≤ free a → AllPass (cs (rust.write_budget p (charge a n) r)))
    → AllPass (if_ok (rust.charge p n r).result (cs (rust.charge p n r).self))
unfolding rust.charge
charged_passes p n r cs h = look (rust.budget_mut p r) (λ q. rw q tt)
    (λ a q. rw (q, charge_memory_by a n) (test (leb n (free a)) (λ f. rw f (h a q (leb-true n (free a) f))) (λ f. rw f tt)))

insert_passes : (p n : ℕ) (r : Registry) → Payer p r → r.next + 1 < 2 ^ 64 → AllPass (panics.insert p n r)
insert_passes p n r g h = both_pass (panics.charge p n r) _ (charge_passes p n r g) (charged_passes p n r (λ s. sum s.next 1 ∷ []) λ a q f. (h, tt))

-- what follows a carve-out, and a child's return
carved_passes : (c : budget.Result Account) (p : ℕ) (r : Registry) → r.next + 1 < 2 ^ 64 → AllPass (panics.create_carved c p r)
carved_passes (budget.ok _) p r h = (h, tt)
carved_passes (budget.err _) p r h = credit_passes p 128 r

ok_pass : {A : Type 0} (c : budget.Result A) (cs : List Check) → AllPass cs → AllPass (budget_panics.if_ok c cs)
ok_pass (budget.ok _) cs h = h
ok_pass (budget.err _) cs h = tt

-- a charge credited again leaves the payer's account as it was
module _ (p n : ℕ) (r : Registry) (a : Account) (q : rust.budget_mut p r ≡ Some a) where
  abbrev charged : Registry
  charged = rust.write_budget p (charge a n) r

  credited : rust.credit p n charged ≡ rust.write_budget p a charged
  unfolding rust.credit
  credited = rw (written p r a (charge a n) q, release_memory_by (charge a n) n, le-leb n (charge a n).memory_used (omega arith), add-sub_cancel)

  credited_payer : Good a → Payer p (rust.credit p n charged)
  credited_payer g b h =
      let h' : rust.budget_mut p (rust.write_budget p a charged) ≡ Some b = rw credited at h in
      let z : a ≡ b = cc (written p charged (charge a n) a (written p r a (charge a n) q)) in
      subst Good z g

  credited_next : (rust.credit p n charged).next ≡ r.next
  credited_next = rw credited

module _ (r : Registry) (s : Sound r) (w : (account_of r 1).memory_limit < 2 ^ 64) where
  good_payer : (p : ℕ) → Payer p r
  good_payer p a q = good p r a s w q

  built_passes : (b : rust.Built) (p n : ℕ) (a : Account) → rust.budget_mut p r ≡ Some a → r.next + 1 < 2 ^ 64
      → AllPass (panics.create_built b p n (rust.write_budget p (charge a n) r))
  built_passes rust.no_method p n a q h = credit_passes p n (charged p n r a q)
  built_passes rust.no_backing p n a q h = credit_passes p n (charged p n r a q)
  built_passes rust.built p n a q h =
      both_pass (panics.credit p n (charged p n r a q)) _ (credit_passes p n (charged p n r a q))
      (insert_passes p n (rust.credit p n (charged p n r a q)) (credited_payer p n r a q (good_payer p a q)) (omega (arith, credited_next p n r a q)))

  create_passes : (kind : Kind) (p : ℕ) (backing : Bool) → r.next + 1 < 2 ^ 64 → AllPass (panics.create kind p backing r)
  create_passes kind p backing h =
      let n : ℕ = rust.object_bytes kind in
      both_pass (panics.charge p n r) _ (charge_passes p n r (good_payer p))
      (charged_passes p n r (panics.create_built (rust.build kind backing) p n) λ a q f. built_passes (rust.build kind backing) p n a q h)

  create_budget_passes : (ids p cpu memory now : ℕ) → ids + 1 < 2 ^ 64 → r.next + 1 < 2 ^ 64 → AllPass (panics.create_budget ids p cpu memory now r)
  create_budget_passes ids p cpu memory now k h =
      both_pass (panics.charge p 128 r) _ (charge_passes p 128 r (good_payer p))
      (charged_passes p 128 r (panics.carve ids p cpu memory now) λ a q f.
      let g = good_payer p a q in
      let c : budget.Call (budget.Result Account) = budget.carve_out (charge a 128) cpu memory now in
      rw (written p r a (charge a 128) q) (
        refl,
        both_pass (budget_panics.carve_out ids (charge a 128) cpu memory now) _
            (budget_laws.carve_out_passes ids (charge a 128) cpu memory now (account_laws.charge_sound a 128 g.sound f) g.limit k)
            (carved_passes c.result p (rust.write_budget p c.self (charged p 128 r a q)) h),
      ))

  charge_more_passes : (i n : ℕ) → AllPass (panics.charge_more i n r)
  charge_more_passes i n = some_pass (rust.get i r) _ λ e here.
      both_pass (panics.charge e.payer n r) _ (charge_passes e.payer n r (good_payer e.payer))
      (charged_passes e.payer n r (panics.raise i n) λ a q f.
      let (y, B) = behind (at r.rows e.payer) a q in
      let P : BudgetEntry r e.payer y = record { here = B.here; kind = kind_told y.kind B.kind; read = ap or_missing B.here } in
      let O : ObjectEntry r i e y = record { here = here; read = ap or_missing here; payer = P } in
      let k : e.charge ≤ a.memory_used = subst (λ (x : Account). e.charge ≤ x.memory_used) B.account (charge_within r i e y s O) in
      let g = account_laws.sound_told (good_payer e.payer a q).sound in
      let (d, at_d, same_payer, same) = at_on_account r.rows e.payer i (λ _. charge a n) e here in
      rw at_d (refl, (omega (arith, (good_payer e.payer a q).limit), tt)))

  uncharge_passes : (i n : ℕ) → AllPass (panics.uncharge i n r)
  uncharge_passes i n = some_pass (rust.get i r) _ λ e here. credit_passes e.payer n _

  remove_passes : (i now : ℕ) → AllPass (panics.remove i now r)
  remove_passes i now = picks AllPass (eqb i 1) _ _ (λ _. tt) λ d.
      some_pass (rust.get i r) _ λ e here.
      let low = (s.each i e here).lower (eqb-false i 1 d) in
      let other = Table.at_erase_other r.rows i e.payer (λ h. omega arith) in
      picks AllPass (rust.is_budget e && rust.pays_for_anything i r) _ _ (λ _. tt) λ _. (
        ap panics.is_some here,
        picks AllPass (rust.is_budget e) _ _
            (λ _. some_pass (rust.budget_mut e.payer (rust.remove_entry i r)) _ λ a q.
            let renewed = (budget.refill a now).self in
            both_pass (budget_panics.refill a now ++ budget_panics.release_child true renewed e.account) _
            (both_pass (budget_panics.refill a now) _ (budget_laws.refill_passes a now (good_payer e.payer a (rw other at q)).sound)
            (budget_laws.release_child_passes renewed e.account))
            (ok_pass (budget.release_child true renewed e.account).result _ (credit_passes e.payer e.charge _)))
            (λ _. credit_passes e.payer e.charge (rust.remove_entry i r)),
      )

  refill_passes : (i now : ℕ) → AllPass (panics.refill i now r)
  refill_passes i now = some_pass (rust.budget_mut i r) _ λ a q. budget_laws.refill_passes a now (good_payer i a q).sound

  charge_cpu_passes : (i ns now : ℕ) → AllPass (panics.charge_cpu i ns now r)
  charge_cpu_passes i ns now = some_pass (rust.budget_mut i r) _ λ a q. budget_laws.charge_cpu_passes a ns now (good_payer i a q).sound

-- whichever type a code names
some_type : (o : Option Kind) (checks : Kind → List Check) → ((ty : Kind) → AllPass (checks ty)) → AllPass (panics.if_some o checks)
some_type None checks h = tt
some_type (Some ty) checks h = h ty

-- Question 6 is passed, so the next id can rise by one.

abbrev Room : Registry → RegistryReply → Type 0
Room r a = added a.number ≡ false → has_next r ≡ true

create_room : (kind p : ℕ) (backing : Bool) (r : Registry) → Room r (r01.create kind p backing r)
create_room kind p backing r =
    asked (Room r) (listed kind) (λ h. cc) λ _. asked (Room r) (has_place r) (λ h. cc) λ _. asked (Room r) (has_next r) (λ h. cc) λ d _. d

insert_room : (kind p n : ℕ) (r : Registry) → Room r (r01.insert kind p n r)
insert_room kind p n r =
    asked (Room r) (listed kind) (λ h. cc) λ _. asked (Room r) (not (is_budget_kind (kind_of kind))) (λ h. cc) λ _.
    asked (Room r) (has_place r) (λ h. cc) λ _. asked (Room r) (has_next r) (λ h. cc) λ d _. d

create_budget_room : (p cpu memory time : ℕ) (r : Registry) → Room r (r01.create_budget p cpu memory time r)
create_budget_room p cpu memory time r = asked (Room r) (has_place r) (λ h. cc) λ _. asked (Room r) (has_next r) (λ h. cc) λ d _. d

next_rises : (r : Registry) → has_next r ≡ true → r.next + 1 < 2 ^ 64
next_rises r d = omega (arith, ltb-true r.next _ d)

-- one call
pub call_passes : (c : Call) (ids : ℕ) (r : Registry) → Sound r → Fits ids r → is_added c (run c r).number ≡ false → AllPass (checks c ids r)
unfolding checks
call_passes (create kind payer backing) ids r s f h =
    some_type (rust.from_raw kind) _ λ ty. create_passes r s f.limit ty payer backing (next_rises r (create_room kind payer backing r h))
call_passes (insert kind payer bytes) ids r s f h =
    some_type (rust.from_raw kind) _ λ ty. insert_passes payer bytes r (good_payer r s f.limit payer) (next_rises r (insert_room kind payer bytes r h))
call_passes (create_budget parent cpu memory time) ids r s f h =
    let n = next_rises r (create_budget_room parent cpu memory time r h) in
    create_budget_passes r s f.limit ids parent cpu memory time (omega (arith, f.counter)) n
call_passes (charge_more i bytes) ids r s f h = charge_more_passes r s f.limit i bytes
call_passes (uncharge i bytes) ids r s f h = uncharge_passes r s f.limit i bytes
call_passes (remove i time) ids r s f h = remove_passes r s f.limit i time
call_passes (refill i time) ids r s f h = refill_passes r s f.limit i time
call_passes (charge_cpu i ns time) ids r s f h = charge_cpu_passes r s f.limit i ns time
call_passes (pays_for_anything i) ids r s f h = tt
call_passes (read_account i) ids r s f h = tt
call_passes (charge_of i) ids r s f h = tt
call_passes (read_totals i) ids r s f h = tt

-- Each call leaves the root's limit as it was, and the next id no lower.

pub record Onward (r t : Registry) : Type 0 where
  pub limit : (account_of t 1).memory_limit ≡ (account_of r 1).memory_limit
  pub next : r.next ≤ t.next

abbrev limit_at : List (Row Entry) → ℕ → ℕ
limit_at m i = (or_missing (at m i)).account.memory_limit

limit_alter : (m : List (Row Entry)) (i p : ℕ) (g : Entry → Entry) → ((e : Entry) → (g e).account.memory_limit ≡ e.account.memory_limit)
    → limit_at (alter i g m) p ≡ limit_at m p
limit_alter [] i p g h = refl
limit_alter (r ∷ m) i p g h = test (eqb r.id i)
    (λ a. let q = eqb-true r.id i a in rw (a, q)
    (test (eqb i p) (λ b. rw (b, limit_at) (h r.it)) (λ b. rw (b, limit_at))))
    (λ a. rw a (test (eqb r.id p) (λ b. rw (b, limit_at)) (λ b. rw (b, limit_at) (limit_alter m i p g h))))

module _ (r : Registry) where
  pub stays : Onward r r
  stays = record { limit = refl; next = omega arith }

  pub account_onward : (p : ℕ) (f : Account → Account) → ((a : Account) → (f a).memory_limit ≡ a.memory_limit) → Onward r (r01.budget p f r)
  account_onward p f h = record { limit = limit_alter r.rows p 1 (on_account f) (λ e. h e.account); next = omega arith }

module _ (r : Registry) (s : Sound r) where
  added_onward : (f : Account → Account) (x : Entry) → ((a : Account) → (f a).memory_limit ≡ a.memory_limit) → Onward r (steps.added r f x)
  added_onward f x h =
      let (e, B) = budget_entry r 1 s.root in
      let apart : r.next ≡ 1 → ⊥ = λ q. omega (arith, below_next r s 1 e B.here) in
      record {
        limit = ap (λ (o : Option Entry). (or_missing o).account.memory_limit) (Table.at_snoc_other (r01.budget x.payer f r).rows r.next 1 x apart)
            ∙ (account_onward r x.payer f h).limit;
        next = omega arith;
      }

  charged_onward : (i : ℕ) (e : Entry) (f : Account → Account) (g : ℕ → ℕ) → ((a : Account) → (f a).memory_limit ≡ a.memory_limit)
      → Onward r (steps.charged r i e f g)
  charged_onward i e f g h =
      record { limit = limit_alter (r01.budget e.payer f r).rows i 1 (on_charge g) (λ _. refl) ∙ (account_onward r e.payer f h).limit; next = omega arith }

  removed_onward : (i : ℕ) (e : Entry) (f : Account → Account) → (i ≡ 1 → ⊥) → ((a : Account) → (f a).memory_limit ≡ a.memory_limit)
      → Onward r (steps.removed r i e f)
  removed_onward i e f apart h =
      record {
        limit = limit_alter (r01.drop i r).rows e.payer 1 (on_account f) (λ x. h x.account)
            ∙ ap (λ (o : Option Entry). (or_missing o).account.memory_limit) (Table.at_erase_other r.rows i 1 apart);
        next = omega arith;
      }

renew_limit : (a : Account) (t : ℕ) → (renew a t).memory_limit ≡ a.memory_limit
renew_limit a t = (account_laws.renewal a t).memory_limit

pub onward : (c : Call) (r : Registry) → Sound r → Onward r (run c r).after
onward (create kind payer backing) r s =
    calls.create_cases (λ a. Onward r a.after) kind payer backing r (λ _ _. stays r) λ e B _ _ _ _. added_onward r s _ _ (λ _. refl)
onward (insert kind payer bytes) r s =
    calls.insert_cases (λ a. Onward r a.after) kind payer bytes r (λ _ _. stays r) λ e B _ _ _ _. added_onward r s _ _ (λ _. refl)
onward (create_budget parent cpu memory time) r s =
    calls.create_budget_cases (λ a. Onward r a.after) parent cpu memory time r (λ _ _ _. stays r) (λ _ _ _. stays r)
    (λ _ _ _. account_onward r parent (λ a. renew a time) (λ a. renew_limit a time)) λ e B _ _. added_onward r s _ _ (λ a. renew_limit a time)
onward (charge_more i bytes) r s =
    calls.charge_more_cases (λ a. Onward r a.after) i bytes r s (λ _ _. stays r) λ e y _ _. charged_onward r s i e _ _ (λ _. refl)
onward (uncharge i bytes) r s =
    calls.uncharge_cases (λ a. Onward r a.after) i bytes r s (λ _ _. stays r) λ e y _ _. charged_onward r s i e _ _ (λ _. refl)
onward (remove i time) r s =
    calls.remove_cases (λ a. Onward r a.after) i time r s (λ _ _. stays r) λ e y O not_root _.
    removed_onward r s i e _ not_root (calls.renew_if_moves (is_budget_kind e.kind) y.account time (calls.budget_sound s O.payer)).limit
onward (refill i time) r s =
    calls.refill_cases (λ a. Onward r a.after) i time r (λ _ _. stays r) λ e B. account_onward r i _ (λ a. renew_limit a time)
onward (charge_cpu i ns time) r s =
    calls.charge_cpu_cases (λ a. Onward r a.after) i ns time r (λ _ _ _. stays r)
    (λ e B. account_onward r i _ (λ a. renew_limit a time)) λ e B _. account_onward r i _ (λ a. renew_limit a time)
onward (pays_for_anything i) r s = stays r
onward (read_account i) r s = asked (λ a. Onward r a.after) (r01.is_budget r i) (stays r) (λ _. stays r)
onward (charge_of i) r s = asked (λ a. Onward r a.after) (r01.has r i) (stays r) (λ _. stays r)
onward (read_totals i) r s = asked (λ a. Onward r a.after) (r01.is_budget r i) (stays r) (λ _. stays r)

-- a budget under the id that was next: the next id has risen
risen : (r t : Registry) → Sound t → is_some (rust.budget_mut r.next t) ≡ true → r.next < t.next
risen r t s h = look (rust.budget_mut r.next t) (λ q. absurd (false≢true (rw q at h)))
    (λ a q. let (e, B) = behind (at t.rows r.next) a q in below_next t s r.next e B.here)

-- so the counter stays behind it
pub fits_onward : (ids : ℕ) (r t : Registry) → Sound t → Fits ids r → Onward r t → Fits (cond (is_some (rust.budget_mut r.next t)) (suc ids) ids) t
fits_onward ids r t s f o = record {
  limit = omega (arith, f.limit, o.limit);
  counter = picks (λ n. n ≤ t.next) (is_some (rust.budget_mut r.next t)) (suc ids) ids
      (λ h. omega (arith, f.counter, risen r t s h)) (λ _. omega (arith, f.counter, o.next));
}

-- Lists of calls.

pub no_panics : (cs : List Call) (ids : ℕ) (r : Registry) → Sound r → Fits ids r → NoneAdded cs r → NoPanics cs ids r
no_panics [] ids r s f n = tt
no_panics (c ∷ cs) ids r s f n = (
  call_passes c ids r s f n.0,
  subst (λ (x : Registry). NoPanics cs (cond (is_some (rust.budget_mut r.next x)) (suc ids) ids) x) (after_rust c r s n.0)
      (no_panics cs _ (run c r).after (kept c r s) (fits_onward ids r (run c r).after (kept c r s) f (onward c r s)) n.1),
)

pub new_passes : (cpu memory : ℕ) → cpu ≤ period → AllPass (panics.new 1 cpu memory)
new_passes cpu memory h =
    both_pass (budget_panics.new 1 cpu period memory 0) _ (budget_laws.new_passes 1 cpu memory 0 (omega arith)) (rw (le-ltb period cpu h) (refl, tt))

-- From an opening whose root is the first budget made, so that it takes the counter's 1: neither the opening nor a call behind it panics.
pub opening_no_panics : (cpu memory : ℕ) → cpu ≤ period → memory < 2 ^ 64 → (cs : List Call) → NoneAdded cs (r01.opening cpu memory)
    → AllPass (panics.new 1 cpu memory) × NoPanics cs 2 (rust.new cpu memory)
opening_no_panics cpu memory h w cs n = (
  new_passes cpu memory h,
  subst (NoPanics cs 2) (refines.opening_rust cpu memory h)
      (no_panics cs 2 (r01.opening cpu memory) (calls.opening_sound cpu memory h) (record { limit = w; counter = omega arith }) n),
)

-- The Rust's panics that docs/DIFFERENCES.md has are seen.

-- "an opening's share above the period"
pub share_panics : (memory : ℕ) → AllPass (panics.new 1 10_000_001 memory) → ⊥
share_panics memory h = false≢true h.0

-- "the last ids": a Notification of no bytes where the next id is 2^64 − 1
pub last_id_panics : AllPass (checks (insert 5 1 0) 2 (record { next = 2 ^ 64 - 1; rows = (r01.opening 0 0).rows })) → ⊥
unfolding checks panics.charge budget_panics.charge_memory rust.charge budget.charge_memory
last_id_panics h = let z : 2 ^ 64 - 1 + 1 < 2 ^ 64 = h.1.0 in omega arith
