-- The calls of document 01 answer and leave what the Rust's methods do, on every sound registry, wherever the answer is no refusal that the port adds.
-- Assumes nothing.
use Rattle.std.specs.Prelude.{◌≡◌, refl, Bool, true, false, cond, not, ◌&&◌, ◌||◌, List, [], ◌∷◌, ◌++◌, ℕ, suc, ◌+◌, ◌-◌, ◌≤◌, eqb, leb, Option, Some, None, Ok}
use Rattle.std.proofs.Common.{sym, ap, ◌∙◌, arith, add-one, add-sub_cancel, eqb-true, eq-eqb, ne_eqb, leb-true, le-leb, le-ltb}
use Rattle.std.proofs.Math.Nat.{sub-zero}
use Rattle.std.proofs.lemmas.Bool.{eqb-false}
use Rattle.carv_area.specs.Table.{Row, at, alter, erase, put, total, Rising}
use Rattle.carv_area.specs.Laws.Table.{test, at_alter, at_alter_other, alter_known, alter_alter, alter_id, alter_swap, erase_alter, at_erase_other, rising_le, rising_alter, total_at}
use Rattle.carv_budget.specs.declared.Account.{Account}
use Rattle.carv_budget.specs.Account as account
use Rattle.carv_budget.specs.Rust as budget
use Rattle.carv_budget.proofs.Laws.Account.{renewal, renew_not_due, returnable_renewed}
use Rattle.carv_budget.proofs.Laws.Refines.{refill_renews, charge_memory_by, release_memory_by, charge_cpu_by, carve_out_by, release_child_by, renew_charged}
use Rattle.carv_objects_spec.specs.declared.kind.Kind.{Kind}
use Rattle.carv_objects_spec.specs.declared.kind.Kind.TheVariants as kinds
use Rattle.carv_objects_spec.specs.declared.kind.Kind.TheVariants.{Thread, AddressSpace, Frame, Endpoint, Notification, Budget, Irq, IrqControl}
use Rattle.carv_objects_spec.specs.Kinds.{listed, kind_of, bytes_of, creatable, needs_backing, is_budget_kind}
use Rattle.carv_objects_spec.proofs.Laws.Kinds.{kind_shown, kind_apart, from_raw_is}
use Rattle.carv_objects_spec.specs.declared.Entry.{Entry}
use Rattle.carv_objects_spec.specs.Reply.{refuse, accept, without_answer, Value, pays, of_account, charge}
use Rattle.carv_objects_spec.specs.Registry as r01
use Rattle.carv_objects_spec.specs.Totals.{read_totals}
use Rattle.carv_objects_spec.specs.Registry.{Registry, RegistryReply, or_missing, entry, is_budget, account_of, payer_of, on_account, object, drop, add, plain, carved, has_place, has_next}
use Rattle.carv_objects_spec.specs.Rust as rust
use Rattle.carv_objects_spec.specs.Replies.{reply_of, of_type, an_id, nothing, a_renewal, cpu_reply_of, reading_of}
use Rattle.carv_objects_spec.specs.Refused.{added, added_to_uncharge}
use Rattle.carv_objects_spec.specs.Rust.{Call}
use Rattle.carv_objects_spec.specs.Sound.{charge_by}
use Rattle.carv_objects_spec.proofs.Laws.SoundFacts.{Sound}
use Rattle.carv_objects_spec.proofs.Laws.Kept.{removal_returnable}
use Rattle.carv_objects_spec.proofs.Laws.Questions as asks

-- a row after the last
put_last : {A : Type 0} (m : List (Row A)) (l n i : ℕ) (a : A) → Rising l n m → n ≤ i → put i a m ≡ m ++ (record { id = i; it = a } ∷ [])
put_last [] l n i a u h = refl
put_last (r ∷ m) l n i a u h =
    let k = rising_le m (suc r.id) n u.1 in
    rw (ne_eqb r.id i (λ q. omega arith), le-ltb i r.id (omega arith)) (ap (◌∷◌ r) (put_last m (suc r.id) n i a u.1 h))

-- Budgets. `write` is what the Rust leaves behind `budget_mut`.

abbrev write : ℕ → Account → Registry → Registry
write = rust.write_budget

-- a budget is there
there : (o : Option Entry) → is_budget_kind (or_missing o).kind ≡ true → o ≡ Some (or_missing o)
there None p = cc
there (Some e) p = refl

budget_of_is : (o : Option Entry) → rust.budget_of o ≡ cond (is_budget_kind (or_missing o).kind) (Some (or_missing o).account) None
budget_of_is None = refl
budget_of_is (Some e) = refl

budget_mut_is : (p : ℕ) (r : Registry) → rust.budget_mut p r ≡ cond (is_budget r p) (Some (account_of r p)) None
budget_mut_is p r = budget_of_is (at r.rows p)

abbrev with_rows : Registry → List (Row Entry) → Registry
with_rows r m = record { next = r.next; rows = m }

write_write : (p : ℕ) (x y : Account) (r : Registry) → write p y (write p x r) ≡ write p y r
write_write p x y r = ap (with_rows r) (alter_alter r.rows p (rust.set_budget x) (rust.set_budget y))

module _ (p : ℕ) (r : Registry) (live : is_budget r p ≡ true) where
  -- a step of the account is what is written
  step_is : (f : Account → Account) → r01.budget p f r ≡ write p (f (account_of r p)) r
  step_is f = ap (with_rows r) (alter_known r.rows p (on_account f) (rust.set_budget (f (account_of r p))) (entry r p) (there (at r.rows p) live) refl)

  write_same : write p (account_of r p) r ≡ r
  write_same = ap (with_rows r) (alter_known r.rows p (rust.set_budget (account_of r p)) (λ e. e) (entry r p) (there (at r.rows p) live) refl ∙ alter_id r.rows p)

  budget_written : (x : Account) → rust.budget_mut p (write p x r) ≡ Some x
  budget_written x = rw (at_alter r.rows p (rust.set_budget x) (entry r p) (there (at r.rows p) live), live)

  credit_written : (x : Account) (n : ℕ) → rust.credit p n (write p x r) ≡ write p (budget.release_memory x n).self r
  unfolding rust.credit
  credit_written x n = rw (budget_written x) (write_write p x _ r)

released : (x : Account) (n : ℕ) → n ≤ x.memory_used → (budget.release_memory x n).self ≡ account.credit x n
released x n h = rw (release_memory_by x n, le-leb n x.memory_used h)

credit_charged : (p n : ℕ) (r : Registry) (a : Account) → is_budget r p ≡ true → rust.credit p n (write p (account.charge a n) r) ≡ write p a r
credit_charged p n r a l = rw (credit_written p r l (account.charge a n) n, released (account.charge a n) n (omega arith), add-sub_cancel)

-- `charge(..)?` and what follows, the payer charged: question 12 where the payer is there, questions 7 and 12 else
module _ {A : Type 0} (value : A → Option Value) (invalid p n : ℕ) (r : Registry) (k : Unit {0} → Registry → Call A) (x : RegistryReply) where
  abbrev Rest : Type 0
  Rest = leb n (account.free (account_of r p)) ≡ true → x ≡ reply_of value invalid (k tt (write p (account.charge (account_of r p) n) r))

  paid : is_budget r p ≡ true → Rest → cond (leb n (account.free (account_of r p))) x (refuse 12 r) ≡ reply_of value invalid (rust.try (rust.charge p n r) k)
  unfolding rust.charge
  paid l h = rw (budget_mut_is p r, l, charge_memory_by) (test (leb n (account.free (account_of r p))) (λ f. rw f (h f)) (λ f. rw (f, write_same p r l)))

  charged : (is_budget r p ≡ true → Rest)
      → cond (is_budget r p) (cond (leb n (account.free (account_of r p))) x (refuse 12 r)) (refuse 7 r) ≡ reply_of value invalid (rust.try (rust.charge p n r) k)
  unfolding rust.charge
  charged h = test (is_budget r p) (λ l. rw l (paid l (h l))) (λ l. rw (budget_mut_is p r, l))

-- The theorems, each with what it rests on. A call that asks no added question has no premise on its number, and one that needs no soundness none on the registry.

-- if x is no added refusal, then it is y
abbrev Agrees : (x y : RegistryReply) → Type 0
Agrees x y = added x.number ≡ false → x ≡ y

-- an added question is passed
skip : (number : ℕ) (b : Bool) {k y : RegistryReply} (r : Registry) → added number ≡ true → (b ≡ true → Agrees k y) → Agrees (cond b k (refuse number r)) y
skip n true r a h p = h refl p
skip n false r a h p = cc

-- the next id's entry stands last
stored : (e : Entry) (s : Registry) → Rising 1 s.next s.rows → accept (an_id s.next) (add e s) ≡ reply_of an_id 13 (rust.store e s)
stored e s u = rw (put_last s.rows 1 s.next s.next e u (omega arith), add-one)

-- a step of the payer's account, and an entry more
inserted : (e : Entry) (p : ℕ) (f : Account → Account) (r : Registry) → Rising 1 r.next r.rows → is_budget r p ≡ true
    → accept (an_id r.next) (add e (r01.budget p f r)) ≡ reply_of an_id 13 (rust.store e (write p (f (account_of r p)) r))
inserted e p f r u l =
    ap (λ (s : Registry). accept {S = Registry} (an_id s.next) (add e s)) (step_is p r l f) ∙ stored e (write p (f (account_of r p)) r) (rising_alter r.rows 1 r.next p _ u)

pub insert_rust : (kind payer bytes : ℕ) (r : Registry) → Sound r → added (r01.insert kind payer bytes r).number ≡ false
    → r01.insert kind payer bytes r ≡ of_type (rust.from_raw kind) (λ ty. reply_of an_id 13 (rust.insert payer ty bytes r)) r
insert_rust kind payer bytes r s =
    skip 4 (listed kind) r refl λ w. rw (from_raw_is kind w)
    (skip 4 (not (is_budget_kind (kind_of kind))) r refl λ _. skip 6 (has_place r) r refl λ _. skip 6 (has_next r) r refl λ _ _.
    charged an_id 13 payer bytes r _ _ λ l _. inserted (plain (kind_of kind) payer bytes) payer (λ a. account.charge a bytes) r s.rising l)

-- what `create` answers by what it could build; x where it could
abbrev of_build : Registry → RegistryReply → rust.Built → RegistryReply
of_build r x rust.built = x
of_build r x rust.no_backing = refuse 14 r
of_build r x rust.no_method = refuse 13 r

build_by : (ty : Kind) (backing : Bool) (r : Registry) (x : RegistryReply)
    → cond (creatable ty) (cond (not (needs_backing ty) || backing) x (refuse 14 r)) (refuse 13 r) ≡ of_build r x (rust.build ty backing)
build_by Thread k r x = refl
build_by AddressSpace true r x = refl
build_by AddressSpace false r x = refl
build_by Frame true r x = refl
build_by Frame false r x = refl
build_by Endpoint k r x = refl
build_by Notification k r x = refl
build_by Budget k r x = refl
build_by kinds.Reply k r x = refl
build_by Irq k r x = refl
build_by IrqControl k r x = refl

-- `object_bytes` is 01's table
object_bytes_is : (ty : Kind) → rust.object_bytes ty ≡ bytes_of ty
object_bytes_is Thread = refl
object_bytes_is AddressSpace = refl
object_bytes_is Frame = refl
object_bytes_is Endpoint = refl
object_bytes_is Notification = refl
object_bytes_is Budget = refl
object_bytes_is kinds.Reply = refl
object_bytes_is Irq = refl
object_bytes_is IrqControl = refl

-- x is what `insert` answers, once the charge is credited, to a payer that has room
module _ (kind : Kind) (payer : ℕ) (r charged : Registry) (x : RegistryReply) (f : leb (bytes_of kind) (account.free (account_of r payer)) ≡ true)
    (back : rust.credit payer (bytes_of kind) charged ≡ r)
    (h : cond (leb (bytes_of kind) (account.free (account_of r payer))) x (refuse 12 r) ≡ reply_of an_id 13 (rust.insert payer kind (bytes_of kind) r)) where
  created : (b : rust.Built) → of_build r x b ≡ reply_of an_id 13 (rust.create_built b kind payer charged)
  created rust.built = rw (object_bytes_is kind, back) (rw f at h)
  created rust.no_backing = rw (object_bytes_is kind, back)
  created rust.no_method = rw (object_bytes_is kind, back)

pub create_rust : (kind payer : ℕ) (backing : Bool) (r : Registry) → Sound r → added (r01.create kind payer backing r).number ≡ false
    → r01.create kind payer backing r ≡ of_type (rust.from_raw kind) (λ ty. reply_of an_id 13 (rust.create ty payer backing r)) r
create_rust kind payer backing r s =
    let ty : Kind = kind_of kind in
    skip 4 (listed kind) r refl λ w. rw (from_raw_is kind w, object_bytes_is ty)
    (skip 6 (has_place r) r refl λ _. skip 6 (has_next r) r refl λ _ _.
    charged an_id 13 payer (bytes_of ty) r _ _ λ l f. build_by ty backing r _
    ∙ created ty payer r _ _ f (credit_charged payer (bytes_of ty) r (account_of r payer) l ∙ write_same payer r l)
    (paid an_id 13 payer (bytes_of ty) r _ _ l λ _. inserted (plain ty payer (bytes_of ty)) payer (λ a. account.charge a (bytes_of ty)) r s.rising l)
    (rust.build ty backing))

-- a renewal leaves free memory as it is
free_renewed : (a : Account) (n t : ℕ) → account.free (account.charge (account.renew a t) n) ≡ account.free (account.charge a n)
unfolding account.renew
free_renewed a n t = refl

pub create_budget_rust : (parent cpu memory time : ℕ) (r : Registry) → Sound r → added (r01.create_budget parent cpu memory time r).number ≡ false
    → r01.create_budget parent cpu memory time r ≡ reply_of an_id 13 (rust.create_budget parent cpu memory time r)
create_budget_rust parent cpu memory time r s =
    skip 6 (has_place r) r refl λ _. skip 6 (has_next r) r refl λ _ _.
    charged an_id 13 parent 128 r _ _ λ l _.
    let a : Account = account_of r parent in
    rw (budget_written parent r l (account.charge a 128), carve_out_by (account.charge a 128) cpu memory time, renew_charged a 128 time, free_renewed a 128 time)
    (test (leb cpu (account.renew a time).cpu_left)
    (λ c. rw c (test (leb memory (account.free (account.charge a 128)))
    (λ m. rw (m, alter_alter) (inserted (carved parent cpu memory (account.renew a time)) parent (λ a. account.reserve (account.charge (account.renew a time) 128) cpu memory) r s.rising l))
    (λ m. rw (m, alter_alter, credit_charged parent 128 r (account.renew a time) l, step_is parent r l (λ a. account.renew a time)))))
    (λ c. rw (c, alter_alter, credit_charged parent 128 r (account.renew a time) l, step_is parent r l (λ a. account.renew a time))))

-- what stands under an id
look : {C : Type 0} (o : Option Entry) → (o ≡ None → C) → (o ≡ Some (or_missing o) → C) → C
look None f g = f refl
look (Some e) f g = g refl

-- of an entry of a sound registry: its payer is a budget, whose account covers its charge
module _ (r : Registry) (s : Sound r) (i : ℕ) (q : at r.rows i ≡ Some (entry r i)) where
  payer_there : is_budget r (payer_of r i) ≡ true
  payer_there = kind_shown (entry r (payer_of r i)).kind (s.each i (entry r i) q).paid

  covered : (entry r i).charge ≤ (account_of r (payer_of r i)).memory_used
  covered =
      let p : ℕ = payer_of r i in
      let t : charge_by p i (entry r i) ≤ total (charge_by p) r.rows = total_at (charge_by p) r.rows i (entry r i) q in
      let t' : (entry r i).charge ≤ total (charge_by p) r.rows = rw (eq-eqb p p refl) at t in
      omega (arith, (s.each p (entry r p) (there (at r.rows p) payer_there)).used)

pub charge_more_rust : (i bytes : ℕ) (r : Registry) → Sound r → r01.charge_more i bytes r ≡ reply_of nothing 13 (rust.charge_more i bytes r)
charge_more_rust i bytes r s = look (at r.rows i) (λ q. rw q) λ q.
    let l = payer_there r s i q in
    rw q (paid nothing 13 (payer_of r i) bytes r _ _ l λ _.
    ap (λ (t : Registry). accept {A = Value} None (object i (λ c. c + bytes) t)) (step_is (payer_of r i) r l (λ a. account.charge a bytes)))

-- an entry's charge, as the Rust writes it
abbrev recharge : (ℕ → ℕ) → Entry → Entry
recharge f e = rust.set_charged (f e.charge) e

-- it is seen in no account
charge_aside : (m : List (Row Entry)) (i p : ℕ) (f : ℕ → ℕ) → rust.budget_of (at (alter i (recharge f) m) p) ≡ rust.budget_of (at m p)
charge_aside [] i p f = refl
charge_aside (r ∷ m) i p f = test (eqb r.id i)
    (λ e. rw (e, ← eqb-true r.id i e) (test (eqb r.id p) (λ d. rw d) (λ d. rw d)))
    (λ e. rw e (test (eqb r.id p) (λ d. rw d) (λ d. rw d (charge_aside m i p f))))

-- the Rust lowers the entry and credits the payer, 01 the other way round
credit_aside : (p n i : ℕ) (f : ℕ → ℕ) (r : Registry) → is_budget r p ≡ true → n ≤ (account_of r p).memory_used
    → object i f (r01.budget p (λ a. account.credit a n) r) ≡ rust.credit p n (rust.write_charged i f r)
unfolding rust.credit
credit_aside p n i f r l h =
    rw (charge_aside r.rows i p f, budget_mut_is p r, l, released (account_of r p) n h, alter_swap r.rows p i (rust.set_budget (account.credit (account_of r p) n)) (recharge f) (λ _. refl))
    (ap (object i f) (step_is p r l (λ a. account.credit a n)))

pub uncharge_rust : (i bytes : ℕ) (r : Registry) → Sound r → added_to_uncharge (r01.uncharge i bytes r).number ≡ false
    → r01.uncharge i bytes r ≡ accept None (rust.uncharge i bytes r)
uncharge_rust i bytes r s = look (at r.rows i) (λ q. rw q (λ p. cc)) λ q.
    rw q (test (leb bytes (entry r i).charge)
    (λ h. rw h λ _. ap (λ (t : Registry). accept {A = Value} None t)
    (credit_aside (payer_of r i) bytes i (λ c. c - bytes) r (payer_there r s i q) (omega (arith, covered r s i q, leb-true bytes (entry r i).charge h))))
    (λ h. rw h (λ p. cc)))

-- a return of nothing
pub return_blank : (a : Account) → account.return a account.blank ≡ a
return_blank a = rw (sub-zero a.cpu_reserved, sub-zero a.memory_reserved)

-- an entry taken out, not the root's: its payer stays, so that its charge is credited there
module _ (r : Registry) (s : Sound r) (i : ℕ) (q : at r.rows i ≡ Some (entry r i)) (d : eqb i 1 ≡ false) where
  abbrev payer : ℕ
  payer = payer_of r i

  abbrev left : Registry
  left = drop i r

  stays : at (erase i r.rows) (payer_of r i) ≡ at r.rows (payer_of r i)
  stays = let h = (s.each i (entry r i) q).lower (eqb-false i 1 d) in at_erase_other r.rows i (payer_of r i) (λ w. omega arith)

  still_budget : is_budget left payer ≡ true
  still_budget = ap (λ (o : Option Entry). is_budget_kind (or_missing o).kind) stays ∙ payer_there r s i q

  same_account : account_of left payer ≡ account_of r payer
  same_account = ap (λ (o : Option Entry). (or_missing o).account) stays

  kept : write payer (account_of r payer) left ≡ left
  kept = rw (← same_account) (write_same payer left still_budget)

  -- f leaves the memory used: nothing, or P2's renewal
  credited : (f : Account → Account) (child : Account) → (f (account_of r payer)).memory_used ≡ (account_of r payer).memory_used
      → r01.budget payer (λ a. account.credit (account.return (f a) child) (entry r i).charge) left
      ≡ rust.credit payer (entry r i).charge (write payer (account.return (f (account_of r payer)) child) left)
  credited f child used =
      rw (
        step_is payer left still_budget (λ a. account.credit (account.return (f a) child) (entry r i).charge),
        same_account,
        credit_written payer left still_budget,
        released (account.return (f (account_of r payer)) child) (entry r i).charge (omega (arith, covered r s i q)),
      )

  -- a child that can be returned, to the payer as it is or renewed
  returned : (now : ℕ) → account.returnable (account_of r payer) (account_of r i) ≡ true
      → accept None (r01.budget payer (λ a. account.credit (account.return (account.renew a now) (account_of r i)) (entry r i).charge) left)
      ≡ reply_of nothing 15 (rust.remove_budget (λ parent. (budget.refill parent now).self) (rust.budget_mut payer left) i (entry r i) left)
  returned now t =
      rw (
        budget_mut_is payer left,
        still_budget,
        same_account,
        refill_renews (account_of r payer) now,
        release_child_by (account.renew (account_of r payer) now) (account_of r i),
        returnable_renewed (account_of r payer) (account_of r i) now,
        t,
      ) (ap (λ (x : Registry). accept {A = Value} None x) (credited (λ a. account.renew a now) (account_of r i) (renewal (account_of r payer) now).used))

  -- the Rust's own removal, where the payer is not due
  not_due : (now : ℕ) → account.due (account_of r payer) now ≡ false
      → rust.remove_budget (λ parent. (budget.refill parent now).self) (rust.budget_mut payer left) i (entry r i) left
      ≡ rust.remove_budget (λ parent. parent) (rust.budget_mut payer left) i (entry r i) left
  not_due now w = rw (budget_mut_is payer left, still_budget, same_account, refill_renews (account_of r payer) now, ← renew_not_due (account_of r payer) now w)

  plain_credited : is_budget r i ≡ false
      → r01.budget payer (λ a. account.credit (account.return a (account_of r i)) (entry r i).charge) left ≡ rust.credit payer (entry r i).charge left
  plain_credited b = rw ((s.each i (entry r i) q).plain b) (credited (λ a. a) account.blank refl ∙ rw (return_blank (account_of r payer), kept))

-- `pays_for_anything` is 01's
pays_is : (i : ℕ) (m : List (Row Entry)) → r01.pays_in m i ≡ rust.any (λ e. not (eqb e.id i) && eqb e.it.payer i) m
pays_is i [] = refl
pays_is i (e ∷ m) = ap (λ (b : Bool). (not (eqb e.id i) && eqb e.it.payer i) || b) (pays_is i m)

pub remove_rust : (i time : ℕ) (r : Registry) → Sound r → r01.remove i time r ≡ reply_of nothing 15 (rust.remove i time r)
remove_rust i time r s = look (at r.rows i)
    (λ q. let root : (or_missing (at r.rows 1)).kind ≡ Budget = s.root in
    let d : eqb i 1 ≡ false = ne_eqb i 1 (λ w. kind_apart IrqControl refl cc) in rw (q, d))
    λ q. rw q (test (eqb i 1) (λ d. rw d) (λ d. rw d
    (test (is_budget r i)
    (λ b. test (r01.pays_for r i)
    (λ w. let w' = sym (pays_is i r.rows) ∙ w in rw (b, w, w'))
    (λ w. let w' = sym (pays_is i r.rows) ∙ w in
    let t = removal_returnable r i s (ap r01.found q) (eqb-false i 1 d) b w in rw (b, w, w') (returned r s i q d time t)))
    (λ b. rw b (ap (λ (x : Registry). accept {A = Value} None x) (plain_credited r s i q d b))))))

-- P2 changes nothing else: where no budget is removed, or one whose payer is not due, that is carv-os' own removal
remove_unrenewed_is : (i time : ℕ) (r : Registry) → Sound r
    → ((r01.remove i time r).number ≡ 0 → is_budget r i ≡ true → account.due (account_of r (payer_of r i)) time ≡ false)
    → rust.remove i time r ≡ rust.remove_unrenewed i r
remove_unrenewed_is i time r s h = look (at r.rows i) (λ q. rw q)
    λ q. rw q (test (eqb i 1) (λ d. rw d) (λ d. rw d
    (test (is_budget r i)
    (λ b. test (r01.pays_for r i)
    (λ w. let w' = sym (pays_is i r.rows) ∙ w in rw (b, w'))
    (λ w. let w' = sym (pays_is i r.rows) ∙ w in
    let accepted = ap (λ (z : r01.RegistryReply). z.number) (asks.remove_budget i time r (ap r01.found q) (eqb-false i 1 d) b w) in
    rw (b, w') (not_due r s i q d time (h accepted b))))
    (λ b. rw b))))

pub remove_carv_os : (i time : ℕ) (r : Registry) → Sound r
    → ((r01.remove i time r).number ≡ 0 → is_budget r i ≡ true → account.due (account_of r (payer_of r i)) time ≡ false)
    → r01.remove i time r ≡ reply_of nothing 15 (rust.remove_unrenewed i r)
remove_carv_os i time r s h = remove_rust i time r s ∙ ap (reply_of nothing 15) (remove_unrenewed_is i time r s h)

-- P2's reference, made by calls: `refill` of the payer, then carv-os' own `remove`, where a budget's removal goes through
pays_aside : (i p : ℕ) (x : Account) (m : List (Row Entry)) → r01.pays_in (alter p (rust.set_budget x) m) i ≡ r01.pays_in m i
pays_aside i p x [] = refl
pays_aside i p x (r ∷ m) = test (eqb r.id p)
    (λ e. rw (e, ← eqb-true r.id p e))
    (λ e. rw e (ap (λ (b : Bool). (not (eqb r.id i) && eqb r.it.payer i) || b) (pays_aside i p x m)))

refilled_is : (p time : ℕ) (r : Registry) → is_budget r p ≡ true → (rust.refill p time r).self ≡ write p (account.renew (account_of r p) time) r
refilled_is p time r l = rw (budget_mut_is p r, l, refill_renews)

module _ (r : Registry) (s : Sound r) (i : ℕ) (q : at r.rows i ≡ Some (entry r i)) (d : eqb i 1 ≡ false) (time : ℕ)
    (t : account.returnable (account_of r (payer_of r i)) (account_of r i) ≡ true) where
  apart : i ≡ payer_of r i → ⊥
  apart w = let h = (s.each i (entry r i) q).lower (eqb-false i 1 d) in omega arith

  abbrev refilled : Registry
  refilled = write (payer_of r i) (account.renew (account_of r (payer_of r i)) time) r

  same_entry : at refilled.rows i ≡ Some (entry r i)
  same_entry = at_alter_other r.rows (payer_of r i) i _ (λ w. apart (sym w)) ∙ q

  same_left : drop i refilled ≡ write (payer_of r i) (account.renew (account_of r (payer_of r i)) time) (drop i r)
  same_left = ap (with_rows r) (erase_alter r.rows i (payer_of r i) _ apart)

  abbrev returned_account : Account
  returned_account = account.return (account.renew (account_of r (payer_of r i)) time) (account_of r i)

  refilled_returned : rust.remove_budget (λ parent. parent) (rust.budget_mut (payer_of r i) (drop i refilled)) i (entry r i) (drop i refilled)
      ≡ rust.gives (rust.credit (payer_of r i) (entry r i).charge (write (payer_of r i) returned_account (drop i r))) (Ok tt)
  refilled_returned =
      ap (λ (z : Registry). rust.remove_budget (λ parent. parent) (rust.budget_mut (payer_of r i) z) i (entry r i) z) same_left
      ∙ ap (λ (o : Option Account). rust.remove_budget (λ parent. parent) o i (entry r i) (write (payer_of r i) (account.renew (account_of r (payer_of r i)) time) (drop i r)))
      (budget_written (payer_of r i) (drop i r) (still_budget r s i q d) (account.renew (account_of r (payer_of r i)) time))
      ∙ rw (
        release_child_by (account.renew (account_of r (payer_of r i)) time) (account_of r i),
        returnable_renewed (account_of r (payer_of r i)) (account_of r i) time,
        t,
      ) (ap (λ (z : Registry). rust.gives {A = Unit {0}} (rust.credit (payer_of r i) (entry r i).charge z) (Ok tt)) (write_write (payer_of r i) _ _ (drop i r)))

  both_returned : rust.remove_budget (λ parent. (budget.refill parent time).self) (rust.budget_mut (payer_of r i) (drop i r)) i (entry r i) (drop i r)
      ≡ rust.remove_budget (λ parent. parent) (rust.budget_mut (payer_of r i) (drop i refilled)) i (entry r i) (drop i refilled)
  both_returned =
      rw (
        budget_mut_is (payer_of r i) (drop i r),
        still_budget r s i q d,
        same_account r s i q d,
        refill_renews (account_of r (payer_of r i)) time,
        release_child_by (account.renew (account_of r (payer_of r i)) time) (account_of r i),
        returnable_renewed (account_of r (payer_of r i)) (account_of r i) time,
        t,
      ) (sym refilled_returned)

pub remove_refilled : (i time : ℕ) (r : Registry) → Sound r → is_budget r i ≡ true → (r01.remove i time r).number ≡ 0
    → rust.remove i time r ≡ rust.remove_unrenewed i (rust.refill (payer_of r i) time r).self
remove_refilled i time r s b n = look (at r.rows i)
    (λ q. let z : 7 ≡ 0 = rw q at n in absurd (omega arith))
    λ q. test (eqb i 1) (λ d. let z : 9 ≡ 0 = rw (q, d) at n in absurd (omega arith)) λ d.
    test (r01.pays_for r i) (λ w. let z : 10 ≡ 0 = rw (q, d, b, w) at n in absurd (omega arith)) λ w.
    let w' = sym (pays_is i r.rows) ∙ w in
    let t = removal_returnable r i s (ap r01.found q) (eqb-false i 1 d) b w in
    let x = account.renew (account_of r (payer_of r i)) time in
    let v = sym (pays_is i (write (payer_of r i) x r).rows) ∙ pays_aside i (payer_of r i) x r.rows ∙ w in
    rw (refilled_is (payer_of r i) time r (payer_there r s i q), same_entry r s i q d time t, q, d, b, w', v) (both_returned r s i q d time t)

pub refill_rust : (i time : ℕ) (r : Registry) → r01.refill i time r ≡ reply_of a_renewal 13 (rust.refill i time r)
refill_rust i time r = test (is_budget r i)
    (λ l. rw (budget_mut_is i r, l, refill_renews, step_is i r l (λ a. account.renew a time)))
    (λ l. rw (budget_mut_is i r, l))

pub charge_cpu_rust : (i ns time : ℕ) (r : Registry) → r01.charge_cpu i ns time r ≡ cpu_reply_of (rust.charge_cpu i ns time r)
charge_cpu_rust i ns time r = test (is_budget r i)
    (λ l. rw (budget_mut_is i r, l, charge_cpu_by) (test (leb ns (account.renew (account_of r i) time).cpu_left)
    (λ c. rw (c, step_is i r l (λ a. account.spend (account.renew a time) ns)))
    (λ c. rw (c, step_is i r l (λ a. account.renew a time)))))
    (λ l. rw (budget_mut_is i r, l))

pub pays_for_anything_rust : (i : ℕ) (r : Registry) → r01.pays_for_anything i r ≡ accept (Some (pays (rust.pays_for_anything i r))) r
pays_for_anything_rust i r = rw (pays_is i r.rows)

pub read_account_rust : (i : ℕ) (r : Registry) → r01.read_account i r ≡ reading_of of_account (rust.budget_mut i r) r
read_account_rust i r = rw (budget_mut_is i r) (test (is_budget r i) (λ l. rw l) (λ l. rw l))

pub charge_of_rust : (i : ℕ) (r : Registry) → r01.charge_of i r ≡ reading_of (λ c. charge c.0 c.1) (rust.charge_of i r) r
charge_of_rust i r = look (at r.rows i) (λ q. rw q) (λ q. rw q)

-- P1's reading, which the Rust lacks, leaves the registry as it was, accepted or refused
pub read_totals_rust : (i : ℕ) (r : Registry) → without_answer (read_totals i r) ≡ accept None r
read_totals_rust i r = test (is_budget r i) (λ l. rw l) (λ l. rw l)

pub opening_rust : (cpu memory : ℕ) → cpu ≤ account.period → r01.opening cpu memory ≡ rust.new cpu memory
opening_rust cpu memory h = rw (le-ltb account.period cpu h)
