-- The account's laws, which the crates above cite: what question 1 tells, that every call keeps it, what each call does to the line. Assumes nothing.
use Rattle.std.specs.Prelude.{Bool, true, false, cond, ◌&&◌, ◌≡◌, refl, ℕ, ◌+◌, ◌-◌, ◌%◌, ◌≤◌, ◌<◌, leb, Result, IfOk}
use Rattle.std.proofs.Common.{sym, ap, ◌∙◌, arith, mod-lt, add-sub_cancel, leb-true, eqb-true, le-leb}
use Rattle.std.proofs.lemmas.Bool.{lt-leb, and_parts}
use Rattle.carv_budget.specs.declared.Account.{Account}
use Rattle.carv_budget.specs.declared.BudgetError.{BudgetError}
use Rattle.carv_budget.specs.declared.Outcome.{Outcome}
use Rattle.carv_budget.specs.Account.{period, sound, fresh, with_cpu, due, renew, free, spend, charge, credit, reserve, return, returnable, spent, carved, open_account, refill, charge_cpu, charge_memory, release_memory, carve_out, release_child}
-- tests joined by "and"
pub use Rattle.std.proofs.lemmas.Bool.{and_from as both, and_left as not_first, and_right as not_second}

pub first : (a b : Bool) → (a && b) ≡ true → a ≡ true
first a b p = (and_parts a b p).0

pub second : (a b : Bool) → (a && b) ≡ true → b ≡ true
second a b p = (and_parts a b p).1

-- question 1 as facts; `sound_told` and `sound_shown` say that the test and the facts are the same
pub record Sound (a : Account) : Type 0 where
  pub memory : a.memory_used + a.memory_reserved ≤ a.memory_limit
  pub cpu : a.cpu_left + a.cpu_reserved ≤ a.cpu_allowance
  pub share : a.cpu_allowance ≤ period

pub sound_told : {a : Account} → sound a ≡ true → Sound a
unfolding sound
sound_told p =
    record { memory = leb-true _ _ (search (first, second, p)); cpu = leb-true _ _ (search (first, second, p)); share = leb-true _ _ (search (first, second, p)) }

pub sound_shown : {a : Account} → Sound a → sound a ≡ true
unfolding sound
sound_shown s = search (both, le-leb)

-- the renewed figures, by cases
pub renewed_cpu : (b : Bool) (left reserved allowance : ℕ) → left + reserved ≤ allowance → cond b (allowance - reserved) left + reserved ≤ allowance
renewed_cpu true l r w p = omega arith
renewed_cpu false l r w p = p

-- a renewal keeps an account sound
pub renew_sound : (a : Account) (t : ℕ) → sound a ≡ true → sound (renew a t) ≡ true
unfolding renew
renew_sound a t p =
    let s : Sound a = sound_told p in
    sound_shown (record { memory = s.memory; cpu = renewed_cpu (due a t) a.cpu_left a.cpu_reserved a.cpu_allowance s.cpu; share = s.share })

-- a renewal that is not due changes nothing, and one that is due changes start and CPU left
pub renew_not_due : (a : Account) (t : ℕ) → due a t ≡ false → a ≡ renew a t
unfolding renew
renew_not_due a t p = rw p

pub renew_due : (a : Account) (t : ℕ) → due a t ≡ true → with_cpu a (t - (t - a.period_start) % period) (a.cpu_allowance - a.cpu_reserved) a.cpu_reserved ≡ renew a t
unfolding renew
renew_due a t p = rw p

-- what a test decides of what it picks
pub picks : {A : Type 0} (P : A → Type 0) (b : Bool) (x y : A) → (b ≡ true → P x) → (b ≡ false → P y) → P (cond b x y)
picks P true x y p q = p refl
picks P false x y p q = q refl

-- A child that can be returned has no use and no reservations, and its limits are within the parent's reservations.
pub record Returnable (a child : Account) : Type 0 where
  pub no_cpu : child.cpu_reserved ≡ 0
  pub no_memory : child.memory_reserved ≡ 0
  pub no_use : child.memory_used ≡ 0
  pub cpu : child.cpu_allowance ≤ a.cpu_reserved
  pub memory : child.memory_limit ≤ a.memory_reserved

pub returnable_told : {a child : Account} → returnable a child ≡ true → Returnable a child
unfolding returnable
returnable_told {a} {child} p =
    record {
      no_cpu = eqb-true _ _ (search (first, second, p) depth 8);
      no_memory = eqb-true _ _ (search (first, second, p) depth 8);
      no_use = eqb-true _ _ (search (first, second, p) depth 8);
      cpu = leb-true _ _ (search (first, second, p) depth 8);
      memory = leb-true _ _ (search (first, second, p) depth 8);
    }

-- Each step keeps question 1's condition where its own question is passed.

pub fresh_sound : (allowance limit start : ℕ) → allowance ≤ period → sound (fresh allowance limit start) ≡ true
fresh_sound allowance limit start h = sound_shown (record { memory = omega arith; cpu = omega arith; share = h })

pub spend_sound : (a : Account) (ns : ℕ) → sound a ≡ true → sound (spend a ns) ≡ true
spend_sound a ns p = let s : Sound a = sound_told p in sound_shown (record { memory = s.memory; cpu = omega arith; share = s.share })

pub charge_sound : (a : Account) (bytes : ℕ) → sound a ≡ true → bytes ≤ free a → sound (charge a bytes) ≡ true
charge_sound a bytes p h = let s : Sound a = sound_told p in sound_shown (record { memory = omega arith; cpu = s.cpu; share = s.share })

pub credit_sound : (a : Account) (bytes : ℕ) → sound a ≡ true → sound (credit a bytes) ≡ true
credit_sound a bytes p = let s : Sound a = sound_told p in sound_shown (record { memory = omega arith; cpu = s.cpu; share = s.share })

pub reserve_sound : (a : Account) (ns bytes : ℕ) → sound a ≡ true → ns ≤ a.cpu_left → bytes ≤ free a → sound (reserve a ns bytes) ≡ true
reserve_sound a ns bytes p h k = let s : Sound a = sound_told p in sound_shown (record { memory = omega arith; cpu = omega arith; share = s.share })

pub carved_child_sound : (a : Account) (ns bytes : ℕ) → sound a ≡ true → ns ≤ a.cpu_left → sound (fresh ns bytes a.period_start) ≡ true
carved_child_sound a ns bytes p h = let s : Sound a = sound_told p in fresh_sound ns bytes a.period_start (omega arith)

pub return_sound : (a child : Account) → sound a ≡ true → sound (return a child) ≡ true
return_sound a child p = let s : Sound a = sound_told p in sound_shown (record { memory = omega arith; cpu = omega arith; share = s.share })

-- So each call leaves sound accounts, accepted or refused.

-- the account of an accepted opening
pub open_account_kept : (cpu memory time : ℕ) → IfOk (open_account cpu memory time) (λ a. sound a ≡ true)
open_account_kept cpu memory time =
    picks (λ (r : Result Account BudgetError). IfOk r (λ a. sound a ≡ true)) (leb cpu period) _ _ (λ p. fresh_sound cpu memory time (leb-true cpu period p)) (λ _. tt)

pub refill_kept : (a : Account) (time : ℕ) → sound a ≡ true → sound (refill a time).account ≡ true
refill_kept a time p =
    rw p (renew_sound a time p)

pub spent_kept : (a : Account) (ns : ℕ) → sound a ≡ true → sound (spent a ns).account ≡ true
unfolding spent
spent_kept a ns p = picks (λ (r : Outcome (Unit {0})). sound r.account ≡ true) (leb ns a.cpu_left) _ _ (λ _. spend_sound a ns p) (λ _. p)

pub charge_cpu_kept : (a : Account) (ns time : ℕ) → sound a ≡ true → sound (charge_cpu a ns time).account ≡ true
charge_cpu_kept a ns time p = rw p (spent_kept (renew a time) ns (renew_sound a time p))

pub charge_memory_kept : (a : Account) (bytes : ℕ) → sound a ≡ true → sound (charge_memory a bytes).account ≡ true
charge_memory_kept a bytes p =
    rw p (picks (λ (r : Outcome (Unit {0})). sound r.account ≡ true) (leb bytes (free a)) _ _ (λ q. charge_sound a bytes p (leb-true bytes (free a) q)) (λ _. p))

pub release_memory_kept : (a : Account) (bytes : ℕ) → sound a ≡ true → sound (release_memory a bytes).account ≡ true
release_memory_kept a bytes p =
    rw p (picks (λ (r : Outcome (Unit {0})). sound r.account ≡ true) (leb bytes a.memory_used) _ _ (λ _. credit_sound a bytes p) (λ _. p))

-- of a carve-out, the parent and the child that it gives
pub record BothSound (r : Outcome Account) : Type 0 where
  pub parent : sound r.account ≡ true
  pub child : IfOk r.answer (λ c. sound c ≡ true)

pub carved_kept : (a : Account) (ns bytes : ℕ) → sound a ≡ true → BothSound (carved a ns bytes)
unfolding carved
carved_kept a ns bytes p =
    picks BothSound (leb ns a.cpu_left) _ _
    (λ q. picks BothSound (leb bytes (free a)) _ _
    (λ r. record { parent = reserve_sound a ns bytes p (leb-true _ _ q) (leb-true _ _ r); child = carved_child_sound a ns bytes p (leb-true _ _ q) })
    (λ _. record { parent = p; child = tt }))
    (λ _. record { parent = p; child = tt })

pub carve_out_kept : (a : Account) (ns bytes time : ℕ) → sound a ≡ true → BothSound (carve_out a ns bytes time)
carve_out_kept a ns bytes time p = rw p (carved_kept (renew a time) ns bytes (renew_sound a time p))

pub release_child_kept : (a child : Account) → sound a ≡ true → sound (release_child a child).account ≡ true
release_child_kept a child p =
    rw p (picks (λ (r : Outcome (Unit {0})). sound r.account ≡ true) (sound child) _ _
    (λ _. picks (λ (r : Outcome (Unit {0})). sound r.account ≡ true) (returnable a child) _ _ (λ _. return_sound a child p) (λ _. p))
    (λ _. p))

-- What a renewal does to the line: the reservations and the memory used stay, and CPU left becomes what is not reserved, where it is due.

pub record Renewal (a : Account) (t : ℕ) : Type 0 where
  pub cpu_allowance : (renew a t).cpu_allowance ≡ a.cpu_allowance
  pub memory_limit : (renew a t).memory_limit ≡ a.memory_limit
  pub start : (renew a t).period_start ≡ cond (due a t) (t - (t - a.period_start) % period) a.period_start
  pub left : (renew a t).cpu_left ≡ cond (due a t) (a.cpu_allowance - a.cpu_reserved) a.cpu_left
  pub cpu_reserved : (renew a t).cpu_reserved ≡ a.cpu_reserved
  pub used : (renew a t).memory_used ≡ a.memory_used
  pub memory_reserved : (renew a t).memory_reserved ≡ a.memory_reserved

pub renewal : (a : Account) (t : ℕ) → Renewal a t
unfolding renew
renewal a t = record { cpu_allowance = refl; memory_limit = refl; start = refl; left = refl; cpu_reserved = refl; used = refl; memory_reserved = refl }

-- it leaves the reservations, so what can be returned, as they are
pub returnable_renewed : (a child : Account) (t : ℕ) → returnable (renew a t) child ≡ returnable a child
unfolding returnable renew
returnable_renewed a child t = refl

-- a renewal is no more due at its own time
restarted : (a : Account) (t left reserved : ℕ) → due (with_cpu a (t - (t - a.period_start) % period) left reserved) t ≡ false
unfolding due
restarted a t left reserved =
    let h : (t - a.period_start) % period < period = mod-lt (t - a.period_start) (omega arith) in
    let start : ℕ = t - (t - a.period_start) % period in
    not_second (leb start t) (leb period (t - start)) (lt-leb period (t - start) (omega arith))

pub renewed_not_due : (a : Account) (t : ℕ) → due (renew a t) t ≡ false
renewed_not_due a t = at (due a t) refl where
  at : (b : Bool) → due a t ≡ b → due (renew a t) t ≡ false
  at false p = rw (← renew_not_due a t p) p
  at true p = rw (← renew_due a t p) (restarted a t _ _)

-- renewing twice at one time is renewing once
pub renew_twice : (a : Account) (t : ℕ) → renew (renew a t) t ≡ renew a t
renew_twice a t = sym (renew_not_due (renew a t) t (renewed_not_due a t))

-- A carve-out followed by its child's return: only the CPU time left is lower, and the next renewal that is due brings it back.

pub carve_return : (a : Account) (ns bytes start : ℕ) → return (reserve a ns bytes) (fresh ns bytes start) ≡ spend a ns
carve_return a ns bytes start = simp add-sub_cancel

spend_renew : (a : Account) (ns t : ℕ) → due a t ≡ true → renew (spend a ns) t ≡ renew a t
unfolding renew due
spend_renew a ns t p = rw p

pub carve_return_renew : (a : Account) (ns bytes start t : ℕ) → due a t ≡ true → renew (return (reserve a ns bytes) (fresh ns bytes start)) t ≡ renew a t
carve_return_renew a ns bytes start t p = ap (λ (x : Account). renew x t) (carve_return a ns bytes start) ∙ spend_renew a ns t p
