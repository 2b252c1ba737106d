-- Lists of operations keep accounts sound: every operation leaves sound accounts, on whatever sound ones. Assumes nothing.
use Rattle.std.specs.Prelude.{◌≡◌, true, List, [], ◌∷◌, ℕ, zero, suc, set, Result, Ok, Err, IfOk, Option, Some, None}
use Rattle.carv_budget.specs.declared.Account.{Account}
use Rattle.carv_budget.specs.declared.BudgetError.{BudgetError}
use Rattle.carv_budget.specs.declared.Outcome.{Outcome}
use Rattle.carv_budget.specs.Account as account
use Rattle.carv_budget.specs.Account.{sound}
use Rattle.carv_budget.specs.Runs.{Operation, open_account, refill, charge_cpu, charge_memory, release_memory, carve_out, release_child, Places, at, put, take, add, Answer, plain, renewal, opened, changed, carved, carved_from, returned, returned_to, run, after, AllSound}
use Rattle.carv_budget.proofs.Laws.Account as laws

-- Place by place.

abbrev pub SoundAt : Option Account → Type 0
SoundAt None = Unit {0}
SoundAt (Some a) = sound a ≡ true

pub at_sound : (t : Places Account) (i : ℕ) → AllSound t → SoundAt (at t i)
at_sound [] i s = tt
at_sound (None ∷ t) zero s = tt
at_sound (Some a ∷ t) zero s = s.0
at_sound (None ∷ t) (suc i) s = at_sound t i s
at_sound (Some a ∷ t) (suc i) s = at_sound t i s.1

set_sound : (t : Places Account) (i : ℕ) (x : Option Account) → AllSound t → SoundAt x → AllSound (set t i x)
set_sound [] i x s p = s
set_sound (None ∷ t) zero None s p = s
set_sound (None ∷ t) zero (Some b) s p = (p, s)
set_sound (Some a ∷ t) zero None s p = s.1
set_sound (Some a ∷ t) zero (Some b) s p = (p, s.1)
set_sound (None ∷ t) (suc i) x s p = set_sound t i x s p
set_sound (Some a ∷ t) (suc i) x s p = (s.0, set_sound t i x s.1 p)

add_sound : (t : Places Account) (a : Account) → AllSound t → sound a ≡ true → AllSound (add a t)
add_sound [] a s p = (p, tt)
add_sound (None ∷ t) a s p = add_sound t a s p
add_sound (Some b ∷ t) a s p = (s.0, add_sound t a s.1 p)

-- Every operation leaves sound accounts, on whatever sound ones.

opened_kept : (r : Result Account BudgetError) (t : Places Account) → IfOk r (λ a. sound a ≡ true) → AllSound t → AllSound (opened r t).after
opened_kept (Ok a) t p s = add_sound t a s p
opened_kept (Err e) t p s = s

changed_kept : {T : Type 0} (say : T → Answer) (i : ℕ) (f : Account → Outcome T) → ((a : Account) → sound a ≡ true → sound (f a).account ≡ true)
    → (x : Option Account) (t : Places Account) → SoundAt x → AllSound t → AllSound (changed say i f x t).after
changed_kept say i f h None t p s = s
changed_kept say i f h (Some a) t p s = set_sound t i (Some (f a).account) s (h a p)

carve_kept : (i : ℕ) (parent : Account) (r : Result Account BudgetError) (t : Places Account) → sound parent ≡ true → IfOk r (λ c. sound c ≡ true) → AllSound t
    → AllSound (carved i parent r t).after
carve_kept i parent (Ok child) t p q s = add_sound (put i parent t) child (set_sound t i (Some parent) s p) q
carve_kept i parent (Err e) t p q s = set_sound t i (Some parent) s p

carved_kept : (i cpu memory time : ℕ) (x : Option Account) (t : Places Account) → SoundAt x → AllSound t → AllSound (carved_from i cpu memory time x t).after
carved_kept i cpu memory time None t p s = s
carved_kept i cpu memory time (Some a) t p s =
    let r : Outcome Account = account.carve_out a cpu memory time in
    let k : laws.BothSound r = laws.carve_out_kept a cpu memory time p in
    carve_kept i r.account r.answer t k.parent k.child s

return_kept : (i child : ℕ) (parent : Account) (r : Result (Unit {0}) BudgetError) (t : Places Account) → sound parent ≡ true → AllSound t
    → AllSound (returned i child parent r t).after
return_kept i child parent (Ok u) t p s = set_sound (take child t) i (Some parent) (set_sound t child None s tt) p
return_kept i child parent (Err e) t p s = set_sound t i (Some parent) s p

returned_kept : (i child : ℕ) (x y : Option Account) (t : Places Account) → SoundAt x → AllSound t → AllSound (returned_to i child x y t).after
returned_kept i child None y t p s = s
returned_kept i child (Some a) None t p s = s
returned_kept i child (Some a) (Some c) t p s =
    let r : Outcome (Unit {0}) = account.release_child a c in
    return_kept i child r.account r.answer t (laws.release_child_kept a c p) s

pub run_kept : (o : Operation) (t : Places Account) → AllSound t → AllSound (run o t).after
run_kept (open_account cpu memory time) t s = opened_kept (account.open_account cpu memory time) t (laws.open_account_kept cpu memory time) s
run_kept (refill i time) t s = changed_kept renewal i (λ a. account.refill a time) (λ a. laws.refill_kept a time) (at t i) t (at_sound t i s) s
run_kept (charge_cpu i ns time) t s = changed_kept plain i (λ a. account.charge_cpu a ns time) (λ a. laws.charge_cpu_kept a ns time) (at t i) t (at_sound t i s) s
run_kept (charge_memory i bytes) t s = changed_kept plain i (λ a. account.charge_memory a bytes) (λ a. laws.charge_memory_kept a bytes) (at t i) t (at_sound t i s) s
run_kept (release_memory i bytes) t s = changed_kept plain i (λ a. account.release_memory a bytes) (λ a. laws.release_memory_kept a bytes) (at t i) t (at_sound t i s) s
run_kept (carve_out i cpu memory time) t s = carved_kept i cpu memory time (at t i) t (at_sound t i s) s
run_kept (release_child i child) t s = returned_kept i child (at t i) (at t child) t (at_sound t i s) s

pub kept : (os : List Operation) (t : Places Account) → AllSound t → AllSound (after os t)
kept [] t s = s
kept (o ∷ os) t s = kept os (run o t).after (run_kept o t s)
