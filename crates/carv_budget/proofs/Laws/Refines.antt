-- The calls of document 01 answer and leave what the Rust's methods do, on every sound account: only question 1 is added. Assumes nothing.
use Rattle.std.specs.Prelude.{Bool, true, false, cond, not, ◌&&◌, ◌||◌, ◌≡◌, refl, ℕ, ◌-◌, leb, ltb, Ok, Err}
use Rattle.std.proofs.Common.{leb-true, leb-false, le-ltb, lt-ltb}
use Rattle.carv_budget.specs.declared.Account.{Account}
use Rattle.carv_budget.specs.declared.BudgetError.TheVariants.{CpuBudgetExceedsPeriod, CpuLimitReached, CpuLimitExceeded, MemoryLimitExceeded}
use Rattle.carv_budget.specs.Account.{sound, with_cpu, due, renew, spent, carved, returnable, fresh, free, spend, charge, credit, reserve, return, outcome, done, refused, open_account, refill, charge_cpu, charge_memory, release_memory, carve_out, release_child}
use Rattle.carv_budget.specs.Rust as rust
use Rattle.carv_budget.specs.Replies.{error, answer, refill_of, charge_of, outcome_of}
use Rattle.carv_budget.specs.Rust.{BudgetError, cpu_budget_exceeds_period, cpu_limit_exceeded, memory_limit_exceeded, memory_limit_reached, memory_underflow, reservation_underflow, ok, err, gives}

-- The Rust asks `n > m` where 01 asks n ≤ m, and joins refusals by "or" where 01 joins questions by "and".

over : (n m : ℕ) → ltb m n ≡ not (leb n m)
over n m = at (leb n m) refl where
  at : (b : Bool) → leb n m ≡ b → ltb m n ≡ not b
  at true p = le-ltb m n (leb-true n m p)
  at false p = lt-ltb m n (leb-false n m p)

neither : (a b : Bool) → (not a || not b) ≡ not (a && b)
neither true b = refl
neither false b = refl

-- Each method's tests as Bools.

open_by : (b : Bool) (x : Account) → cond b (Ok x) (Err CpuBudgetExceedsPeriod) ≡ answer (cond (not b) (err cpu_budget_exceeds_period) (ok x))
open_by true x = refl
open_by false x = refl

refill_by : (b c : Bool) (a : Account) (start left : ℕ)
    → cond (not b) (gives a false) (cond (not c) (gives a false) (gives (rust.set_cpu_remaining left (rust.set_period_start start a)) true))
    ≡ gives (with_cpu a (cond (b && c) start a.period_start) (cond (b && c) left a.cpu_left) a.cpu_reserved) (b && c)
refill_by true true a start left = refl
refill_by true false a start left = refl
refill_by false c a start left = refl

charge_by : (b : Bool) (a x : Account) → cond b (done x) (refused CpuLimitReached a) ≡ charge_of (cond (not b) (gives a false) (gives x true))
charge_by true a x = refl
charge_by false a x = refl

answer_by : (b : Bool) (e : BudgetError) (a x : Account) → cond b (done x) (refused (error e) a) ≡ outcome_of (cond (not b) (gives a (err e)) (gives x (ok tt)))
answer_by true e a x = refl
answer_by false e a x = refl

carve_by : (b c : Bool) (a x y : Account)
    → cond b (cond c (outcome (Ok y) x) (refused MemoryLimitExceeded a)) (refused CpuLimitExceeded a)
    ≡ outcome_of (cond (not b) (gives a (err cpu_limit_exceeded)) (cond (not c) (gives a (err memory_limit_exceeded)) (gives x (ok y))))
carve_by true true a x y = refl
carve_by true false a x y = refl
carve_by false c a x y = refl

-- `refill` leaves the renewed account and answers whether a renewal was due
pub refill_renews : (a : Account) (t : ℕ) → rust.refill a t ≡ gives (renew a t) (due a t)
unfolding rust.refill due renew
refill_renews a t = rw (over a.period_start t, over rust.cpu_period_ns (t - a.period_start)) (refill_by (leb a.period_start t) (leb rust.cpu_period_ns (t - a.period_start)) a _ _)

-- the two methods that go on from a renewed account
spent_rust : (a : Account) (ns : ℕ) → spent a ns ≡ charge_of (rust.charge_cpu_refilled a ns)
unfolding rust.charge_cpu_refilled spent
spent_rust a ns = rw (over ns a.cpu_left) (charge_by (leb ns a.cpu_left) a _)

carved_rust : (a : Account) (ns bytes : ℕ) → carved a ns bytes ≡ outcome_of (rust.carve_out_refilled a ns bytes)
unfolding rust.carve_out_refilled carved
carved_rust a ns bytes = rw (over ns a.cpu_left, over bytes (free a)) (carve_by (leb ns a.cpu_left) (leb bytes (free a)) a _ _)

-- The theorems: an opening, and each call that passes question 1, answers and leaves what the Rust's method does.

pub open_account_rust : (cpu memory time : ℕ) → open_account cpu memory time ≡ answer (rust.new cpu rust.cpu_period_ns memory time)
open_account_rust cpu memory time = rw (over cpu rust.cpu_period_ns) (open_by (leb cpu rust.cpu_period_ns) _)

pub refill_rust : (a : Account) (time : ℕ) → sound a ≡ true → refill a time ≡ refill_of (rust.refill a time)
refill_rust a time p = rw (p, refill_renews a time)

pub charge_cpu_rust : (a : Account) (ns time : ℕ) → sound a ≡ true → charge_cpu a ns time ≡ charge_of (rust.charge_cpu a ns time)
charge_cpu_rust a ns time p = rw (p, refill_renews a time) (spent_rust (renew a time) ns)

pub charge_memory_rust : (a : Account) (bytes : ℕ) → sound a ≡ true → charge_memory a bytes ≡ outcome_of (rust.charge_memory a bytes)
unfolding rust.charge_memory
charge_memory_rust a bytes p = rw (p, over bytes (free a)) (answer_by (leb bytes (free a)) memory_limit_reached a _)

pub release_memory_rust : (a : Account) (bytes : ℕ) → sound a ≡ true → release_memory a bytes ≡ outcome_of (rust.release_memory a bytes)
unfolding rust.release_memory
release_memory_rust a bytes p = rw (p, over bytes a.memory_used) (answer_by (leb bytes a.memory_used) memory_underflow a _)

pub carve_out_rust : (a : Account) (ns bytes time : ℕ) → sound a ≡ true → carve_out a ns bytes time ≡ outcome_of (rust.carve_out a ns bytes time)
carve_out_rust a ns bytes time p = rw (p, refill_renews a time) (carved_rust (renew a time) ns bytes)

pub release_child_rust : (a child : Account) → sound a ≡ true → sound child ≡ true → release_child a child ≡ outcome_of (rust.release_child true a child)
unfolding rust.release_child returnable
release_child_rust a child p q =
    rw (p, q, over child.cpu_allowance a.cpu_reserved, over child.memory_limit a.memory_reserved) (simp neither (answer_by (returnable a child) reservation_underflow a (return a child)))

-- Each method by 01's questions, and a renewal beside a memory charge: what the crates above go by.

flipped : {A : Type 0} (b : Bool) (x y : A) → cond (not b) x y ≡ cond b y x
flipped true x y = refl
flipped false x y = refl

pub charge_memory_by : (a : Account) (bytes : ℕ) → rust.charge_memory a bytes ≡ cond (leb bytes (free a)) (gives (charge a bytes) (ok tt)) (gives a (err memory_limit_reached))
unfolding rust.charge_memory
charge_memory_by a bytes = rw (over bytes (free a)) (flipped (leb bytes (free a)) _ _)

pub release_memory_by : (a : Account) (bytes : ℕ) → rust.release_memory a bytes ≡ cond (leb bytes a.memory_used) (gives (credit a bytes) (ok tt)) (gives a (err memory_underflow))
unfolding rust.release_memory
release_memory_by a bytes = rw (over bytes a.memory_used) (flipped (leb bytes a.memory_used) _ _)

pub charge_cpu_by : (a : Account) (ns time : ℕ) → rust.charge_cpu a ns time ≡ cond (leb ns (renew a time).cpu_left) (gives (spend (renew a time) ns) true) (gives (renew a time) false)
unfolding rust.charge_cpu_refilled
charge_cpu_by a ns time = rw (refill_renews a time, over ns (renew a time).cpu_left) (flipped (leb ns (renew a time).cpu_left) _ _)

pub carve_out_by : (a : Account) (ns bytes time : ℕ) → rust.carve_out a ns bytes time
    ≡ cond (leb ns (renew a time).cpu_left)
    (cond (leb bytes (free (renew a time))) (gives (reserve (renew a time) ns bytes) (ok (fresh ns bytes (renew a time).period_start)))
    (gives (renew a time) (err memory_limit_exceeded)))
    (gives (renew a time) (err cpu_limit_exceeded))
unfolding rust.carve_out_refilled
carve_out_by a ns bytes time =
    rw (refill_renews a time, over ns (renew a time).cpu_left, over bytes (free (renew a time)), flipped (leb bytes (free (renew a time))))
    (flipped (leb ns (renew a time).cpu_left) _ _)

pub release_child_by : (a child : Account) → rust.release_child true a child ≡ cond (returnable a child) (gives (return a child) (ok tt)) (gives a (err reservation_underflow))
unfolding rust.release_child returnable
release_child_by a child =
    rw (over child.cpu_allowance a.cpu_reserved, over child.memory_limit a.memory_reserved) (simp neither (flipped (returnable a child) _ _))

pub renew_charged : (a : Account) (bytes time : ℕ) → renew (charge a bytes) time ≡ charge (renew a time) bytes
unfolding renew due
renew_charged a bytes time = refl
