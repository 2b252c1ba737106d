-- carv-budget/src/lib.rs: `Budget` and its methods, statement by statement, over the account's figures. Of document 01's side only the record is used.
-- A method with `&mut self` leaves the account beside its result. `saturating_sub` is ℕ's `-`. Identities stay out, so `release_child` is told whether the
-- child is its own. Assumes nothing.
use Rattle.std.specs.Prelude.{Bool, true, false, cond, not, ◌||◌, ℕ, ◌+◌, ◌-◌, ◌%◌, ltb, eqb}
use Rattle.carv_budget.specs.declared.Account.{Account}

-- `BudgetError`
pub data BudgetError : Type 0 where
  zero_period : BudgetError
  cpu_budget_exceeds_period : BudgetError
  cpu_limit_exceeded : BudgetError
  memory_limit_exceeded : BudgetError
  memory_limit_reached : BudgetError
  memory_underflow : BudgetError
  reservation_underflow : BudgetError

-- `Result<A, BudgetError>`
pub data Result (A : Type 0) : Type 0 where
  ok : A → Result A
  err : BudgetError → Result A

-- what a method leaves and returns
pub record Call (A : Type 0) : Type 0 where
  pub self : Account
  pub result : A

abbrev pub gives : {A : Type 0} → Account → A → Call A
gives self result = record { self = self; result = result }

-- `self.limits.cpu_period_ns`, for which an account has no field. Each budget has the same: `Budget::new` is called by `ObjectRegistry::new` alone
-- (kernel/src/objects.rs), which passes `CPU_PERIOD_NS`, 10_000_000, and `carve_out` hands its own on.
abbrev pub cpu_period_ns : ℕ
cpu_period_ns = 10_000_000

-- The assignments to a field, each by the field's name in the Rust; the other fields stay. Never assigned: `limits.cpu_budget_ns`, here «cpu_allowance», and
-- `limits.memory_bytes`, here «memory_limit».

-- `self.period_start_ns = ..`
abbrev pub set_period_start : ℕ → Account → Account
set_period_start n self =
    record { cpu_allowance = self.cpu_allowance; memory_limit = self.memory_limit; period_start = n; cpu_left = self.cpu_left; cpu_reserved = self.cpu_reserved; memory_used = self.memory_used; memory_reserved = self.memory_reserved }

-- `self.cpu_remaining_ns = ..`
abbrev pub set_cpu_remaining : ℕ → Account → Account
set_cpu_remaining n self =
    record { cpu_allowance = self.cpu_allowance; memory_limit = self.memory_limit; period_start = self.period_start; cpu_left = n; cpu_reserved = self.cpu_reserved; memory_used = self.memory_used; memory_reserved = self.memory_reserved }

-- `self.child_cpu_reserved_ns = ..`
abbrev pub set_child_cpu_reserved : ℕ → Account → Account
set_child_cpu_reserved n self =
    record { cpu_allowance = self.cpu_allowance; memory_limit = self.memory_limit; period_start = self.period_start; cpu_left = self.cpu_left; cpu_reserved = n; memory_used = self.memory_used; memory_reserved = self.memory_reserved }

-- `self.memory_used_bytes = ..`
abbrev pub set_memory_used : ℕ → Account → Account
set_memory_used n self =
    record { cpu_allowance = self.cpu_allowance; memory_limit = self.memory_limit; period_start = self.period_start; cpu_left = self.cpu_left; cpu_reserved = self.cpu_reserved; memory_used = n; memory_reserved = self.memory_reserved }

-- `self.child_memory_reserved_bytes = ..`
abbrev pub set_child_memory_reserved : ℕ → Account → Account
set_child_memory_reserved n self =
    record { cpu_allowance = self.cpu_allowance; memory_limit = self.memory_limit; period_start = self.period_start; cpu_left = self.cpu_left; cpu_reserved = self.cpu_reserved; memory_used = self.memory_used; memory_reserved = n }

-- the `Self { .. }` at the end of `Budget::new` and of `carve_out`: the whole allowance is left, nothing is used or reserved
abbrev pub made : (cpu_budget memory period_start : ℕ) → Account
made cpu_budget memory period_start =
    record { cpu_allowance = cpu_budget; memory_limit = memory; period_start = period_start; cpu_left = cpu_budget; cpu_reserved = 0; memory_used = 0; memory_reserved = 0 }

-- `Budget::new`
abbrev pub new : (cpu_budget cpu_period memory now : ℕ) → Result Account
new cpu_budget cpu_period memory now =
    cond (eqb cpu_period 0) (err zero_period)
    (cond (ltb cpu_period cpu_budget) (err cpu_budget_exceeds_period)
    (ok (made cpu_budget memory now)))

-- `Budget::refill`
unfoldable pub refill : Account → (now : ℕ) → Call Bool
refill self now =
    cond (ltb now self.period_start) (gives self false)
    (let elapsed : ℕ = now - self.period_start in
    cond (ltb elapsed cpu_period_ns) (gives self false)
    (gives (set_cpu_remaining (self.cpu_allowance - self.cpu_reserved) (set_period_start (now - elapsed % cpu_period_ns) self)) true))

-- the last lines of `Budget::charge_cpu`, after its `refill`
unfoldable pub charge_cpu_refilled : Account → (amount : ℕ) → Call Bool
charge_cpu_refilled self amount =
    cond (ltb self.cpu_left amount) (gives self false)
    (gives (set_cpu_remaining (self.cpu_left - amount) self) true)

-- `Budget::charge_cpu`
abbrev pub charge_cpu : Account → (amount now : ℕ) → Call Bool
charge_cpu self amount now = charge_cpu_refilled (refill self now).self amount

-- `available`, as `charge_memory` and `carve_out` compute it
abbrev pub available : Account → ℕ
available self = self.memory_limit - self.memory_reserved - self.memory_used

-- `Budget::charge_memory`
unfoldable pub charge_memory : Account → (amount : ℕ) → Call (Result (Unit {0}))
charge_memory self amount =
    cond (ltb (available self) amount) (gives self (err memory_limit_reached))
    (gives (set_memory_used (self.memory_used + amount) self) (ok tt))

-- `Budget::release_memory`
unfoldable pub release_memory : Account → (amount : ℕ) → Call (Result (Unit {0}))
release_memory self amount =
    cond (ltb self.memory_used amount) (gives self (err memory_underflow))
    (gives (set_memory_used (self.memory_used - amount) self) (ok tt))

-- `Budget::release_child`; `own`: `child.parent_id == Some(self.id)`. On an error the child comes back as it was
unfoldable pub release_child : (own : Bool) (self child : Account) → Call (Result (Unit {0}))
release_child own self child =
    cond
    (not own || not (eqb child.cpu_reserved 0) || not (eqb child.memory_reserved 0) || not (eqb child.memory_used 0)
    || ltb self.cpu_reserved child.cpu_allowance || ltb self.memory_reserved child.memory_limit)
    (gives self (err reservation_underflow))
    (gives
    (set_child_memory_reserved (self.memory_reserved - child.memory_limit) (set_child_cpu_reserved (self.cpu_reserved - child.cpu_allowance) self))
    (ok tt))

-- the lines of `Budget::carve_out` after its `refill`
unfoldable pub carve_out_refilled : Account → (cpu_budget memory : ℕ) → Call (Result Account)
carve_out_refilled self cpu_budget memory =
    cond (ltb self.cpu_left cpu_budget) (gives self (err cpu_limit_exceeded))
    (cond (ltb (available self) memory) (gives self (err memory_limit_exceeded))
    (gives
    (set_child_memory_reserved (self.memory_reserved + memory)
    (set_child_cpu_reserved (self.cpu_reserved + cpu_budget) (set_cpu_remaining (self.cpu_left - cpu_budget) self)))
    (ok (made cpu_budget memory self.period_start))))

-- `Budget::carve_out`
abbrev pub carve_out : Account → (cpu_budget memory now : ℕ) → Call (Result Account)
carve_out self cpu_budget memory now = carve_out_refilled (refill self now).self cpu_budget memory
