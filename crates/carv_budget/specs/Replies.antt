-- The Rust's results in document 01's words: what each method of Rust.antt answers and leaves, as the outcome that the port hands back. Assumes nothing.
use Rattle.std.specs.Prelude.{Bool, true, false, Result, Ok, Err}
use Rattle.carv_budget.specs.declared.BudgetError.{BudgetError}
use Rattle.carv_budget.specs.declared.BudgetError.TheVariants.{CpuBudgetExceedsPeriod, MemoryUnderflow, CpuLimitReached, MemoryLimitReached, CpuLimitExceeded, MemoryLimitExceeded, ReservationUnderflow}
use Rattle.carv_budget.specs.declared.Outcome.{Outcome}
use Rattle.carv_budget.specs.Rust as rust
use Rattle.carv_budget.specs.Rust.{zero_period, cpu_budget_exceeds_period, cpu_limit_exceeded, memory_limit_exceeded, memory_limit_reached, memory_underflow, reservation_underflow, ok, err, Call}

-- The Rust's answers in the port's words. `ZeroPeriod` can't come, as the period is a constant, so what `error zero_period` says is free.

abbrev pub error : rust.BudgetError → BudgetError
error zero_period = CpuBudgetExceedsPeriod
error cpu_budget_exceeds_period = CpuBudgetExceedsPeriod
error cpu_limit_exceeded = CpuLimitExceeded
error memory_limit_exceeded = MemoryLimitExceeded
error memory_limit_reached = MemoryLimitReached
error memory_underflow = MemoryUnderflow
error reservation_underflow = ReservationUnderflow

-- what a result holds, or its error
abbrev pub answer : {A : Type 0} → rust.Result A → Result A BudgetError
answer (ok a) = Ok a
answer (err e) = Err (error e)

-- `charge_cpu` answers whether the time was left
abbrev pub charged : Bool → Result (Unit {0}) BudgetError
charged true = Ok tt
charged false = Err CpuLimitReached

abbrev pub refill_of : Call Bool → Outcome Bool
refill_of r = record { account = r.self; answer = Ok r.result }

abbrev pub charge_of : Call Bool → Outcome (Unit {0})
charge_of r = record { account = r.self; answer = charged r.result }

abbrev pub outcome_of : {A : Type 0} → Call (rust.Result A) → Outcome A
outcome_of r = record { account = r.self; answer = answer r.result }
