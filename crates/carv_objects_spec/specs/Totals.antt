-- P1's reading: "one line for a budget with everything carved from it, at any depth: memory used, memory free, CPU left". Assumes nothing.
use Rattle.std.specs.Prelude.{cond, ◌&&◌, ℕ, Some}
use Rattle.carv_area.specs.Table.{total}
use Rattle.carv_budget.specs.declared.Account.{Account}
use Rattle.carv_budget.specs.Account as account
use Rattle.carv_objects_spec.specs.declared.Totals.{Totals}
use Rattle.carv_objects_spec.specs.Refused as refused
use Rattle.carv_objects_spec.specs.Reply.{finish, ask, ◌>>◌, on, of_totals}
use Rattle.carv_objects_spec.specs.Kinds.{is_budget_kind}
use Rattle.carv_objects_spec.specs.Registry.{Registry, RegistryReply, is_budget}
use Rattle.carv_objects_spec.specs.Within.{within}

-- a figure of the accounts, summed over the budget b and all live budgets below it
abbrev pub over : (Account → ℕ) → Registry → (b : ℕ) → ℕ
over f r b = total (λ i e. cond (is_budget_kind e.kind && within r b i) (f e.account) 0) r.rows

-- the same over all live budgets
abbrev pub over_all : (Account → ℕ) → Registry → ℕ
over_all f r = total (λ i e. cond (is_budget_kind e.kind) (f e.account) 0) r.rows

-- the three figures. Memory free is "limit less used less reserved"; CPU left is as it stands in the accounts
abbrev pub used : Account → ℕ
used a = a.memory_used

abbrev pub free : Account → ℕ
free a = account.free a

abbrev pub left : Account → ℕ
left a = a.cpu_left

abbrev pub totals : Registry → (b : ℕ) → Totals
totals r b = record { memory_used = over used r b; memory_free = over free r b; cpu_left = over left r b }

-- Question 7: is "the account to be read .. a budget"? Nothing is changed, and nothing renewed.
abbrev pub read_totals : (i : ℕ) → Registry → RegistryReply
read_totals i r = on r do
  ask refused.missing (is_budget r i)
  finish (Some (of_totals (totals r i))) r
