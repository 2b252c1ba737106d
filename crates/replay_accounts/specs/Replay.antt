-- What a record's call gives, and how many records say otherwise. Assumes nothing.
use Rattle.std.specs.Prelude.{◌≡◌, Bool, true, false, cond, ◌&&◌, List, ℕ, zero, suc, ◌+◌, ◌*◌, eqb, Result, Ok, Err}
use Rattle.std.specs.Result.{result_unwrap_or}
use Rattle.carv_budget.specs.declared.Account.{Account}
use Rattle.carv_budget.specs.declared.BudgetError.{BudgetError}
use Rattle.carv_budget.specs.declared.Outcome.{Outcome}
use Rattle.carv_budget.specs.Account.{number_of, blank, outcome, open_account, refill, charge_cpu, charge_memory, release_memory, carve_out, release_child}
use Rattle.replay_accounts.specs.declared.record.Call.{Call}
use Rattle.replay_accounts.specs.declared.record.Op.{Op}
use Rattle.replay_accounts.specs.declared.record.Op.TheVariants.{OpenAccount, Refill, ChargeCpu, ChargeMemory, ReleaseMemory, CarveOut, ReleaseChild}
use Rattle.replay_accounts.specs.declared.record.Reply.{Reply}
use Rattle.replay_accounts.specs.Record.{call, reply}

-- a reply's value: 1 where a renewal was due
abbrev pub renewal : Result Bool BudgetError → ℕ
renewal (Ok true) = 1
renewal (Ok false) = 0
renewal (Err e) = 0

-- an outcome as a reply, beside its value and the child that the call leaves
abbrev pub replied : {T : Type 0} → Outcome T → (value : ℕ) → Account → Reply
replied o value child = record { number = number_of o.answer; value = value; account = o.account; child = child }

-- the account that an opening or a carve-out gives: blank where it is refused
abbrev pub given : Result Account BudgetError → Account
given r = result_unwrap_or r blank

-- the child that a return leaves: none, where it is accepted
abbrev pub left : Outcome (Unit {0}) → Account → Account
left o child = cond (eqb (number_of o.answer) 0) blank child

-- The calls, by their op.

unfoldable pub opened : Call → Reply
opened c =
    let r : Result Account BudgetError = open_account c.first c.second c.time in
    replied (outcome r (given r)) 0 blank

unfoldable pub refilled : Call → Reply
refilled c = replied (refill c.account c.time) (renewal (refill c.account c.time).answer) blank

unfoldable pub cpu_charged : Call → Reply
cpu_charged c = replied (charge_cpu c.account c.first c.time) 0 blank

unfoldable pub memory_charged : Call → Reply
memory_charged c = replied (charge_memory c.account c.first) 0 blank

unfoldable pub memory_released : Call → Reply
memory_released c = replied (release_memory c.account c.first) 0 blank

unfoldable pub carved : Call → Reply
carved c =
    let o : Outcome Account = carve_out c.account c.first c.second c.time in
    replied o 0 (given o.answer)

unfoldable pub returned : Call → Reply
returned c = replied (release_child c.account c.child) 0 (left (release_child c.account c.child) c.child)

-- the reply of the call with an op
abbrev pub made : Op → Call → Reply
made OpenAccount c = opened c
made Refill c = refilled c
made ChargeCpu c = cpu_charged c
made ChargeMemory c = memory_charged c
made ReleaseMemory c = memory_released c
made CarveOut c = carved c
made ReleaseChild c = returned c

-- the tests of equality
unfoldable pub same : (a b : Account) → Bool
same a b =
    eqb a.cpu_allowance b.cpu_allowance && eqb a.memory_limit b.memory_limit && eqb a.period_start b.period_start
    && eqb a.cpu_left b.cpu_left && eqb a.cpu_reserved b.cpu_reserved && eqb a.memory_used b.memory_used
    && eqb a.memory_reserved b.memory_reserved

unfoldable pub same_reply : (a b : Reply) → Bool
same_reply a b = eqb a.number b.number && eqb a.value b.value && same a.account b.account && same a.child b.child

-- whether the call with an op gives a reply; one with an op that is not listed gives none
unfoldable pub gives : ℕ → Call → Reply → Bool
gives op c r =
    cond (eqb op 1) (same_reply (opened c) r)
    (cond (eqb op 2) (same_reply (refilled c) r)
    (cond (eqb op 3) (same_reply (cpu_charged c) r)
    (cond (eqb op 4) (same_reply (memory_charged c) r)
    (cond (eqb op 5) (same_reply (memory_released c) r)
    (cond (eqb op 6) (same_reply (carved c) r)
    (cond (eqb op 7) (same_reply (returned c) r)
    false))))))

abbrev pub agrees : Call → Reply → Bool
agrees c r = gives c.op c r

-- how many of the first n records of l differ
unfoldable pub differing : ℕ → List ℕ → ℕ
differing zero l = 0
differing (suc n) l = differing n l + cond (agrees (call l (n * 34)) (reply l (n * 34))) 0 1

-- of the first n records of l, d differ
abbrev pub Differ : List ℕ → (n d : ℕ) → Type 0
Differ l n d = d ≡ differing n l
