-- Document 01's budget account: its rules, and its calls with the questions that they ask. Assumes nothing.
use Rattle.std.specs.Prelude.{◌≡◌, Bool, cond, ◌&&◌, ℕ, ◌+◌, ◌-◌, ◌%◌, leb, eqb, List, [], ◌∷◌, Result, Ok, Err}
use Rattle.carv_budget.specs.declared.Account.{Account}
use Rattle.carv_budget.specs.declared.BudgetError.{BudgetError}
use Rattle.carv_budget.specs.declared.BudgetError.TheVariants.{Unsound, CpuBudgetExceedsPeriod, MemoryUnderflow, CpuLimitReached, MemoryLimitReached, CpuLimitExceeded, MemoryLimitExceeded, ReservationUnderflow}
use Rattle.carv_budget.specs.declared.Outcome.{Outcome}

-- 01's number of each error
abbrev pub number : BudgetError → ℕ
number Unsound = 1
number CpuBudgetExceedsPeriod = 2
number MemoryUnderflow = 11
number CpuLimitReached = 12
number MemoryLimitReached = 12
number CpuLimitExceeded = 12
number MemoryLimitExceeded = 12
number ReservationUnderflow = 15

-- 01's number of an answer, 0 where the call is accepted
abbrev pub number_of : {T : Type 0} → Result T BudgetError → ℕ
number_of (Ok _) = 0
number_of (Err e) = number e

-- "period (always 10,000,000 ns)"
abbrev pub period : ℕ
period = 10_000_000

-- question 1, "called alone": "used + reserved ≤ limit and CPU left + CPU reserved ≤ allowance ≤ period"
unfoldable pub sound : Account → Bool
sound a =
    leb (a.memory_used + a.memory_reserved) a.memory_limit && leb (a.cpu_left + a.cpu_reserved) a.cpu_allowance
    && leb a.cpu_allowance period

-- "an opening or a carve-out counts as the new account's first renewal, with nothing reserved": its whole allowance is left
abbrev pub fresh : (allowance limit start : ℕ) → Account
fresh allowance limit start =
    record { cpu_allowance = allowance; memory_limit = limit; period_start = start; cpu_left = allowance; cpu_reserved = 0; memory_used = 0; memory_reserved = 0 }

-- what stands where there is no account
abbrev pub blank : Account
blank = fresh 0 0 0

-- the words of an account
abbrev pub figures : Account → List ℕ
figures a =
    a.cpu_allowance ∷ a.memory_limit ∷ a.period_start ∷ a.cpu_left ∷ a.cpu_reserved ∷ a.memory_used ∷ a.memory_reserved ∷ []

-- an account with other CPU figures, its memory figures as they were
abbrev pub with_cpu : Account → (start left reserved : ℕ) → Account
with_cpu a start left reserved =
    record { cpu_allowance = a.cpu_allowance; memory_limit = a.memory_limit; period_start = start; cpu_left = left; cpu_reserved = reserved; memory_used = a.memory_used; memory_reserved = a.memory_reserved }

-- an account with other memory figures, its CPU figures as they were
abbrev pub with_memory : Account → (used reserved : ℕ) → Account
with_memory a used reserved =
    record { cpu_allowance = a.cpu_allowance; memory_limit = a.memory_limit; period_start = a.period_start; cpu_left = a.cpu_left; cpu_reserved = a.cpu_reserved; memory_used = used; memory_reserved = reserved }

-- not "t < start or t − start < period"
unfoldable pub due : Account → ℕ → Bool
due a t = leb a.period_start t && leb period (t - a.period_start)

-- "renewal at time t": where due, "start becomes t − ((t − start) mod period), and CPU left becomes allowance − CPU reserved"
unfoldable pub renew : Account → ℕ → Account
renew a t =
    with_cpu a (cond (due a t) (t - (t - a.period_start) % period) a.period_start) (cond (due a t) (a.cpu_allowance - a.cpu_reserved) a.cpu_left)
    a.cpu_reserved

-- "free memory is limit − reserved − used"
abbrev pub free : Account → ℕ
free a = a.memory_limit - a.memory_reserved - a.memory_used

-- CPU time taken from what is left
abbrev pub spend : Account → ℕ → Account
spend a ns = with_cpu a a.period_start (a.cpu_left - ns) a.cpu_reserved

-- memory charged
abbrev pub charge : Account → ℕ → Account
charge a bytes = with_memory a (a.memory_used + bytes) a.memory_reserved

-- memory credited
abbrev pub credit : Account → ℕ → Account
credit a bytes = with_memory a (a.memory_used - bytes) a.memory_reserved

-- "it lowers CPU left and raises both reservations"
abbrev pub reserve : Account → (ns bytes : ℕ) → Account
reserve a ns bytes = with_memory (with_cpu a a.period_start (a.cpu_left - ns) (a.cpu_reserved + ns)) a.memory_used (a.memory_reserved + bytes)

-- "returning a child lowers both reservations. The parent's CPU left does not move until its next renewal"
abbrev pub return : (a child : Account) → Account
return a child =
    with_memory (with_cpu a a.period_start a.cpu_left (a.cpu_reserved - child.cpu_allowance)) a.memory_used
    (a.memory_reserved - child.memory_limit)

-- question 15: not "a child with use or reservations, or with limits above the parent's reservations"
unfoldable pub returnable : (a child : Account) → Bool
returnable a child =
    eqb child.cpu_reserved 0 && eqb child.memory_reserved 0 && eqb child.memory_used 0
    && leb child.cpu_allowance a.cpu_reserved && leb child.memory_limit a.memory_reserved

abbrev pub outcome : {T : Type 0} → Result T BudgetError → Account → Outcome T
outcome answer a = record { account = a; answer = answer }

-- an accepted call that gives nothing but the account, and a refused one
abbrev pub done : Account → Outcome (Unit {0})
done a = outcome (Ok tt) a

abbrev pub refused : {T : Type 0} → BudgetError → Account → Outcome T
refused e a = outcome (Err e) a

-- The calls, each the first question missed or the step.

-- opening an account: question 2
abbrev pub open_account : (allowance limit now : ℕ) → Result Account BudgetError
open_account allowance limit now =
    cond (leb allowance period) (Ok (fresh allowance limit now))
    (Err CpuBudgetExceedsPeriod)

-- a renewal: question 1. It answers whether one was due
abbrev pub refill : Account → ℕ → Outcome Bool
refill a now =
    cond (sound a) (outcome (Ok (due a now)) (renew a now))
    (refused Unsound a)

-- the CPU charge of a renewed account: question 12
unfoldable pub spent : Account → ℕ → Outcome (Unit {0})
spent a ns =
    cond (leb ns a.cpu_left) (done (spend a ns))
    (refused CpuLimitReached a)

-- a CPU charge: question 1, the renewal, question 12
abbrev pub charge_cpu : Account → (ns now : ℕ) → Outcome (Unit {0})
charge_cpu a ns now =
    cond (sound a) (spent (renew a now) ns)
    (refused Unsound a)

-- a memory charge: questions 1 and 12
abbrev pub charge_memory : Account → ℕ → Outcome (Unit {0})
charge_memory a bytes =
    cond (sound a)
    (cond (leb bytes (free a)) (done (charge a bytes))
    (refused MemoryLimitReached a))
    (refused Unsound a)

-- a release of memory: questions 1 and 11
abbrev pub release_memory : Account → ℕ → Outcome (Unit {0})
release_memory a bytes =
    cond (sound a)
    (cond (leb bytes a.memory_used) (done (credit a bytes))
    (refused MemoryUnderflow a))
    (refused Unsound a)

-- the carve-out from a renewed account: question 12, "CPU with CPU left, then memory with free memory". "The child has the parent's start". The account
-- left is the parent, and the child is answered
unfoldable pub carved : Account → (ns bytes : ℕ) → Outcome Account
carved a ns bytes =
    cond (leb ns a.cpu_left)
    (cond (leb bytes (free a)) (outcome (Ok (fresh ns bytes a.period_start)) (reserve a ns bytes))
    (refused MemoryLimitExceeded a))
    (refused CpuLimitExceeded a)

-- a carve-out: question 1, the renewal, question 12
abbrev pub carve_out : Account → (ns bytes now : ℕ) → Outcome Account
carve_out a ns bytes now =
    cond (sound a) (carved (renew a now) ns bytes)
    (refused Unsound a)

-- the return of a child: question 1 of both accounts, and question 15
abbrev pub release_child : (a child : Account) → Outcome (Unit {0})
release_child a child =
    cond (sound a)
    (cond (sound child)
    (cond (returnable a child) (done (return a child))
    (refused ReservationUnderflow a))
    (refused Unsound a))
    (refused Unsound a)

-- "renewing and charging one account also exist on an account lent for change": at the end it holds the account of the by-value call, whose answer is returned
abbrev pub Lent : {T : Type 0} → Outcome T → (exit : Account) → Result T BudgetError → Type 0
Lent r exit answer = (exit ≡ r.account) × (answer ≡ r.answer)
