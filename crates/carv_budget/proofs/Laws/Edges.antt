-- Document 01's marked cases, (m), as far as one account shows them: one list, which the definitions satisfy together. Assumes nothing.
use Rattle.std.specs.Prelude.{Bool, true, ◌&&◌, List, [], ◌∷◌, ◌≡◌, refl, ℕ, eqb, Result, Ok, Err}
use Rattle.carv_budget.specs.declared.Account.{Account}
use Rattle.carv_budget.specs.declared.BudgetError.{BudgetError}
use Rattle.carv_budget.specs.declared.Outcome.{Outcome}
use Rattle.carv_budget.specs.Account.{number_of, blank, sound, due, renew, spent, carved, returnable, open_account, refill, charge_cpu, charge_memory, release_memory, carve_out, release_child}

-- an account's start and line
abbrev stands_at : Account → (start left cpu_reserved used memory_reserved : ℕ) → Bool
stands_at a start left cpu_reserved used memory_reserved =
    eqb a.period_start start && eqb a.cpu_left left && eqb a.cpu_reserved cpu_reserved && eqb a.memory_used used && eqb a.memory_reserved memory_reserved

abbrev accepted : {T : Type 0} → Result T BudgetError → Bool
accepted r = eqb (number_of r) 0

abbrev refused : {T : Type 0} → ℕ → Result T BudgetError → Bool
refused n r = eqb (number_of r) n

-- the account that a call gives
abbrev given : Result Account BudgetError → Account
given (Ok a) = a
given (Err e) = blank

-- "Opening: CPU 10,000,000, memory 1,000,000"
root : Account
root = given (open_account 10_000_000 1_000_000 0)

-- "Frame for payer 1", then the 128 bytes of a carve-out
charged : Account
charged = (charge_memory (charge_memory root 4_096).account 128).account

-- "then carve 4,000,000 ns and 8,192 bytes at time 0"
carve : Outcome Account
carve = carve_out charged 4_000_000 8_192 0

-- "Budget 3 takes two Frames"
full : Account
full = (charge_memory (charge_memory (given carve.answer) 4_096).account 4_096).account

-- 300,000 ns are left
low : Account
low = (charge_cpu root 9_700_000 0).account

-- memory 128, all of it used by the carve-out's own charge
tight : Account
tight = (charge_memory (given (open_account 10_000_000 128 0)) 128).account

pub edges : List Bool
edges =
    -- "used 4,096"
    stands_at (charge_memory root 4_096).account 0 10_000_000 0 4_096 0
    -- "root used 4,224, memory reserved 8,192, CPU left 6,000,000"
    ∷ (accepted carve.answer && stands_at carve.account 0 6_000_000 4_000_000 4_224 8_192)
    -- "carving 6,000,001 ns and no memory at 0: 12; 6,000,000: accepted"
    ∷ refused 12 (carve_out carve.account 6_000_001 0 0).answer
    ∷ accepted (carve_out carve.account 6_000_000 0 0).answer
    -- "Budget 3 takes two Frames; an Endpoint more: 12"
    ∷ stands_at full 0 4_000_000 0 8_192 0
    ∷ refused 12 (charge_memory full 128).answer
    -- "With both Frames gone: accepted, root CPU left unchanged"; meanwhile it can't be returned
    ∷ refused 15 (release_child carve.account full).answer
    ∷ (accepted (release_child carve.account (given carve.answer)).answer && stands_at (release_child carve.account (given carve.answer)).account 0 6_000_000 0 4_224 0)
    -- "Start 0: at 9,999,999 no renewal; at 25,000,000 start is 20,000,000"
    ∷ stands_at (refill low 9_999_999).account 0 300_000 0 0 0
    ∷ stands_at (refill low 25_000_000).account 20_000_000 10_000_000 0 0 0
    -- "Tick without renewal, 300,000 left: 0 left"
    ∷ (refused 12 (charge_cpu low 1_000_000 0).answer && stands_at (charge_cpu low 300_000 0).account 0 0 0 0 0)
    -- "Uncharging 4,097 of a Frame: 11; 4,096: charge 0"
    ∷ refused 11 (release_memory (charge_memory root 4_096).account 4_097).answer
    ∷ stands_at (release_memory (charge_memory root 4_096).account 4_096).account 0 10_000_000 0 0 0
    -- "Memory 128, carve 0 and 1: 12, renewed if due"
    ∷ (refused 12 (carve_out tight 0 1 25_000_000).answer && stands_at (carve_out tight 0 1 25_000_000).account 20_000_000 10_000_000 0 128 0)
    ∷ []

pub all_true : List Bool → Bool
all_true [] = true
all_true (b ∷ bs) = b && all_true bs

pub edges_hold : all_true edges ≡ true
unfolding root charged carve full low tight edges all_true sound due renew spent carved returnable
edges_hold = refl
