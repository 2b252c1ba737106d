-- No sum that is stored passes 64 bits. The check finds these where a sum is made; they stand for readers. Assumes nothing.
use Rattle.std.specs.Prelude.{◌≡◌, true, ℕ, ◌+◌, ◌-◌, ◌≤◌}
use Rattle.std.proofs.Common.{arith}
use mir.Syntax.{w64}
use mir.Val.{Fits}
use Rattle.carv_budget.specs.declared.Account.{Account}
use Rattle.carv_budget.specs.Account.{sound}
use Rattle.carv_budget.proofs.Laws.Account.{Sound, sound_told}

-- what is carved out is added to what is reserved
pub reserve_fits : (a : Account) (n : ℕ) → sound a ≡ true → n ≤ a.cpu_left → Fits w64 (a.cpu_reserved + n)
reserve_fits a n p q = let s : Sound a = sound_told p in record { fits = omega arith }

pub memory_reserve_fits : (a : Account) (n : ℕ) → sound a ≡ true → n ≤ a.memory_limit - a.memory_reserved - a.memory_used → Fits w64 a.memory_limit → Fits w64 (a.memory_reserved + n)
memory_reserve_fits a n p q f = let s : Sound a = sound_told p in record { fits = omega arith }

-- what is charged is added to what is used
pub use_fits : (a : Account) (n : ℕ) → sound a ≡ true → n ≤ a.memory_limit - a.memory_reserved - a.memory_used → Fits w64 a.memory_limit → Fits w64 (a.memory_used + n)
use_fits a n p q f = let s : Sound a = sound_told p in record { fits = omega arith }
