-- The number of each op, and reading it. Assumes nothing.
use Rattle.std.specs.Prelude.{◌≡◌, ℕ, ◌<◌, ◌⊎◌, Result, MatchResult}
use Rattle.replay_accounts.specs.declared.record.Op.{Op}
use Rattle.replay_accounts.specs.declared.record.Op.TheVariants.{OpenAccount, Refill, ChargeCpu, ChargeMemory, ReleaseMemory, CarveOut, ReleaseChild}
use Rattle.replay_records.specs.declared.UnlistedOp.{UnlistedOp}

-- word 0 of a record
abbrev pub op_number : Op → ℕ
op_number OpenAccount = 1
op_number Refill = 2
op_number ChargeCpu = 3
op_number ChargeMemory = 4
op_number ReleaseMemory = 5
op_number CarveOut = 6
op_number ReleaseChild = 7

-- the op with this number, or the number, which is no op's
abbrev pub Decodes : ℕ → Result Op UnlistedOp → Type 0
Decodes n r = MatchResult r (λ op. op_number op ≡ n) (λ e. (e.0 ≡ n) × ((n ≡ 0) ⊎ (7 < n)))
