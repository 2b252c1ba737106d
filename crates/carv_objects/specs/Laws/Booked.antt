-- What the operations of carv_budget's accounts give on sound accounts, in the words of the registry's calls. Assumes nothing.
use Rattle.std.specs.Prelude.{◌≡◌, Bool, true, false, ◌&&◌, ℕ, leb, Option, Some, None}
use Rattle.carv_budget.specs.declared.Account.{Account}
use Rattle.carv_budget.specs.Account as account

-- booked as x where the test b holds, and refused where it does not
abbrev pub Books : Bool → Account → Option Account → Type 0
Books b x (Some y) = (b ≡ true) × (y ≡ x)
Books b x None = b ≡ false

-- both tests of a carve-out hold, and the parent and the child are these, or one does not
abbrev pub Carves : Account → (cpu memory time : ℕ) → Option (Account × Account) → Type 0
Carves a cpu memory time (Some p) =
    (leb cpu (account.renew a time).cpu_left ≡ true) × (leb memory (account.free (account.renew a time)) ≡ true)
    × (p.0 ≡ account.reserve (account.renew a time) cpu memory) × (p.1 ≡ account.fresh cpu memory (account.renew a time).period_start)
Carves a cpu memory time None = (leb cpu (account.renew a time).cpu_left && leb memory (account.free (account.renew a time))) ≡ false
