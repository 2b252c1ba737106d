-- P12, "Number 15 can go": "from every sound state a removal that reaches question 15 passes it, and .. its payer is live". `Registry.remove` asks it no more. Here are 01's
-- question 15 and the removal that asks it, written out again, for laws/Question15.antt, which shows that on a sound registry the two removals are one. Assumes nothing.
use Rattle.std.specs.Prelude.{◌≡◌, Bool, true, not, ◌&&◌, ◌||◌, ℕ, ◌≤◌, eqb, None}
use Rattle.carv_budget.specs.Account as account
use Rattle.carv_objects_spec.specs.Refused as refused
use Rattle.carv_objects_spec.specs.Reply.{finish, ask, ◌>>◌, on}
use Rattle.carv_objects_spec.specs.Registry.{Registry, RegistryReply, entry, has, is_budget, account_of, payer_of, pays_for, budget, drop, renew_if}

-- a removal of i reaches question 15: it passes 7, 9 and 10
abbrev pub reaches_15 : (i : ℕ) → Registry → Bool
reaches_15 i r = has r i && not (eqb i 1) && not (is_budget r i && pays_for r i)

-- "15. Can the removed child's reservation be returned?": the account's own question, of the payer and a removed budget
abbrev pub passes_15 : (i : ℕ) → Registry → Bool
passes_15 i r = not (is_budget r i) || account.returnable (account_of r (payer_of r i)) (account_of r i)

-- the removal before P12: 01's, with all four questions, and P2's renewal
abbrev pub remove_asking_15 : (i time : ℕ) → Registry → RegistryReply
remove_asking_15 i time r = on r do
  ask refused.missing (has r i)
  ask refused.root (not (eqb i 1))
  ask refused.pays (not (is_budget r i && pays_for r i))
  ask 15 (passes_15 i r)
  finish None (budget (payer_of r i) (λ a. account.credit (account.return (renew_if (is_budget r i) time a) (account_of r i)) (entry r i).charge) (drop i r))

-- what a removal of i finds that reaches question 15: its payer is a live budget other than i, and the question is passed
pub record Passed (i : ℕ) (r : Registry) : Type 0 where
  pub payer_live : has r (payer_of r i) ≡ true
  pub payer_budget : is_budget r (payer_of r i) ≡ true
  pub payer_other : payer_of r i ≡ i → ⊥
  pub passed : passes_15 i r ≡ true
  -- part by part, of a budget: no "use or reservations", no "limits above the parent's reservations"
  pub no_use : is_budget r i ≡ true → (account_of r i).memory_used ≡ 0
  pub no_memory_reserved : is_budget r i ≡ true → (account_of r i).memory_reserved ≡ 0
  pub no_cpu_reserved : is_budget r i ≡ true → (account_of r i).cpu_reserved ≡ 0
  pub memory_within : is_budget r i ≡ true → (account_of r i).memory_limit ≤ (account_of r (payer_of r i)).memory_reserved
  pub cpu_within : is_budget r i ≡ true → (account_of r i).cpu_allowance ≤ (account_of r (payer_of r i)).cpu_reserved
