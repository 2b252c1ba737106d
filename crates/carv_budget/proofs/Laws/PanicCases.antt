-- What can panic, written out: what it takes to pass each check, at its limit, and the whole list of checks of each method on an account with small figures, where
-- the method goes through and where it stops. Assumes nothing.
use Rattle.std.specs.Prelude.{◌≡◌, refl, true, false, [], ◌∷◌}
use Rattle.std.proofs.lemmas.Bool.{false≢true}
use Rattle.std.proofs.Common.{arith}
use Rattle.carv_budget.specs.Rust as rust
use Rattle.carv_budget.specs.Panics.{sum, product, difference, remainder, expect, Passes, AllPass, next_budget_id, new, refill, charge_cpu, charge_memory, release_memory, release_child, carve_out}
use Rattle.carv_budget.proofs.Laws.Limits.{account, some_account}

pub record PanicCases : Type 0 where
  -- a `u64` ends at 2^64 − 1: `a + b`, and `a * b`, here (2^32 − 1) (2^32 + 1) and 2^32 times itself
  pub sums : Passes (sum 18_446_744_073_709_551_614 1) × (Passes (sum 18_446_744_073_709_551_615 1) → ⊥)
  pub products : Passes (product 4_294_967_295 4_294_967_297) × (Passes (product 4_294_967_296 4_294_967_296) → ⊥)
  -- `a - b` isn't below 0, `a % b` not by 0, and an `expect` finds something
  pub differences : Passes (difference 5 5) × (Passes (difference 5 6) → ⊥)
  pub remainders : Passes (remainder 5 1) × (Passes (remainder 5 0) → ⊥)
  pub expects : Passes (expect true) × (Passes (expect false) → ⊥)
  -- one check that fails is enough, wherever it stands
  pub lists : AllPass (expect true ∷ expect true ∷ []) × (AllPass (expect false ∷ expect true ∷ []) → ⊥) × (AllPass (expect true ∷ expect false ∷ []) → ⊥)
  -- the last identity
  pub identities : (next_budget_id 18_446_744_073_709_551_614 ≡ expect true) × (next_budget_id 18_446_744_073_709_551_615 ≡ expect false)
  -- the methods. `some_account`: of 1,000 ns 600 left and 300 reserved, of 100 bytes 30 used and 20 reserved, start 0
  pub new_is : (new 9 10_000_000 10_000_000 100 0 ≡ expect true ∷ []) × (new 9 10_000_001 10_000_000 100 0 ≡ []) × (new 9 0 0 100 0 ≡ [])
      × (new 18_446_744_073_709_551_615 10_000_000 10_000_000 100 0 ≡ expect false ∷ [])
  -- due, not due, and before the start
  pub refill_is : (refill some_account 25_000_000
      ≡ difference 25_000_000 0 ∷ remainder 25_000_000 10_000_000 ∷ difference 25_000_000 5_000_000 ∷ difference 1_000 300 ∷ [])
      × (refill some_account 9_999_999 ≡ difference 9_999_999 0 ∷ [])
      × (refill (rust.set_period_start 5 some_account) 4 ≡ [])
  pub charge_cpu_is : (charge_cpu some_account 600 0 ≡ difference 0 0 ∷ difference 600 600 ∷ []) × (charge_cpu some_account 601 0 ≡ difference 0 0 ∷ [])
      × (charge_cpu some_account 601 25_000_000
      ≡ difference 25_000_000 0 ∷ remainder 25_000_000 10_000_000 ∷ difference 25_000_000 5_000_000 ∷ difference 1_000 300 ∷ difference 700 601 ∷ [])
  pub charge_memory_is : (charge_memory some_account 50 ≡ sum 30 50 ∷ []) × (charge_memory some_account 51 ≡ [])
  pub release_memory_is : (release_memory some_account 29 ≡ difference 30 29 ∷ []) × (release_memory some_account 31 ≡ [])
  pub release_child_is : (release_child true some_account (account 299 19 0 0 0 0) ≡ difference 300 299 ∷ difference 20 19 ∷ [])
      × (release_child true some_account (account 301 19 0 0 0 0) ≡ [])
      × (release_child false some_account (account 299 19 0 0 0 0) ≡ [])
  pub carve_out_is : (carve_out 9 some_account 400 40 0 ≡ difference 0 0 ∷ difference 600 400 ∷ sum 300 400 ∷ sum 20 40 ∷ expect true ∷ [])
      × (carve_out 9 some_account 601 40 0 ≡ difference 0 0 ∷ [])
      × (carve_out 9 some_account 400 51 0 ≡ difference 0 0 ∷ [])
      × (carve_out 9 some_account 601 40 25_000_000
      ≡ difference 25_000_000 0 ∷ remainder 25_000_000 10_000_000 ∷ difference 25_000_000 5_000_000 ∷ difference 1_000 300
      ∷ difference 700 601 ∷ sum 300 601 ∷ sum 20 40 ∷ expect true ∷ [])

pub panic_cases_hold : PanicCases
unfolding refill charge_cpu charge_memory release_memory release_child carve_out rust.refill rust.charge_memory rust.release_memory rust.release_child rust.carve_out_refilled
panic_cases_hold = record {
  sums = (omega arith, λ h. omega (arith, h));
  products = (omega arith, λ h. omega (arith, h));
  differences = (omega arith, λ h. omega (arith, h));
  remainders = (omega arith, λ h. omega (arith, h));
  expects = (refl, λ h. false≢true h);
  lists = ((refl, (refl, tt)), (λ h. false≢true h.0), λ h. false≢true h.1.0);
  identities = (refl, refl);
  new_is = (refl, refl, refl, refl);
  refill_is = (refl, refl, refl);
  charge_cpu_is = (refl, refl, refl);
  charge_memory_is = (refl, refl);
  release_memory_is = (refl, refl);
  release_child_is = (refl, refl, refl);
  carve_out_is = (refl, refl, refl, refl);
}
