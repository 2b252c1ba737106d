-- What can panic, written out: the whole list of checks of each call on a small registry, where the call goes through and where it stops, and what becomes of the
-- counter of budgets. Assumes nothing.
use Rattle.std.specs.Prelude.{◌≡◌, refl, true, false, [], ◌∷◌, ◌+◌, ◌^◌, ◌<◌}
use Rattle.std.proofs.Common.{arith}
use Rattle.carv_budget.specs.Account as account
use Rattle.carv_budget.specs.Rust as budget_rust
use Rattle.carv_budget.specs.Panics as budget_panics
use Rattle.carv_budget.specs.Panics.{sum, difference, remainder, expect}
use Rattle.carv_objects_spec.specs.Registry as r01
use Rattle.carv_objects_spec.specs.Registry.{Registry}
use Rattle.carv_objects_spec.specs.Rust as rust
use Rattle.carv_objects_spec.specs.Panics as panics
use Rattle.carv_objects_spec.specs.Panics.{checks, ids_after, NoPanics}
use Rattle.carv_objects_spec.specs.Book.{create, insert, create_budget, charge_more, uncharge, remove, refill, charge_cpu, pays_for_anything, read_account, charge_of, read_totals}
use Rattle.carv_objects_spec.proofs.Laws.Edges.{budget, registry, carved}

-- the next id is 2^64 − 1
abbrev pub last : Registry
last = registry 18_446_744_073_709_551_615 (budget 1 0 10_000_000 1_000_000 10_000_000 0 0 0 ∷ [])

-- `carved` is document 01's first cases: the root with 6,000,000 ns left and 4,000,000 reserved, 4,224 bytes used and 8,192 reserved, its Frame 2, and budget 3 with
-- 4,000,000 ns and 8,192 bytes. Budgets 1 and 2 of the counter are taken.
pub record PanicCases : Type 0 where
  pub carved_is : (r01.create_budget 1 4_000_000 8_192 0 (r01.create 3 1 true (r01.opening 10_000_000 1_000_000)).after).after ≡ carved
  -- a Frame; without backing; a kind that can't be created; more than budget 3 has free; an object that is no budget
  pub create_is : (checks (create 3 1 true) 3 carved ≡ sum 4_224 4_096 ∷ difference 8_320 4_096 ∷ sum 4_224 4_096 ∷ sum 4 1 ∷ [])
      × (checks (create 3 1 false) 3 carved ≡ sum 4_224 4_096 ∷ difference 8_320 4_096 ∷ [])
      × (checks (create 6 1 true) 3 carved ≡ sum 4_224 128 ∷ difference 4_352 128 ∷ [])
      × (checks (create 2 3 true) 3 carved ≡ [])
      × (checks (create 3 2 true) 3 carved ≡ [])
  pub insert_is : (checks (insert 5 1 100) 3 carved ≡ sum 4_224 100 ∷ sum 4 1 ∷ []) × (checks (insert 5 3 8_193) 3 carved ≡ [])
      × (checks (insert 5 1 0) 3 last ≡ sum 0 0 ∷ sum 18_446_744_073_709_551_615 1 ∷ [])
  -- carved out; refused by the account; the charge refused; the counter at its end
  pub create_budget_is : (checks (create_budget 1 1_000_000 1_000 0) 3 carved
      ≡ sum 4_224 128 ∷ expect true ∷ difference 0 0 ∷ difference 6_000_000 1_000_000 ∷ sum 4_000_000 1_000_000 ∷ sum 8_192 1_000 ∷ expect true ∷ sum 4 1 ∷ [])
      × (checks (create_budget 1 6_000_001 1_000 0) 3 carved ≡ sum 4_224 128 ∷ expect true ∷ difference 0 0 ∷ difference 4_352 128 ∷ [])
      × (checks (create_budget 2 0 0 0) 3 carved ≡ [])
      × (checks (create_budget 3 0 0 0) 18_446_744_073_709_551_615 carved
      ≡ sum 0 128 ∷ expect true ∷ difference 0 0 ∷ difference 4_000_000 0 ∷ sum 0 0 ∷ sum 0 0 ∷ expect false ∷ sum 4 1 ∷ [])
  pub charge_more_is : (checks (charge_more 2 100) 3 carved ≡ sum 4_224 100 ∷ expect true ∷ sum 4_096 100 ∷ [])
      × (checks (charge_more 2 1_000_000) 3 carved ≡ []) × (checks (charge_more 9 100) 3 carved ≡ [])
  pub uncharge_is : (checks (uncharge 2 100) 3 carved ≡ difference 4_224 100 ∷ []) × (checks (uncharge 2 4_225) 3 carved ≡ []) × (checks (uncharge 9 100) 3 carved ≡ [])
  -- a budget with its payer due and not due, one that pays for a Frame, an object, the root, a missing id
  pub remove_is : (checks (remove 3 25_000_000) 3 carved
      ≡ expect true ∷ difference 25_000_000 0 ∷ remainder 25_000_000 10_000_000 ∷ difference 25_000_000 5_000_000 ∷ difference 10_000_000 4_000_000
      ∷ difference 4_000_000 4_000_000 ∷ difference 8_192 8_192 ∷ difference 4_224 128 ∷ [])
      × (checks (remove 3 9_999_999) 3 carved ≡ expect true ∷ difference 9_999_999 0 ∷ difference 4_000_000 4_000_000 ∷ difference 8_192 8_192 ∷ difference 4_224 128 ∷ [])
      × (checks (remove 3 25_000_000) 3 (r01.create 3 3 true carved).after ≡ [])
      × (checks (remove 2 25_000_000) 3 carved ≡ expect true ∷ difference 4_224 4_096 ∷ [])
      × (checks (remove 1 25_000_000) 3 carved ≡ []) × (checks (remove 9 25_000_000) 3 carved ≡ [])
  pub refill_is : (checks (refill 1 25_000_000) 3 carved
      ≡ difference 25_000_000 0 ∷ remainder 25_000_000 10_000_000 ∷ difference 25_000_000 5_000_000 ∷ difference 10_000_000 4_000_000 ∷ [])
      × (checks (refill 1 9_999_999) 3 carved ≡ difference 9_999_999 0 ∷ []) × (checks (refill 2 25_000_000) 3 carved ≡ [])
  pub charge_cpu_is : (checks (charge_cpu 3 1_000_000 0) 3 carved ≡ difference 0 0 ∷ difference 4_000_000 1_000_000 ∷ [])
      × (checks (charge_cpu 3 4_000_001 0) 3 carved ≡ difference 0 0 ∷ []) × (checks (charge_cpu 2 1_000_000 0) 3 carved ≡ [])
  -- the readings
  pub readings : (checks (pays_for_anything 1) 3 carved ≡ []) × (checks (read_account 1) 3 carved ≡ []) × (checks (charge_of 1) 3 carved ≡ [])
      × (checks (read_totals 1) 3 carved ≡ [])
  -- the opening
  pub new_is : (panics.new 1 10_000_000 1_000_000 ≡ expect true ∷ expect true ∷ []) × (panics.new 1 10_000_001 1_000_000 ≡ expect false ∷ [])
  -- a budget made takes one of the counter; one refused, an object made, and a call on the next id do not
  pub counter : (ids_after (create_budget 1 1_000_000 1_000 0) 3 carved ≡ 4) × (ids_after (create_budget 1 6_000_001 1_000 0) 3 carved ≡ 3)
      × (ids_after (create 3 1 true) 3 carved ≡ 3) × (ids_after (remove 4 0) 3 carved ≡ 3)
  -- a list panics where a call of it does, the first or a later one
  pub lists : (NoPanics (insert 5 1 0 ∷ []) 2 last → ⊥) × (NoPanics (read_account 1 ∷ insert 5 1 0 ∷ []) 2 last → ⊥)

pub panic_cases_hold : PanicCases
unfolding checks panics.charge panics.credit budget_panics.refill budget_panics.charge_cpu budget_panics.charge_memory budget_panics.release_memory budget_panics.release_child budget_panics.carve_out rust.charge rust.credit budget_rust.refill budget_rust.charge_cpu_refilled budget_rust.charge_memory budget_rust.release_memory budget_rust.release_child budget_rust.carve_out_refilled account.due account.renew
panic_cases_hold = record {
  carved_is = refl;
  create_is = (refl, refl, refl, refl, refl);
  insert_is = (refl, refl, refl);
  create_budget_is = (refl, refl, refl, refl);
  charge_more_is = (refl, refl, refl);
  uncharge_is = (refl, refl, refl);
  remove_is = (refl, refl, refl, refl, refl, refl);
  refill_is = (refl, refl, refl);
  charge_cpu_is = (refl, refl, refl);
  readings = (refl, refl, refl, refl);
  new_is = (refl, refl);
  counter = (refl, refl, refl, refl);
  lists = (
    (λ h. let z : 18_446_744_073_709_551_615 + 1 < 2 ^ 64 = h.0.1.0 in omega arith),
    λ h. let z : 18_446_744_073_709_551_615 + 1 < 2 ^ 64 = h.1.0.1.0 in omega arith,
  );
}
