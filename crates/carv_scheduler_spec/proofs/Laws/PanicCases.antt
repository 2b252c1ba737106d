-- What can panic, written out: the whole list of checks of each call on small boards, where the call goes through and where it stops. Assumes nothing.
use Rattle.std.specs.Prelude.{◌≡◌, refl, true, false, [], ◌∷◌, ℕ}
use Rattle.std.proofs.lemmas.Bool.{false≢true}
use Rattle.carv_budget.specs.Account as account
use Rattle.carv_budget.specs.Rust as budget_rust
use Rattle.carv_budget.specs.Panics as budget_panics
use Rattle.carv_budget.specs.Panics.{sum, product, difference, remainder, expect}
use Rattle.carv_objects_spec.specs.Rust as objects_rust
use Rattle.carv_objects_spec.specs.Book as objects
use Rattle.carv_objects_spec.specs.Panics as objects_panics
use Rattle.carv_scheduler_spec.specs.Scheduler as s01
use Rattle.carv_scheduler_spec.specs.Scheduler.{Board, fresh_context, results}
use Rattle.carv_scheduler_spec.specs.Panics.{checks, ids_after, NoPanics}
use Rattle.carv_scheduler_spec.specs.Book.{on_objects, create_user_thread, start, block_current, wake, is_blocked_on, kill, tick, plan, read_thread, read_current, read_switches, exit_of}
use Rattle.carv_scheduler_spec.proofs.Laws.Limits.{board, made, started, running, idling}
use Rattle.carv_scheduler_spec.proofs.Laws.Edges.{low_7}

-- thread 7 was made on budget 99, which isn't there, and started
abbrev pub nobody_pays : Board
nobody_pays = (s01.start 7 0 0 0 fresh_context (s01.create_user_thread 7 99 true board).after).after

-- boards that are not sound: the current thread, 9, isn't there; nor is any other
abbrev pub with_current : ℕ → Board → Board
with_current i b = record { registry = b.registry; threads = b.threads; queue = b.queue; current = i; switches = b.switches; exits = b.exits }

abbrev pub no_threads : Board
no_threads = record { registry = board.registry; threads = []; queue = []; current = 9; switches = 0; exits = [] }

-- `started`: thread 7, on the root budget, is Ready in the queue, and thread 0 runs; in `running` thread 7 does, in `idling` idle. The root has 10,000,000 ns, of
-- which in `low_7`, where thread 7 runs, 300,000 are left.
pub record PanicCases : Type 0 where
  pub block_current_is : (checks (block_current 5 3) 2 started ≡ expect true ∷ []) × (checks (block_current 5 3) 2 (with_current 9 started) ≡ expect false ∷ [])
  -- a thread without a budget; one whose budget is charged, renewed or not; one whose budget is drained; one that isn't there
  pub tick_is : (checks (tick 10) 2 started ≡ product 10 1_000_000 ∷ expect true ∷ [])
      × (checks (tick 2) 2 running ≡ product 2 1_000_000 ∷ expect true ∷ difference 2_000_000 0 ∷ difference 10_000_000 1_000_000 ∷ [])
      × (checks (tick 15) 2 running
      ≡ product 15 1_000_000 ∷ expect true ∷ difference 15_000_000 0 ∷ remainder 15_000_000 10_000_000 ∷ difference 15_000_000 5_000_000 ∷ difference 10_000_000 0
      ∷ difference 10_000_000 1_000_000 ∷ [])
      × (checks (tick 2) 2 low_7 ≡ product 2 1_000_000 ∷ expect true ∷ difference 2_000_000 0 ∷ difference 2_000_000 0 ∷ difference 300_000 300_000 ∷ [])
      × (checks (tick 2) 2 (with_current 9 started) ≡ product 2 1_000_000 ∷ expect false ∷ [])
  -- thread 0 goes back, thread 7 at place 0 can run, is taken from there, and both are there
  pub plan_is : (checks (plan 2) 2 started
      ≡ product 2 1_000_000 ∷ expect true ∷ expect true ∷ difference 2_000_000 0 ∷ expect true ∷ expect true ∷ expect true ∷ [])
      × (checks (plan 15) 2 started
      ≡ product 15 1_000_000 ∷ expect true ∷ expect true ∷ difference 15_000_000 0 ∷ remainder 15_000_000 10_000_000 ∷ difference 15_000_000 5_000_000
      ∷ difference 10_000_000 0 ∷ expect true ∷ expect true ∷ expect true ∷ [])
  -- thread 0 alone goes back and is taken again; thread 7 at place 0 is passed over for thread 0 at place 1; idle doesn't go back, finds no other, and stays
  pub plan_alone : checks (plan 2) 2 board ≡ product 2 1_000_000 ∷ expect true ∷ expect true ∷ expect true ∷ expect true ∷ []
  pub plan_past : checks (plan 2) 2 nobody_pays ≡ product 2 1_000_000 ∷ expect true ∷ expect true ∷ expect true ∷ expect true ∷ expect true ∷ []
  pub plan_idle : checks (plan 2) 2 idling ≡ product 2 1_000_000 ∷ expect true ∷ []
  -- the current thread isn't there: it doesn't go back, and isn't found behind the switch to thread 7; where no thread is there, idle isn't found either
  pub plan_nobody : (checks (plan 2) 2 (with_current 9 started)
      ≡ product 2 1_000_000 ∷ expect true ∷ difference 2_000_000 0 ∷ expect true ∷ expect true ∷ expect false ∷ [])
      × (checks (plan 2) 2 no_threads ≡ product 2 1_000_000 ∷ expect false ∷ expect false ∷ [])
  -- the registry's calls are the registry's
  pub on_objects_is : (checks (on_objects (objects.insert 5 1 100)) 2 started ≡ sum 0 100 ∷ sum 2 1 ∷ [])
      × (checks (on_objects (objects.read_account 1)) 2 started ≡ []) × (checks (on_objects (objects.read_totals 1)) 2 started ≡ [])
  -- the others
  pub others : (checks (create_user_thread 8 1 true) 2 started ≡ []) × (checks (start 7 20 30 40 fresh_context) 2 made ≡ []) × (checks (wake 7 (results 1 2 3)) 2 started ≡ [])
      × (checks (is_blocked_on 7 5 3) 2 started ≡ []) × (checks (kill 7 1) 2 started ≡ [])
  pub readings : (checks (read_thread 7) 2 started ≡ []) × (checks read_current 2 started ≡ []) × (checks read_switches 2 started ≡ []) × (checks (exit_of 7) 2 started ≡ [])
  -- a budget made takes one of the counter
  pub counter : (ids_after (on_objects (objects.create_budget 1 0 0 0)) 2 started ≡ 3) × (ids_after (on_objects (objects.create 3 1 true)) 2 started ≡ 2)
      × (ids_after (tick 2) 2 running ≡ 2)
  -- a list panics where a call of it does, the first or a later one
  pub lists : (NoPanics (block_current 5 3 ∷ []) 2 (with_current 9 started) → ⊥) × (NoPanics (read_current ∷ block_current 5 3 ∷ []) 2 (with_current 9 started) → ⊥)

pub panic_cases_hold : PanicCases
unfolding checks objects_panics.checks objects_panics.charge budget_panics.refill budget_panics.charge_cpu budget_panics.charge_memory budget_panics.carve_out objects_rust.charge objects_rust.credit budget_rust.refill budget_rust.charge_cpu_refilled budget_rust.charge_memory budget_rust.release_memory budget_rust.carve_out_refilled account.due account.renew
panic_cases_hold = record {
  block_current_is = (refl, refl);
  tick_is = (refl, refl, refl, refl, refl);
  plan_is = (refl, refl);
  plan_alone = refl;
  plan_past = refl;
  plan_idle = refl;
  plan_nobody = (refl, refl);
  on_objects_is = (refl, refl, refl);
  others = (refl, refl, refl, refl, refl);
  readings = (refl, refl, refl, refl);
  counter = (refl, refl, refl);
  lists = ((λ h. false≢true h.0.0), λ h. false≢true h.1.0.0);
}
