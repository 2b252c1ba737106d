-- P3's cases on a board: a history that spends exactly the allowance, histories that overspend because their clock falls, each by another call, what ticks charge, and which calls
-- have a clock value. The definitions satisfy these together. Assumes nothing.
use Rattle.std.specs.Prelude.{◌≡◌, refl, true, List, [], ◌∷◌, ◌++◌, map, ℕ, Some, None}
use Rattle.std.proofs.Common.{arith}
use Rattle.carv_budget.specs.Account.{due, renew}
use Rattle.carv_objects_spec.specs.Book.{create_budget, charge_cpu, remove, refill, read_account}
use Rattle.carv_objects_spec.specs.Ledger.{Ledger, spent}
use Rattle.carv_scheduler_spec.specs.Scheduler.{fresh_context, results, opening}
use Rattle.carv_scheduler_spec.specs.Book.{Call, on_objects, create_user_thread, start, block_current, wake, is_blocked_on, kill, tick, plan, read_thread, read_current, read_switches, exit_of}
use Rattle.carv_scheduler_spec.specs.Runs.{Numbered, numbers}
use Rattle.carv_scheduler_spec.specs.Ledger.{ledger_after, clock, ClockNeverFalls, MovingClockNeverFalls}

-- "Opening: CPU 10,000,000, memory 1,000,000"
abbrev numbered : List Call → List Numbered
numbered cs = numbers cs (opening 10_000_000 1_000_000)

abbrev refusals : List Call → List ℕ
refusals cs = map (λ (n : Numbered). n.number) (numbered cs)

abbrev ledger : List Call → Ledger
ledger cs = ledger_after cs 10_000_000 1_000_000

-- Budget 2 is carved in period 0 and uses its 4 ms in period 1, where the root is not yet renewed. It is removed, and the root runs.
abbrev removed : (time ns : ℕ) → List Call
removed time ns =
    on_objects (create_budget 1 4_000_000 8_192 0) ∷ on_objects (charge_cpu 2 4_000_000 10_000_000) ∷ on_objects (remove 2 time) ∷ on_objects (charge_cpu 1 ns 10_000_000) ∷ []

-- the root runs 10 ms in period 1, then a call at another time, then the root again
abbrev again : Call → List Call
again c = on_objects (charge_cpu 1 10_000_000 10_000_000) ∷ c ∷ on_objects (charge_cpu 1 10_000_000 12_000_000) ∷ []

-- the same with thread 7 ready on the root's budget
abbrev threaded : Call → List Call
threaded c = create_user_thread 7 1 true ∷ start 7 20 30 40 fresh_context ∷ again c

-- threads 7 and 8, on budget 2 and on 3, the child of 2; thread 7 runs
abbrev running : List Call
running =
    on_objects (create_budget 1 4_000_000 8_192 0) ∷ on_objects (create_budget 2 500_000 0 0) ∷ create_user_thread 7 2 true ∷ create_user_thread 8 3 true
    ∷ start 7 20 30 40 fresh_context ∷ start 8 20 30 40 fresh_context ∷ kill 0 1 ∷ plan 0 ∷ []

-- thread 7 runs on the root's budget: 10 ms in period 1, a tick ahead, and what that leaves
abbrev ticked_ahead : List Call
ticked_ahead =
    create_user_thread 7 1 true ∷ start 7 20 30 40 fresh_context ∷ kill 0 1 ∷ plan 0 ∷ on_objects (charge_cpu 1 10_000_000 10_000_000) ∷ tick 30
    ∷ on_objects (charge_cpu 1 9_000_000 12_000_000) ∷ []

pub record BoardLedgerCases : Type 0 where
  -- the bound is reached: removed at its time, the root is renewed first, 6 ms are left to it, and period 1 has 10 ms, the removed budget's 4 among them, and not a ns more
  pub exactly : (refusals (removed 10_000_000 6_000_000) ≡ 0 ∷ 0 ∷ 0 ∷ 0 ∷ []) × (spent (ledger (removed 10_000_000 6_000_000)) 1 1 ≡ 10_000_000)
      × (spent (ledger (removed 10_000_000 6_000_000)) 1 2 ≡ 4_000_000)
  pub not_more : refusals (removed 10_000_000 6_000_001) ≡ 0 ∷ 0 ∷ 0 ∷ 12 ∷ []
  pub rising : ClockNeverFalls (numbered (removed 10_000_000 6_000_000)) × MovingClockNeverFalls (numbered (removed 10_000_000 6_000_000))
  -- it is of periods from time 0, not of any 10 ms: all may be spent at the end of one and at the start of the next
  pub any_window : (refusals (on_objects (charge_cpu 1 10_000_000 9_999_999) ∷ on_objects (charge_cpu 1 10_000_000 10_000_000) ∷ []) ≡ 0 ∷ 0 ∷ [])
      × (spent (ledger (on_objects (charge_cpu 1 10_000_000 9_999_999) ∷ on_objects (charge_cpu 1 10_000_000 10_000_000) ∷ [])) 0 1 ≡ 10_000_000)
      × (spent (ledger (on_objects (charge_cpu 1 10_000_000 9_999_999) ∷ on_objects (charge_cpu 1 10_000_000 10_000_000) ∷ [])) 1 1 ≡ 10_000_000)
  -- the hypothesis is needed: with a removal's clock that falls, as without P2, the same 4 ms run twice
  pub removal_falls : (refusals (removed 0 10_000_000) ≡ 0 ∷ 0 ∷ 0 ∷ 0 ∷ []) × (spent (ledger (removed 0 10_000_000)) 1 1 ≡ 14_000_000)
      × (MovingClockNeverFalls (numbered (removed 0 10_000_000)) → ⊥)
  -- with a renewal, a carve-out, a CPU charge, a planning or a tick whose time lies ahead, and a charge behind it, 10 ms run twice, less what the tick takes; so too if the carve-out
  -- or the charge is refused with 12
  pub renewal_ahead : (refusals (again (on_objects (refill 1 30_000_000))) ≡ 0 ∷ 0 ∷ 0 ∷ []) × (spent (ledger (again (on_objects (refill 1 30_000_000)))) 1 1 ≡ 20_000_000)
      × (MovingClockNeverFalls (numbered (again (on_objects (refill 1 30_000_000)))) → ⊥)
  pub carve_out_ahead : (refusals (again (on_objects (create_budget 1 0 0 30_000_000))) ≡ 0 ∷ 0 ∷ 0 ∷ []) × (spent (ledger (again (on_objects (create_budget 1 0 0 30_000_000)))) 1 1 ≡ 20_000_000)
      × (MovingClockNeverFalls (numbered (again (on_objects (create_budget 1 0 0 30_000_000)))) → ⊥)
  pub charge_ahead : (refusals (again (on_objects (charge_cpu 1 0 30_000_000))) ≡ 0 ∷ 0 ∷ 0 ∷ []) × (spent (ledger (again (on_objects (charge_cpu 1 0 30_000_000)))) 1 1 ≡ 20_000_000)
      × (MovingClockNeverFalls (numbered (again (on_objects (charge_cpu 1 0 30_000_000)))) → ⊥)
  pub refused_ahead : (refusals (again (on_objects (charge_cpu 1 10_000_001 30_000_000))) ≡ 0 ∷ 12 ∷ 0 ∷ []) × (spent (ledger (again (on_objects (charge_cpu 1 10_000_001 30_000_000)))) 1 1 ≡ 20_000_000)
      × (MovingClockNeverFalls (numbered (again (on_objects (charge_cpu 1 10_000_001 30_000_000)))) → ⊥)
  pub refused_carve_out_ahead : (refusals (again (on_objects (create_budget 1 10_000_001 0 30_000_000))) ≡ 0 ∷ 12 ∷ 0 ∷ [])
      × (spent (ledger (again (on_objects (create_budget 1 10_000_001 0 30_000_000)))) 1 1 ≡ 20_000_000)
      × (MovingClockNeverFalls (numbered (again (on_objects (create_budget 1 10_000_001 0 30_000_000)))) → ⊥)
  pub tick_ahead : (refusals ticked_ahead ≡ 0 ∷ 0 ∷ 0 ∷ 0 ∷ 0 ∷ 0 ∷ 0 ∷ []) × (spent (ledger ticked_ahead) 1 1 ≡ 19_000_000) × (MovingClockNeverFalls (numbered ticked_ahead) → ⊥)
  pub planning_ahead : (refusals (threaded (plan 30)) ≡ 0 ∷ 0 ∷ 0 ∷ 0 ∷ 0 ∷ []) × (spent (ledger (threaded (plan 30))) 1 1 ≡ 20_000_000) × (MovingClockNeverFalls (numbered (threaded (plan 30))) → ⊥)
  -- a call refused otherwise may carry any time: the clock of the others doesn't fall, 02's does, and the ledger is that without it
  pub refused_otherwise : (refusals (again (on_objects (refill 9 30_000_000))) ≡ 0 ∷ 7 ∷ 12 ∷ []) × MovingClockNeverFalls (numbered (again (on_objects (refill 9 30_000_000))))
      × (ClockNeverFalls (numbered (again (on_objects (refill 9 30_000_000)))) → ⊥)
      × (ledger (again (on_objects (refill 9 30_000_000))) ≡ ledger (again (on_objects (read_account 1))))
  -- thread 7's tick charges 1 ms to budget 2, and thread 8's the 0.5 ms that budget 3 has; a planning charges nothing
  pub ticks : (spent (ledger running) 0 1 ≡ 0) × (spent (ledger (running ++ (tick 1 ∷ []))) 0 2 ≡ 1_000_000) × (spent (ledger (running ++ (tick 1 ∷ plan 1 ∷ []))) 0 1 ≡ 1_000_000)
  pub less_left : (spent (ledger (running ++ (tick 1 ∷ plan 1 ∷ tick 2 ∷ []))) 0 3 ≡ 500_000) × (spent (ledger (running ++ (tick 1 ∷ plan 1 ∷ tick 2 ∷ []))) 0 2 ≡ 1_500_000)
      × (spent (ledger (running ++ (tick 1 ∷ plan 1 ∷ tick 2 ∷ []))) 0 1 ≡ 1_500_000)
  -- a tick before a period's end is in that period; one at its start is in the next, with the budget renewed though it had nothing left
  pub same_period : (spent (ledger (running ++ (tick 9 ∷ []))) 0 2 ≡ 1_000_000) × (spent (ledger (running ++ (tick 9 ∷ []))) 1 2 ≡ 0)
  pub renewed : spent (ledger (running ++ (on_objects (charge_cpu 2 3_500_000 9_999_999) ∷ tick 10 ∷ []))) 1 2 ≡ 1_000_000
  pub next_period : (spent (ledger (running ++ (tick 10 ∷ []))) 0 2 ≡ 0) × (spent (ledger (running ++ (tick 10 ∷ []))) 1 2 ≡ 1_000_000)
  -- a current thread that is blocked or killed is charged still; one whose budget is gone, or that has none, is not, nor by a tick that is refused
  pub stopped : (spent (ledger (running ++ (block_current 4 9 ∷ tick 1 ∷ []))) 0 2 ≡ 1_000_000) × (spent (ledger (running ++ (kill 7 1 ∷ tick 1 ∷ []))) 0 2 ≡ 1_000_000)
  pub gone : ledger (running ++ (plan 0 ∷ on_objects (remove 3 0) ∷ tick 1 ∷ [])) ≡ ledger running
  pub unpaid : ledger (tick 1 ∷ []) ≡ ledger []
  pub late : (refusals (tick 18_446_744_073_710 ∷ []) ≡ 3 ∷ []) × (ledger (running ++ (tick 18_446_744_073_710 ∷ [])) ≡ ledger running)
  -- the clock values: those of the registry's calls, a tick's and a planning's; of no other call, a sleep's tick included
  pub times : map clock (on_objects (refill 8 9) ∷ tick 3 ∷ plan 4 ∷ []) ≡ Some 9 ∷ Some 3_000_000 ∷ Some 4_000_000 ∷ []
  pub no_times : map clock (on_objects (read_account 8) ∷ create_user_thread 7 1 true ∷ start 7 20 30 40 fresh_context ∷ block_current 5 6 ∷ wake 7 (results 0 0 0) ∷ is_blocked_on 7 5 6 ∷ kill 7 1
      ∷ read_thread 7 ∷ read_current ∷ read_switches ∷ exit_of 7 ∷ [])
      ≡ None ∷ None ∷ None ∷ None ∷ None ∷ None ∷ None ∷ None ∷ None ∷ None ∷ None ∷ []

pub board_ledger_cases_hold : BoardLedgerCases
unfolding due renew
board_ledger_cases_hold = record {
  exactly = (refl, refl, refl);
  not_more = refl;
  rising = ((omega arith, (omega arith, (omega arith, (omega arith, tt)))), (omega arith, (omega arith, (omega arith, (omega arith, tt)))));
  any_window = (refl, refl, refl);
  removal_falls = (refl, refl, λ h. omega (arith, h.1.1.0));
  renewal_ahead = (refl, refl, λ h. omega (arith, h.1.1.0));
  carve_out_ahead = (refl, refl, λ h. omega (arith, h.1.1.0));
  charge_ahead = (refl, refl, λ h. omega (arith, h.1.1.0));
  refused_ahead = (refl, refl, λ h. omega (arith, h.1.1.0));
  refused_carve_out_ahead = (refl, refl, λ h. omega (arith, h.1.1.0));
  tick_ahead = (refl, refl, λ h. omega (arith, h.1.1.1.0));
  planning_ahead = (refl, refl, λ h. omega (arith, h.1.1.0));
  refused_otherwise = (refl, (omega arith, (omega arith, tt)), λ h. omega (arith, h.1.1.0), refl);
  ticks = (refl, refl, refl);
  less_left = (refl, refl, refl);
  same_period = (refl, refl);
  renewed = refl;
  next_period = (refl, refl);
  stopped = (refl, refl);
  gone = refl;
  unpaid = refl;
  late = (refl, refl);
  times = refl;
  no_times = refl;
}
