-- Demand 3's histories: after each list of calls the board is sound, and the book follows it. Assumes nothing.
use Rattle.std.specs.Prelude.{◌≡◌, refl, true, List, [], ◌∷◌, ℕ, ◌≤◌, None}
use Rattle.std.proofs.Common.{ap, arith}
use Rattle.std.proofs.lemmas.Bool.{false≢true}
use Rattle.carv_area.specs.Table.{at}
use Rattle.carv_budget.specs.Account as account
use Rattle.carv_objects_spec.proofs.Laws.Asked.{asked}
use Rattle.carv_objects_spec.proofs.Laws.History as registry_history
use Rattle.carv_objects_spec.specs.Runs as registry_runs
use Rattle.carv_scheduler_spec.specs.Scheduler as scheduler
use Rattle.carv_scheduler_spec.specs.Scheduler.{Board, wait, wait_of, or_fresh, thread, has}
use Rattle.carv_scheduler_spec.proofs.Laws.SoundFacts.{Sound}
use Rattle.carv_scheduler_spec.proofs.Laws.Kept as calls
use Rattle.carv_scheduler_spec.specs.Book as book
use Rattle.carv_scheduler_spec.specs.Book.{Book, Call, on_objects, create_user_thread, start, block_current, wake, is_blocked_on, kill, tick, plan, read_thread, read_current, read_switches, exit_of, write}
use Rattle.carv_scheduler_spec.specs.Runs.{run, after, numbers, write_all, Fits, AllFit}
use Rattle.carv_scheduler_spec.proofs.Laws.Following.{Known, FollowsBoard, Written, on_objects_follows, create_follows, start_follows, wake_follows, block_follows, kill_follows, tick_follows, plan_follows}

-- every call
pub write_follows : (c : Call) (b : Board) (k : Book) → Fits c → Sound b → FollowsBoard b k → FollowsBoard (run c b).after (write c (run c b).number k)
write_follows (on_objects c) b k fits s F = on_objects_follows b k s F c
write_follows (create_user_thread i budget stack) b k fits s F = create_follows b k s F i budget stack fits
write_follows (start i space cspace root context) b k fits s F = start_follows b k s F i space cspace root context
write_follows (block_current kind number) b k fits s F = block_follows b k s F kind number
write_follows (wake i r) b k fits s F = wake_follows b k s F i r
write_follows (is_blocked_on i kind number) b k fits s F = asked (Written (is_blocked_on i kind number) k) (scheduler.wait_listed kind) F (λ h. F)
write_follows (kill i cause) b k fits s F = kill_follows b k s F i cause
write_follows (tick n) b k fits s F = tick_follows b k s F n
write_follows (plan n) b k fits s F = plan_follows n b k s F
write_follows (read_thread i) b k fits s F = asked (Written (read_thread i) k) (has b.threads i) F (λ h. F)
write_follows read_current b k fits s F = F
write_follows read_switches b k fits s F = F
write_follows (exit_of i) b k fits s F = F

pub kept : (c : Call) (b : Board) → Fits c → Sound b → Sound (run c b).after
kept (on_objects c) b fits s = calls.on_registry_kept (registry_runs.run c b.registry) b (registry_history.kept c b.registry s.registry) s
kept (create_user_thread i budget stack) b fits s = calls.create_user_thread_kept i budget stack b fits s
kept (start i space cspace root context) b fits s = calls.start_kept i space cspace root context b s
kept (block_current kind number) b fits s = calls.block_current_kept kind number b s
kept (wake i r) b fits s = calls.wake_kept i r b s
kept (is_blocked_on i kind number) b fits s = asked (λ a. Sound a.after) (scheduler.wait_listed kind) s (λ h. s)
kept (kill i cause) b fits s = calls.kill_kept i cause b s
kept (tick n) b fits s = calls.tick_kept n b s
kept (plan n) b fits s = calls.plan_kept n b s
kept (read_thread i) b fits s = asked (λ a. Sound a.after) (has b.threads i) s (λ h. s)
kept read_current b fits s = s
kept read_switches b fits s = s
kept (exit_of i) b fits s = s

-- Lists of calls.

-- the board is sound, and the book follows it
pub record Stands (b : Board) (k : Book) : Type 0 where
  pub sound : Sound b
  pub follows : FollowsBoard b k

pub after_stands : (cs : List Call) (b : Board) (k : Book) → AllFit cs → Stands b k → Stands (after cs b) (write_all (numbers cs b) k)
after_stands [] b k fits h = h
after_stands (c ∷ cs) b k fits h =
    after_stands cs (run c b).after (write c (run c b).number k) fits.1
    (record { sound = kept c b fits.0 h.sound; follows = write_follows c b k fits.0 h.sound h.follows })

pub opening_follows : (cpu memory : ℕ) → FollowsBoard (scheduler.opening cpu memory) (book.opening cpu memory)
opening_follows cpu memory = record {
  objects = registry_history.opening_follows cpu memory;
  current = refl;
  queue = refl;
  runs = refl;
  rising = (omega arith, (omega arith, omega arith));
  waits = calls.three (λ i. wait_of (thread (scheduler.opening cpu memory).threads i) ≡ (book.thread (book.opening cpu memory).threads i).wait) refl refl
      (λ i a c. let q : at (scheduler.opening cpu memory).threads i ≡ None = rw (a, c) in
      let z : at (book.opening cpu memory).threads i ≡ None = rw (a, c) in
      rw (ap or_fresh q, ap book.or_none z));
  budgets = calls.three (λ i. has (scheduler.opening cpu memory).threads i ≡ true
      → Known (thread (scheduler.opening cpu memory).threads i) (book.opening cpu memory).threads i)
      (λ e. record { there = refl; budget = refl }) (λ e. record { there = refl; budget = refl })
      (λ i a c e. absurd (false≢true (rw (a, c) at e)));
}

pub opening_stands : (cpu memory : ℕ) → cpu ≤ account.period → Stands (scheduler.opening cpu memory) (book.opening cpu memory)
opening_stands cpu memory h = record { sound = calls.opening_sound cpu memory h; follows = opening_follows cpu memory }
