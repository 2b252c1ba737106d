-- Document 01's soundness of a board as a record of facts. proofs/Laws/SoundLaws.antt shows that it says what the test of specs/Sound.antt says. Assumes nothing.
use Rattle.std.specs.Prelude.{◌≡◌, true, false, not, ◌&&◌, ◌||◌, ℕ, ◌^◌, ◌≤◌, length, is_none, eqb}
use Rattle.carv_area.specs.Table.{Rising}
use Rattle.carv_objects_spec.proofs.Laws.SoundFacts as objects
use Rattle.carv_scheduler_spec.specs.Scheduler.{Board, idle, inactive, ready, running, dead, is, thread, has}
use Rattle.carv_scheduler_spec.specs.Sound.{member, distinct, unpaid}

pub record Sound (b : Board) : Type 0 where
  pub registry : objects.Sound b.registry
  pub few : length b.threads ≤ 128
  pub rising : Rising 0 (2 ^ 64) b.threads
  pub distinct_queue : distinct b.queue ≡ true
  pub queued : (i : ℕ) → member i b.queue ≡ (not (eqb i idle) && is ready (thread b.threads i))
  pub dead_current : (i : ℕ) → is dead (thread b.threads i) ≡ true → i ≡ b.current
  pub running_current : (i : ℕ) → is running (thread b.threads i) ≡ true → eqb i idle ≡ false → i ≡ b.current
  pub current_here : has b.threads b.current ≡ true
  pub current_active : is inactive (thread b.threads b.current) ≡ false
  pub idle_here : has b.threads idle ≡ true
  pub idle_state : (is ready (thread b.threads idle) || is running (thread b.threads idle)) ≡ true
  pub idle_runs : b.current ≡ idle → is running (thread b.threads idle) ≡ true
  pub budgets : (i : ℕ) → has b.threads i ≡ true → is_none (thread b.threads i).budget ≡ unpaid i
  pub few_exits : length b.exits ≤ 32
